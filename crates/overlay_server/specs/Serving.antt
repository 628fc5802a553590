-- What a server leaves: its sessions' replies, and its store.
use Rattle.std.specs.Prelude.{◌≡◌, ◌⊎◌, ◌∷◌, ◌<◌, ◌≤◌, ℕ, false, is_some, List, [], length, map, All, Option, Some, None}
use Rattle.std.specs.Arc.{arc_value}
use Rattle.std.specs.List.{AllByRecursion}
use Rattle.logbook.specs.Pages.{Book}
use Rattle.disk_model.specs.declared.disk.Disk.{Ghosts}
use Rattle.disk_model.specs.Disk as device
use Rattle.disk_model.specs.Moments.{Leaves, LeavesOnly}
use Rattle.overlay_terms.specs.Histories.{Version, Entry, History, BeginsWith, newest, commands_in}
use Rattle.root_store.specs.Running.{is_busy}
use Rattle.root_store.specs.declared.phase.Phase.TheVariants.{Failed}
use Rattle.flush_core.specs.declared.flusher.Flusher.{Flusher}
use Rattle.book_history.specs.Known.{Known, seen}
use Rattle.book_history.specs.Logs.{entry, no_event, history_of, newest_in, IsLog}
use Rattle.book_lock.specs.Steps.{beginners, HasAllOf}
use Rattle.book_history.specs.declared.fault.ReportedFault.{ReportedFault}
use Rattle.script_form.specs.declared.fault.CommandFault.{CommandFault}
use Rattle.script_form.specs.Transcript.{BookStore, StoreReport, of_number, of_fault, store_by}
use Rattle.server_session.specs.Fault.{store_fault_of}
use Rattle.server_session.specs.Session.{IsSessionWithin}
use Rattle.kept_store.specs.Among.{IsFileIn, IsFileExactlyIn}
use Rattle.kept_store.specs.Failing.{FailedAt}
use Rattle.kept_store.specs.Storing.{IsStoreOf, IsStored}
use Rattle.store_flushing.specs.ReportNote.{StaysReported, notes_in}
use Rattle.kept_store.specs.Unstored.{IsReasonGiven}
use Rattle.store_flushing.specs.declared.closed.Closed.{Closed}
use Rattle.store_flushing.specs.declared.keeper.report_log.ReportNote.{ReportNote}
use Rattle.session_threads.specs.declared.port.Finished.{Finished}
use Rattle.overlay_server.specs.Given.{Given}
use Rattle.overlay_server.specs.declared.outcome.Left.{Left}

-- the log that a book over a version begins with
abbrev pub first_log : Version → List Entry
first_log start = entry no_event start ∷ []

-- ---- what is stored, for what the store failed, and what may be reported of it

-- which number of which log is stored: what the first version's store held, followed to that log; without a store, none
abbrev pub IsStoredOf : {D : Type 0} (g : Ghosts D) → Version → Option (Flusher D g) → List Entry → ℕ → Type 0
IsStoredOf g start None log number = ⊥
IsStoredOf g start (Some old) log number =
    IsStoreOf g (history_of (first_log start)) old → IsStored g (history_of (first_log start)) old log number

-- a number reported durable was stored: a store of the first version, followed to a beginning of the history, held no less
pub record WasHeld {D : Type 0} (g : Ghosts D) (start : Version) (old : Flusher D g) (history : History) (number : ℕ) : Type 0 where
  pub log : List Entry
  pub before : BeginsWith history (history_of log)
  pub held : ℕ
  pub no_less : number ≤ held
  pub stored : IsStored g (history_of (first_log start)) old log held

-- of which history a server reports the durable number to a session: of one whose number was stored; without a store, of none
abbrev pub IsHeldOf : {D : Type 0} (g : Ghosts D) → Version → Option (Flusher D g) → History → Type 0
IsHeldOf g start None history = ⊥
IsHeldOf g start (Some old) history =
    IsStoreOf g (history_of (first_log start)) old → WasHeld g start old history (newest history).durable

-- for which fault of which log the store failed: the first version's store, followed to that log; without a store, for none
abbrev pub IsFailedOf : {D : Type 0} (g : Ghosts D) → Version → Option (Flusher D g) → List Entry → ReportedFault → Type 0
IsFailedOf g start None log fault = ⊥
IsFailedOf g start (Some old) log fault =
    IsStoreOf g (history_of (first_log start)) old → FailedAt g (history_of (first_log start)) old log fault

-- a fault was reported for which the store failed: the first version's store, followed to a beginning of the history
pub record HadFailed {D : Type 0} (g : Ghosts D) (start : Version) (old : Flusher D g) (history : History) (fault : CommandFault) : Type 0 where
  pub log : List Entry
  pub before : BeginsWith history (history_of log)
  pub reported : ReportedFault
  pub same : fault ≡ store_fault_of reported
  pub failed : FailedAt g (history_of (first_log start)) old log reported

-- which fault of its store a server reports to a session at which history: one for which that failed
abbrev pub ServerReportsFault : {D : Type 0} (g : Ghosts D) → Version → Option (Flusher D g) → History → CommandFault → Type 0
ServerReportsFault g start None history fault = ⊥
ServerReportsFault g start (Some old) history fault =
    IsStoreOf g (history_of (first_log start)) old → ∥ HadFailed g start old history fault ∥₁

-- what a server reports to a session of its store
abbrev pub ServerReports : {D : Type 0} (g : Ghosts D) → Version → Option (Flusher D g) → History → StoreReport → Type 0
ServerReports g start store history of_number = IsHeldOf g start store history
ServerReports g start store history (of_fault fault) = ServerReportsFault g start store history fault

-- what the sessions of a server know of its store
abbrev pub store_from : {D : Type 0} (g : Ghosts D) → Version → Option (Flusher D g) → BookStore
store_from g start store = store_by (ServerReports g start store) (is_some store)

-- ---- sessions

-- a session's part in a server: what it had seen at first, what it was given, and what it left
pub record Part (W : Type 0) : Type 0 where
  pub session : Known
  pub given : Given
  pub finished : Finished W

-- a session was served: what it put after what its writer had are the replies to its lines, by histories that it has
-- seen then; the log has all of that, and of its batches just those it made; `stored`: what is known of the store
pub record IsServed {W : Type 0} (stored : BookStore) (contents : W → Option (List ℕ)) (log : List Entry) (part : Part W) : Type 0 where
  pub now : Known
  pub left : Option (List ℕ)
  pub same : now.session ≡ part.session.session
  pub goes_on : BeginsWith (seen now) (seen part.session)
  pub ran : IsSessionWithin part.given.most stored part.finished.end part.session now part.given.script left part.given.held (contents part.finished.writer)
  pub own : HasAllOf log now

-- each of what was given has a session of the book that begins with a version, by their order, and was served
pub record AreServed {W : Type 0} (stored : BookStore) (contents : W → Option (List ℕ)) (start : Version) (log : List Entry) (all : List Given) (finished : List (Finished W)) : Type 0 where
  pub book : Book
  pub parts : List (Part W)
  pub sessions : map (λ (part : Part W). part.session) parts ≡ beginners (record { book = book; log = first_log start }) (length all)
  pub given_are : map (λ (part : Part W). part.given) parts ≡ all
  pub finished_are : map (λ (part : Part W). part.finished) parts ≡ finished
  pub served : AllByRecursion (IsServed stored contents log) parts

-- ---- the store

module _ {D : Type 0} (g : Ghosts D) where
  -- what a run leaves of a store: a crash at any moment of it leaves a file that holds a version of the log that the
  -- run ended with, no older than what was stored at first, and from then on no older than what is stored; that is no
  -- older than what was reported durable; and just it, unless a device call failed, before the run or within it. What
  -- it reported durable was written down as it was reported, and from that moment on a crash leaves no older version
  pub record IsLeftBy (log : List Entry) (written : List ReportNote) (old last : Flusher D g) : Type 0 where
    pub no_less : old.commit.root.version ≤ last.commit.root.version
    pub moments : LeavesOnly g old.commit.disk last.commit.disk (IsFileIn (history_of log) old.commit.root.version)
    pub reported : All (λ (e : Entry). e.version.durable ≤ last.commit.root.version) log
    pub files : Leaves g last.commit.disk (IsFileIn (history_of log) last.commit.root.version)
    pub exactly : (old.commit.phase ≡ Failed) ⊎ (device.Failed (g.faults old.commit.disk) (g.faults last.commit.disk)
        ⊎ Leaves g last.commit.disk (IsFileExactlyIn (history_of log) last.commit.root.version))
    pub stays : StaysReported g (history_of log) written old.commit.disk last.commit.disk

  -- what is left of a store of the first version: its disk, idle or failed, and why it does not hold the last one
  pub record IsLeft (start : Version) (old : Flusher D g) (closed : Closed D) : Type 0 where
    pub last : Flusher D g
    pub disk : closed.disk ≡ Some last.commit.disk
    pub stored : closed.stored ≡ last.commit.root.version
    pub rests : is_busy last.commit.phase ≡ false
    pub fault : IsReasonGiven closed.fault last (arc_value closed.version)
    pub left : IsStoreOf g (history_of (first_log start)) old → IsLeftBy closed.seen_log.log (notes_in closed.notes) old last

  -- the same where there was one
  abbrev pub IsLeftOfStore : Version → Option (Flusher D g) → Closed D → Type 0
  IsLeftOfStore start None closed = (closed.stored ≡ 0) × (closed.disk ≡ None)
  IsLeftOfStore start (Some old) closed = IsLeft start old closed

-- ---- the server

-- a server ran from a version and its store to its book's end; its sessions alone, numbered by port from 0, had commands accepted
pub record IsLeftFrom {W D : Type 0} (contents : W → Option (List ℕ)) (g : Ghosts D) (start : Version) (store : Option (Flusher D g)) (all : List Given) (left : Left W D) : Type 0 where
  pub version : arc_value left.closed.version ≡ newest_in left.closed.seen_log.log
  pub log : IsLog left.closed.seen_log.log
  pub begins : (history_of left.closed.seen_log.log).start ≡ start
  pub only : All (λ c. c.0 < length all) (commands_in (history_of left.closed.seen_log.log).entries)
  pub sessions : AreServed (store_from g start store) contents start left.closed.seen_log.log all left.sessions.items
  pub kept : IsLeftOfStore g start store left.closed
