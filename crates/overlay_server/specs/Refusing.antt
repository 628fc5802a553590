-- What a server leaves that could not run: the book's history, what its sessions made, and its store.
use Rattle.std.specs.Prelude.{◌≡◌, ◌⊎◌, ◌<◌, ◌++◌, ℕ, List, [], length, map, All, Option, Some, None}
use Rattle.std.specs.List.{AllByRecursion}
use Rattle.logbook.specs.Pages.{Book}
use Rattle.disk_model.specs.declared.disk.Disk.{Ghosts}
use Rattle.disk_model.specs.Moments.{LeavesOnly}
use Rattle.overlay_terms.specs.Histories.{Version, Entry, BeginsWith, commands_in}
use Rattle.flush_core.specs.declared.flusher.Flusher.{Flusher}
use Rattle.book_history.specs.Known.{Known, seen}
use Rattle.book_history.specs.Logs.{history_of, IsLog}
use Rattle.book_lock.specs.Steps.{beginners, HasAllOf}
use Rattle.script_form.specs.Transcript.{BookStore}
use Rattle.script_form.specs.declared.session_end.SessionEnd.{SessionEnd}
use Rattle.server_session.specs.Session.{IsSessionWithin}
use Rattle.kept_store.specs.Among.{IsFileIn}
use Rattle.kept_store.specs.Storing.{IsStoreOf}
use Rattle.store_flushing.specs.ReportNote.{StaysReported, notes_in}
use Rattle.store_flushing.specs.declared.keeper.report_log.ReportNote.{ReportNote}
use Rattle.overlay_server.specs.Answering.{answer_in, refusal_code}
use Rattle.overlay_server.specs.Given.{Given, given_to}
use Rattle.overlay_server.specs.Serving.{AreServed, first_log, store_from}
use Rattle.overlay_server.specs.declared.outcome.PortsBack.{PortsBack}
use Rattle.overlay_server.specs.declared.outcome.PortsBack.TheVariants.{Unserved, Stopped}
use Rattle.overlay_server.specs.declared.outcome.PortsFault.{PortsFault}
use Rattle.overlay_server.specs.declared.outcome.ServerFault.{ServerFault}

-- ---- sessions

-- a session's part: what it had seen at first, what it was given, and what it has seen and made then
pub record StoppedPart : Type 0 where
  pub session : Known
  pub given : Given
  pub now : Known

-- it ran its script, or was not begun: its lines have replies by histories of the log, and its batches are those it made
pub record IsStopped (stored : BookStore) (log : List Entry) (part : StoppedPart) : Type 0 where
  pub end : SessionEnd
  pub left : Option (List ℕ)
  pub written : Option (List ℕ)
  pub same : part.now.session ≡ part.session.session
  pub goes_on : BeginsWith (seen part.now) (seen part.session)
  pub ran : IsSessionWithin part.given.most stored end part.session part.now part.given.script left part.given.held written
  pub own : HasAllOf log part.now

-- these sessions, of the book that begins with a version, were given the first of what was to be given, and ran it
pub record AreStopped (stored : BookStore) (start : Version) (log : List Entry) (all : List Given) (sessions : List Known) : Type 0 where
  pub book : Book
  pub parts : List StoppedPart
  pub others : List Given
  pub begin : map (λ (part : StoppedPart). part.session) parts ≡ beginners (record { book = book; log = first_log start }) (length parts)
  pub given : map (λ (part : StoppedPart). part.given) parts ++ others ≡ all
  pub come_to : map (λ (part : StoppedPart). part.now) parts ≡ sessions
  pub stopped : AllByRecursion (IsStopped stored log) parts

-- ---- the store

module _ {D : Type 0} (g : Ghosts D) where
  -- what is left of a store: a crash at any moment leaves a file that holds a version of this log, none older than at
  -- first; once the log has reported a version durable, which was written down then, no crash leaves an older one
  pub record IsStoppedBy (log : List Entry) (written : List ReportNote) (old : Flusher D g) (disk : D) : Type 0 where
    pub moments : LeavesOnly g old.commit.disk disk (IsFileIn (history_of log) old.commit.root.version)
    pub stays : StaysReported g (history_of log) written old.commit.disk disk

  -- the disk comes back
  pub record ComesBack (start : Version) (log : List Entry) (written : List ReportNote) (old : Flusher D g) (back : Option D) : Type 0 where
    pub disk : D
    pub there : back ≡ Some disk
    pub stopped : IsStoreOf g (history_of (first_log start)) old → IsStoppedBy log written old disk

  -- the same where there was one
  abbrev pub StoreComesBack : Version → List Entry → List ReportNote → Option (Flusher D g) → Option D → Type 0
  StoreComesBack start log written None back = back ≡ None
  StoreComesBack start log written (Some old) back = ComesBack start log written old back

-- ---- the server

-- a server could not run: its number is the book's as it was to be opened (40, 44), else 40. Its history begins with
-- the first version; the sessions that come back, from 0, alone had commands accepted, of their scripts; if none does,
-- none had. The disk comes back
pub record IsRefusedFrom {D : Type 0} (g : Ghosts D) (start : Version) (store : Option (Flusher D g)) (all : List Given) (fault : ServerFault D) : Type 0 where
  pub code : (fault.code ≡ 40) ⊎ (fault.code ≡ 44)
  pub exactly : fault.code ≡ refusal_code (answer_in fault.answer)
  pub log : IsLog fault.seen_log.log
  pub begins : (history_of fault.seen_log.log).start ≡ start
  pub only : All (λ c. c.0 < length fault.sessions.items) (commands_in (history_of fault.seen_log.log).entries)
  pub none : fault.sessions.items ≡ [] → commands_in (history_of fault.seen_log.log).entries ≡ []
  pub sessions : AreStopped (store_from g start store) start fault.seen_log.log all fault.sessions.items
  pub back : StoreComesBack g start fault.seen_log.log (notes_in fault.notes) store fault.disk

-- ---- the ports of a server

-- all ports come back, with what they gave and held; or each one's writer, with its session's answers by the log that comes back
abbrev pub AreBack : {R W D : Type 0} (remaining : R → Option (List ℕ)) (contents : W → Option (List ℕ)) (stored : BookStore) (start : Version) (all : List Given) → ServerFault D → PortsBack R W → Type 0
AreBack remaining contents stored start all fault (Unserved ports) = (given_to remaining contents ports.items ≡ all) × (fault.sessions.items ≡ [])
AreBack remaining contents stored start all fault (Stopped finished) = AreServed stored contents start fault.seen_log.log all finished.items

-- a server of ports could not run: what its writers were given is of the history that comes back with the disk
pub record IsRefusedOf {R W D : Type 0} (remaining : R → Option (List ℕ)) (contents : W → Option (List ℕ)) (g : Ghosts D) (start : Version) (store : Option (Flusher D g)) (all : List Given) (refused : PortsFault R W D) : Type 0 where
  pub fault : IsRefusedFrom g start store all refused.fault
  pub ports : AreBack remaining contents (store_from g start store) start all refused.fault refused.back
