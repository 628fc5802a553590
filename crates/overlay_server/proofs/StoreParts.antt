-- The store of a server through its runs, and what is left of it at the end.
use Rattle.std.proofs.Common.{◌≡◌, ◌⊎◌, inl, inr, ⊎_elim, false, ℕ, ◌<◌, ◌≤◌, List, [], length, Option, Some, None, MatchOption, All, refl, sym, ◌∙◌, ◌↔◌, subst, arith}
use Rattle.std.specs.Arc.{arc_value}
use Rattle.logbook.specs.Pages.{Book}
use Rattle.disk_model.specs.declared.disk.Disk.{Ghosts}
use Rattle.disk_model.proofs.Runs.{widened}
use Rattle.overlay_terms.specs.Histories.{Entry, Version, BeginsWith}
use Rattle.std.proofs.lemmas.Bool.{false≢true}
use Rattle.root_store.specs.declared.phase.Phase.{Phase}
use Rattle.root_store.specs.declared.phase.Phase.TheVariants.{Idle, Close, Settle, Put, Open, Finish, Failed}
use Rattle.root_store.specs.Running.{is_busy}
use Rattle.flush_core.specs.declared.flusher.Flusher.{Flusher}
use Rattle.book_history.specs.Logs.{history_of, newest_in, IsLog}
use Rattle.book_history.specs.declared.fault.ReportedFault.{ReportedFault}
use Rattle.book_history.proofs.Chains.{begins_with, is_history}
use Rattle.book_lock.specs.Heard.{HasHeard}
use Rattle.kept_store.specs.Among.{IsFileIn}
use Rattle.kept_store.specs.Beginning.{name_in}
use Rattle.kept_store.specs.Failing.{HoldsOfFailed}
use Rattle.kept_store.specs.Storing.{IsStoreOf, HoldsOfStored}
use Rattle.store_flushing.specs.Stores.{flusher_in, reporter_of, notes_by}
use Rattle.store_flushing.specs.ReportNote.{StaysReported, NotesGoOn, notes_in}
use Rattle.kept_store.specs.Unstored.{IsReasonGiven}
use Rattle.store_flushing.specs.declared.closed.Closed.{Closed}
use Rattle.store_flushing.specs.declared.keeper.Keeper.{Keeper}
use Rattle.store_flushing.specs.declared.keeper.store.Store.{Store}
use Rattle.store_flushing.specs.declared.keeper.store.Store.TheVariants.{Kept, Alone}
use Rattle.store_flushing.specs.declared.keeper.report_log.ReportNote.{ReportNote}
use Rattle.store_flushing.proofs.Closings.{exactly_on}
use Rattle.kept_store.proofs.FailLemmas.{failed_on}
use Rattle.kept_store.proofs.Following.{by_run, handed_on}
use Rattle.kept_store.proofs.Histories.{file_more}
use Rattle.kept_store.proofs.Storage.{begun, store_leaves, then}
use Rattle.store_flushing.proofs.ReportedLemmas.{none_yet, reporting_then, reports_then, reported_at_end}
use Rattle.overlay_server.specs.Moments.{HasOnlyNow}
use Rattle.overlay_server.specs.Keeping.{AreFlushed, HoldsOfStore, IsStoreKept}
use Rattle.overlay_server.specs.Refusing.{StoreComesBack}
use Rattle.overlay_server.specs.Serving.{IsFailedOf, IsLeftOfStore, IsStoredOf, first_log}

-- no commit is under way
at_rest : (p : Phase) → is_busy p ≡ false → (p ≡ Idle) ⊎ (p ≡ Failed)
at_rest Idle rests = inl refl
at_rest Close rests = absurd (false≢true (sym rests))
at_rest Settle rests = absurd (false≢true (sym rests))
at_rest Put rests = absurd (false≢true (sym rests))
at_rest Open rests = absurd (false≢true (sym rests))
at_rest Finish rests = absurd (false≢true (sym rests))
at_rest Failed rests = inr refl

module _ {D : Type 0} (g : Ghosts D) where
  -- ---- two runs in a row

  flushed_twice : (a b c : Store D g) → AreFlushed g a b → AreFlushed g b c → AreFlushed g a c
  flushed_twice (Kept a) (Kept b) (Kept c) first second = record {
    same = second.same ∙ first.same;
    flushes = λ is. let one = first.flushes is in
        then g (history_of a.reporter.log) (history_of b.reporter.log) (history_of c.reporter.log) a.held.flusher b.held.flusher c.held.flusher one (second.flushes one.store);
    rests = second.rests;
    notes_stay = reporting_then g a b c first.notes_stay (λ is. (first.flushes is).store) second.notes_stay;
  }
  flushed_twice (Kept a) (Kept b) (Alone c) first second = absurd second
  flushed_twice (Kept a) (Alone b) c first second = absurd first
  flushed_twice (Alone a) (Kept b) c first second = absurd first
  flushed_twice (Alone a) (Alone b) (Kept c) first second = absurd second
  flushed_twice (Alone a) (Alone b) (Alone c) first second = second ∙ first

  pub kept_twice : (book : Book) (a b c : Store D g) → IsStoreKept book g a b → IsStoreKept book g b c → IsStoreKept book g a c
  kept_twice book a b c first second = record { of = second.of; flushed = flushed_twice a b c first.flushed second.flushed }

  -- ---- what may be reported durable

  -- what counts as stored is what the store of a version held
  abbrev pub CountsAs : (List Entry → ℕ → Type 0) → Version → Option (Flusher D g) → Type 0
  CountsAs stored start store = (log : List Entry) (number : ℕ) → stored log number ↔ IsStoredOf g start store log number

  -- it failed for what the store of a version did
  abbrev pub FailsAs : (List Entry → ReportedFault → Type 0) → Version → Option (Flusher D g) → Type 0
  FailsAs failed start store = (log : List Entry) (fault : ReportedFault) → failed log fault ↔ IsFailedOf g start store log fault

  -- what holds of all that the store of a book comes to hold, and of all for which it fails
  pub holds_first : (own : Book) (stored : List Entry → ℕ → Type 0) (failed : List Entry → ReportedFault → Type 0) (start : Version) (store : Store D g) → (reporter_of store).log ≡ first_log start
      → own ≡ name_in (flusher_in store) → CountsAs stored start (flusher_in store) → FailsAs failed start (flusher_in store) → HoldsOfStore g own stored failed store
  holds_first own stored failed start (Kept k) first mine same fails = (
    subst (λ (es : List Entry). HoldsOfStored g stored (history_of es) k.held.flusher) (sym first)
        (λ log h on. (same log h.commit.root.version).1 (λ is. record { store = h; followed = on is; at = refl })),
    subst (λ (es : List Entry). HoldsOfFailed g failed (history_of es) k.held.flusher) (sym first) (λ log fault on. (fails log fault).1 on),
    sym mine,
  )
  holds_first own stored failed start (Alone r) first mine same fails = tt

  -- it holds after a run too
  pub holds_on : (own : Book) (stored : List Entry → ℕ → Type 0) (failed : List Entry → ReportedFault → Type 0) (a b : Store D g) → AreFlushed g a b → HoldsOfStore g own stored failed a → HoldsOfStore g own stored failed b
  holds_on own stored failed (Kept a) (Kept b) run all =
      let was = history_of a.reporter.log in
      let now = history_of b.reporter.log in
      let old = a.held.flusher in
      let new = b.held.flusher in (
        handed_on g stored was now old new (λ is. by_run g was now old new run.same (run.flushes is)) all.0,
        failed_on g failed was now old new (λ is. let ran = run.flushes is in (by_run g was now old new run.same ran, ran.by_device, ran.blocks)) all.1,
        run.same ∙ all.2,
      )
  holds_on own stored failed (Kept a) (Alone b) run all = absurd run
  holds_on own stored failed (Alone a) (Kept b) run all = absurd run
  holds_on own stored failed (Alone a) (Alone b) run all = tt

  -- ---- at the end of a book

  -- what is said of a store and of what is left as its book closes
  pub record HasClosed (whole : Store D g) (closed : Closed D) : Type 0 where
    pub log : IsLog closed.seen_log.log
    pub begun : 0 < length (reporter_of whole).log
    pub heard : HasHeard closed.seen_log.log (reporter_of whole)
    pub durable : All (λ (e : Entry). e.version.durable ≤ (newest_in closed.seen_log.log).durable) closed.seen_log.log
    pub store : MatchOption (flusher_in whole) ((closed.stored ≡ 0) × (closed.disk ≡ None)) (λ (f : Flusher D g). (closed.stored ≡ f.commit.root.version) × (closed.disk ≡ Some f.commit.disk))
    pub fault : MatchOption (flusher_in whole) (closed.fault ≡ None) (λ (f : Flusher D g). IsReasonGiven closed.fault f (arc_value closed.version))
    pub notes : notes_in closed.notes ≡ notes_by whole

  -- nothing was reported as the book began
  none_yet_by : (start : Version) (k : Keeper D g) (disk : D) → k.reporter.log ≡ first_log start → notes_in k.notes ≡ [] → StaysReported g (history_of k.reporter.log) (notes_in k.notes) disk disk
  none_yet_by start k disk first none =
      subst (λ (ts : List ReportNote). StaysReported g (history_of k.reporter.log) ts disk disk) (sym none)
      (subst (λ (es : List Entry). StaysReported g (history_of es) [] disk disk) (sym first) (none_yet g start disk))

  pub left_by : (start : Version) (was now : Store D g) (closed : Closed D) → (reporter_of was).log ≡ first_log start → notes_by was ≡ []
      → AreFlushed g was now → HasClosed now closed → IsLeftOfStore g start (flusher_in was) closed
  left_by start (Alone f) (Alone l) closed first none flushed closes = closes.store
  left_by start (Alone f) (Kept l) closed first none flushed closes = absurd flushed
  left_by start (Kept f) (Alone l) closed first none flushed closes = absurd flushed
  left_by start (Kept f) (Kept l) closed first none flushed closes = record {
    last = l.held.flusher;
    disk = closes.store.1;
    stored = closes.store.0;
    rests = flushed.rests;
    fault = closes.fault;
    left = λ is.
        let was = history_of f.reporter.log in
        let now = history_of l.reporter.log in
        let log = closed.seen_log.log in
        let end = history_of log in
        let old = f.held.flusher in
        let last = l.held.flusher in
        let level = old.commit.root.version in
        let stored = last.commit.root.version in
        let on : BeginsWith end now = begins_with l.reporter.log log closes.begun closes.heard.longer in
        let was_store = subst (λ (es : List Entry). IsStoreOf g (history_of es) old) (sym first) is in
        let run = flushed.flushes was_store in
        let low : (newest_in l.reporter.log).durable ≤ stored = run.store.reported in
        let rest = reported_at_end g now end (notes_in l.notes) last.commit.disk on (is_history log closes.log) closes.heard.durable in
        let whole : NotesGoOn g was (notes_in f.notes) old.commit.disk end (notes_in closed.notes) last.commit.disk =
        subst (λ (ts : List ReportNote). NotesGoOn g was (notes_in f.notes) old.commit.disk end ts last.commit.disk) (sym closes.notes)
        (reports_then g was now end (notes_in f.notes) (notes_in l.notes) (notes_in l.notes) old.commit.disk last.commit.disk last.commit.disk (flushed.notes_stay was_store) rest) in
        record {
          no_less = run.no_less;
          moments =
              widened g old.commit.disk last.commit.disk (IsFileIn now level) (IsFileIn end level) (λ c file. file_more now end level level c on (omega arith) file) run.moments;
          reported = λ k d at. omega (arith, closes.durable k d at, closes.heard.durable, low);
          files = λ c at. file_more now end stored stored c on (omega arith) (store_leaves g now last run.store c at);
          exactly = ⊎_elim (λ idle. inr (inr (exactly_on g now end on last run.store idle)))
              (λ failed. ⊎_elim inl (λ rose. inr (inl rose)) (run.by_device.failed failed))
              (at_rest last.commit.phase flushed.rests);
          stays = whole.stays old.commit.disk (omega arith) (none_yet_by start f old.commit.disk first none);
        };
  }

  -- ---- where a server could not run

  -- after its threads have returned
  pub back_from : (start : Version) (old : Option (Flusher D g)) (closed : Closed D) → IsLeftOfStore g start old closed
      → StoreComesBack g start closed.seen_log.log (notes_in closed.notes) old closed.disk
  back_from start None closed left = left.1
  back_from start (Some f) closed left = record {
    disk = left.last.commit.disk;
    there = left.disk;
    stopped = λ is. let by = left.left is in record { moments = by.moments; stays = by.stays };
  }

  -- before any session was begun
  pub stopped_at_once : (start : Version) (old : Option (Flusher D g)) (back : Option D) → HasOnlyNow g
      → MatchOption old (back ≡ None) (λ (f : Flusher D g). back ≡ Some f.commit.disk) → StoreComesBack g start (first_log start) [] old back
  stopped_at_once start None back now is = is
  stopped_at_once start (Some f) back now is = record {
    disk = f.commit.disk;
    there = is;
    stopped = λ store. record {
      moments = (begun g (history_of (first_log start)) f (λ c left. now f.commit.disk c store.honest left) store).moments;
      stays = none_yet g start f.commit.disk;
    };
  }
