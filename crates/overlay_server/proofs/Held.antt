-- What a book may report durable was held by the store of the version that it began with, which failed for the faults that it
-- may report.
use Rattle.std.proofs.Common.{◌≡◌, inl, inr, ℕ, ◌≤◌, IsTrue, List, [], ◌∷◌, Option, Some, None, is_some, refl, sym, ap, subst, arith}
use Rattle.std.proofs.Math.Logic.{∥∥₁_map}
use mathlib.Core.List.{IsPrefix}
use Rattle.std.specs.List.{AllByRecursion, AllZip}
use Rattle.std.proofs.lemmas.Bool.{false≢true}
use Rattle.logbook.specs.Pages.{Book}
use Rattle.disk_model.specs.declared.disk.Disk.{Ghosts}
use Rattle.overlay_terms.specs.Histories.{Version, Entry, History, BeginsWith, newest}
use Rattle.flush_core.specs.declared.flusher.Flusher.{Flusher}
use Rattle.book_history.specs.Known.{seen}
use Rattle.book_history.specs.Logs.{history_of, newest_in}
use Rattle.book_history.proofs.Chains.{begins_with}
use Rattle.book_history.specs.declared.fault.ReportedFault.{ReportedFault}
use Rattle.script_form.specs.declared.fault.CommandFault.{CommandFault}
use Rattle.script_form.specs.Transcript.{StoreReport, of_number, of_fault, store_by}
use Rattle.server_session.specs.Stores.{FaultMayBeReportedAt, MayBeReportedAt, NumberMayBeReportedAt, store_of}
use Rattle.kept_store.specs.Failing.{FailedAt}
use Rattle.kept_store.specs.Storing.{IsStoreOf, IsStored}
use Rattle.kept_store.proofs.Following.{by_run}
use Rattle.kept_store.proofs.Storage.{begun}
use Rattle.session_threads.specs.Running.{IsRunOf}
use Rattle.session_threads.specs.declared.running.Script.{Script}
use Rattle.session_threads.specs.declared.running.Ended.{Ended}
use Rattle.overlay_server.specs.Moments.{HasOnlyNow}
use Rattle.overlay_server.specs.Serving.{HadFailed, IsFailedOf, ServerReportsFault, IsHeldOf, ServerReports, IsStoredOf, WasHeld, first_log}
use Rattle.server_session.specs.Fault.{store_fault_of}
use Rattle.server_session.proofs.Weaker.{session_weaker}

module _ {D : Type 0} (g : Ghosts D) (now : HasOnlyNow g) (start : Version) (stored : List Entry → ℕ → Type 0) (failed : List Entry → ReportedFault → Type 0) where
  -- a history that goes on from a log goes on from each beginning of it to which the first version's store was followed
  before : (was log : List Entry) (history : History) → IsPrefix was log → history_of log ≡ history → BeginsWith history (history_of (first_log start))
      → BeginsWith (history_of was) (history_of (first_log start)) → BeginsWith history (history_of was)
  before [] log history longer same on first =
      subst (λ (v : Version). BeginsWith history (record { start = v; entries = [] })) (sym (ap (λ (h : History). h.start) first.1)) on
  before (x ∷ xs) log history longer same on first =
      subst (λ (h : History). BeginsWith h (history_of (x ∷ xs))) same (begins_with (x ∷ xs) log (omega arith) longer)

  -- the number that was reported as the book began
  first_held : (old : Flusher D g) (history : History) → BeginsWith history (history_of (first_log start)) → (newest history).durable ≡ history.start.durable
      → IsStoreOf g (history_of (first_log start)) old → WasHeld g start old history (newest history).durable
  first_held old history on first is =
      let h = history_of (first_log start) in
      let begins : history.start.durable ≡ start.durable = ap (λ (k : History). k.start.durable) on.1 in
      let reported : start.durable ≤ old.commit.root.version = is.reported in
      record {
        log = first_log start;
        before = on;
        held = old.commit.root.version;
        no_less = omega (arith, first, begins, reported);
        stored = record { store = old; followed = by_run g h h old old refl (begun g h old (λ c left. now old.commit.disk c is.honest left) is); at = refl };
      }

  later_held : (old : Flusher D g) (was log : List Entry) (history : History) → BeginsWith history (history_of (first_log start)) → history_of log ≡ history → IsPrefix was log
      → IsStored g (history_of (first_log start)) old was (newest_in log).durable → WasHeld g start old history (newest history).durable
  later_held old was log history on same longer is = record {
    log = was;
    before = before was log history longer same on is.followed.goes_on;
    held = (newest_in log).durable;
    no_less = omega (arith, ap (λ (h : History). (newest h).durable) same);
    stored = is;
  }

  was_held : (store : Option (Flusher D g)) → ((log : List Entry) (number : ℕ) → stored log number → IsStoredOf g start store log number) → IsTrue (is_some store)
      → (history : History) → BeginsWith history (history_of (first_log start)) → NumberMayBeReportedAt stored history → IsHeldOf g start store history
  was_held None meant there history on reported = absurd (false≢true there)
  was_held (Some old) meant there history on (log, same, inl first) =
      first_held old history on (subst (λ (h : History). (newest h).durable ≡ h.start.durable) same first)
  was_held (Some old) meant there history on (log, same, inr may) = λ is.
      later_held old may.was log history on same may.longer (meant may.was (newest_in log).durable may.holds is)

  failed_before : (old : Flusher D g) (was log : List Entry) (history : History) (fault : CommandFault) → BeginsWith history (history_of (first_log start)) → history_of log ≡ history → IsPrefix was log
      → (reported : ReportedFault) → fault ≡ store_fault_of reported → FailedAt g (history_of (first_log start)) old was reported → HadFailed g start old history fault
  failed_before old was log history fault on same longer reported is fails =
      record { log = was; before = before was log history longer same on fails.followed.goes_on; reported = reported; same = is; failed = fails }

  had_failed : (store : Option (Flusher D g)) → ((log : List Entry) (fault : ReportedFault) → failed log fault → IsFailedOf g start store log fault) → IsTrue (is_some store)
      → (history : History) (fault : CommandFault) → BeginsWith history (history_of (first_log start)) → FaultMayBeReportedAt failed history fault → ServerReportsFault g start store history fault
  had_failed None meant there history fault on is = absurd (false≢true there)
  had_failed (Some old) meant there history fault on is = λ store.
      ∥∥₁_map is.failed_so (λ may. failed_before old may.was is.log history fault on is.of may.longer is.reported is.same (meant may.was is.reported may.holds store))

  -- what the words of a book's name mean
  pub record Means (store : Option (Flusher D g)) : Type 0 where
    pub stored_is : (log : List Entry) (number : ℕ) → stored log number → IsStoredOf g start store log number
    pub failed_is : (log : List Entry) (fault : ReportedFault) → failed log fault → IsFailedOf g start store log fault

  pub was_reported : (store : Option (Flusher D g)) → Means store → IsTrue (is_some store) → (history : History) (report : StoreReport) → BeginsWith history (history_of (first_log start))
      → MayBeReportedAt stored failed history report → ServerReports g start store history report
  was_reported store means there history of_number on is = was_held store means.stored_is there history on is
  was_reported store means there history (of_fault fault) on is = had_failed store means.failed_is there history fault on is

  -- the sessions of a book, by what its store held and for what it failed
  pub runs_held : {R W : Type 0} (book : Book) (store : Option (Flusher D g)) (remaining : R → Option (List ℕ)) (contents : W → Option (List ℕ))
      → Means store → (ss : List (Script R W)) (es : List (Ended R W)) → AllByRecursion (λ (s : Script R W). BeginsWith (seen s.session) (history_of (first_log start))) ss
      → AllZip (IsRunOf book (store_of stored failed (is_some store)) remaining contents) ss es
      → AllZip (IsRunOf book (store_by (ServerReports g start store) (is_some store)) remaining contents) ss es
  runs_held book store remaining contents meant [] [] begin ran = tt
  runs_held book store remaining contents meant [] (e ∷ es) begin ran = absurd ran
  runs_held book store remaining contents meant (s ∷ ss) [] begin ran = absurd ran
  runs_held book store remaining contents meant (s ∷ ss) (e ∷ es) begin ran =
      let one = ran.0 in (
        record {
          of = one.of;
          same = one.same;
          begun = one.begun;
          goes_on = one.goes_on;
          ran = session_weaker (MayBeReportedAt stored failed) (ServerReports g start store) (is_some store) (history_of (first_log start)) (was_reported store meant) s.port.most e.end s.session e.session
              _ _ _ _ begin.0 one.ran;
        },
        runs_held book store remaining contents meant ss es begin.1 ran.1,
      )
