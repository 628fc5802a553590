-- The fault that a book holds stays one for which its store failed.
use Rattle.std.specs.Prelude.{IsErrAnd}
use Rattle.std.proofs.Common.{◌≡◌, ◌⊎◌, inl, inr, ℕ, Bool, true, false, List, [], ◌∷◌, Option, Some, None, IfSome, Result, Ok, Err, IfOk, IfErr, if◌then◌else◌, sym, subst}
use Rattle.std.proofs.Math.Logic.{∥∥₁_map}
use mathlib.Core.List.{IsPrefix}
use Rattle.overlay_terms.specs.Layers.{Name}
use Rattle.overlay_terms.specs.Tiles.{Input}
use Rattle.overlay_terms.specs.Histories.{Entry, Tile, kept}
use Rattle.book_history.specs.Logs.{entry, newest_in}
use Rattle.book_history.specs.Fault.{passes}
use Rattle.book_history.specs.Reporting.{MayBeReported}
use Rattle.book_history.specs.declared.fault.BookFault.{BookFault}
use Rattle.book_history.specs.declared.fault.BookFault.TheVariants as fault
use Rattle.version_book.specs.Failing.{HasFailed, IsReportedFault}
use Rattle.book_history.specs.declared.fault.ReportedFault.{ReportedFault}
use Rattle.book_history.proofs.Fronts.{prefix_self, prefix_trans}
use Rattle.book_lock.specs.Heard.{Heard}
use Rattle.book_lock.specs.Steps.{IsFinishedIn, IsReportedIn}
use Rattle.book_lock.proofs.Growing.{report_longer}
use Rattle.version_book.specs.BookState.{left_over, kept_fault}

-- what may be kept, and what is reported or not, leaves what was there
pub kept_longer : (log after : List Entry) (name : Name) (input : Input) (tile : Tile) (is_kept : Bool) → IsFinishedIn log name input tile is_kept after → IsPrefix log after
kept_longer log after name input tile true (awaited, follows, is) = (entry (kept name input.column tile) (newest_in after) ∷ [], sym is)
kept_longer log after name input tile false (not_awaited, absent, is) = subst (IsPrefix log) (sym is) (prefix_self log)

pub reported_longer : (me new : Heard) (A : ℕ → Type 0) (E : BookFault → Type 0) (r : Result ℕ BookFault) (log after : List Entry) (n : ℕ)
    → IfOk r (λ m. IsReportedIn log n after × A m) → IfErr r (λ f. (after ≡ log) × (new ≡ me) × E f) → IsPrefix log after
reported_longer me new A E (Ok m) log after n ok err = report_longer log after n ok.0
reported_longer me new A E (Err f) log after n ok err = subst (IsPrefix log) (sym err.0) (prefix_self log)

module _ (failed : List Entry → ReportedFault → Type 0) where
  later : (log more : List Entry) (fault : Option ReportedFault) → IsPrefix log more → IfSome fault (MayBeReported failed log) → IfSome fault (MayBeReported failed more)
  later log more None on is = tt
  later log more (Some fault) on is = record { was = is.was; longer = prefix_trans is.was log more is.longer on; holds = is.holds }

  -- as the log goes on
  pub still_failed : (log more : List Entry) (old new : Option ReportedFault) → IsPrefix log more → new ≡ old → HasFailed failed log old → HasFailed failed more new
  still_failed log more old new on same there = subst (HasFailed failed more) (sym same) (∥∥₁_map there (later log more old on))

  -- in the same log
  pub same_failed : (log : List Entry) (old new : Option ReportedFault) → new ≡ old → HasFailed failed log old → HasFailed failed log new
  same_failed log old new same there = still_failed log log old new (prefix_self log) same there

  some_left : (log : List Entry) (fault : ReportedFault) (goes : Bool) → MayBeReported failed log fault → IfSome (if goes then None else Some fault) (MayBeReported failed log)
  some_left log fault true is = tt
  some_left log fault false is = is

  left : (log : List Entry) (fault : Option ReportedFault) → IfSome fault (MayBeReported failed log) → IfSome (left_over fault) (MayBeReported failed log)
  left log None is = tt
  left log (Some fault) is = some_left log fault (passes fault) is

  -- as a command is accepted
  pub left_failed : (log more : List Entry) (old new : Option ReportedFault) → IsPrefix log more → new ≡ left_over old → HasFailed failed log old → HasFailed failed more new
  left_failed log more old new on is there = still_failed log more (left_over old) new on is (∥∥₁_map there (left log old))

  one_of : (log : List Entry) (old fault : ReportedFault) (goes : Bool) → MayBeReported failed log old → MayBeReported failed log fault → IfSome (if goes then Some fault else Some old) (MayBeReported failed log)
  one_of log old fault true is new = new
  one_of log old fault false is new = is

  holds : (log : List Entry) (old : Option ReportedFault) (fault : ReportedFault) → IfSome old (MayBeReported failed log) → MayBeReported failed log fault → IfSome (kept_fault old fault) (MayBeReported failed log)
  holds log None fault is new = new
  holds log (Some old) fault is new = one_of log old fault (passes old) is new

  -- as the store reports one
  pub reported_failed : (log : List Entry) (old new : Option ReportedFault) (fault : ReportedFault) → new ≡ kept_fault old fault → MayBeReported failed log fault → HasFailed failed log old → HasFailed failed log new
  reported_failed log old new fault is may there = subst (HasFailed failed log) (sym is) (∥∥₁_map there (λ o. holds log old fault o may))

  -- a book without a store names no fault of one
  pub none_failed : (r : Result ℕ BookFault) (log : List Entry) → IsErrAnd r (λ f. (f ≡ fault.NoStore) ⊎ (f ≡ fault.Gone)) → IfErr r (IsReportedFault failed log)
  none_failed (Ok n) log is = tt
  none_failed (Err f) log (inl is) = subst (IsReportedFault failed log) (sym is) tt
  none_failed (Err f) log (inr is) = subst (IsReportedFault failed log) (sym is) tt
