-- What a step of a commit writes, call by call.
use Rattle.std.proofs.Common.{◌≡◌, ℕ, ◌<◌, ◌≤◌, List, length, drop, get_or, Option, Some, None, Result, Ok, Err, refl, sym, ◌∙◌, ap, subst, arith}
use Rattle.std.specs.Prelude.{IsErr, OnOk}
use Rattle.std.proofs.lemmas.List.{at_drop_more, at_drop_all}
use Rattle.disk_model.specs.declared.disk.Disk.{Ghosts}
use Rattle.disk_model.specs.Disk.{Holds, Torn, OneStepOn, Fewer}
use Rattle.commit_plan.specs.declared.write.Write.{Write}
use Rattle.root_store.specs.declared.phase.Phase.{Phase}
use Rattle.root_store.specs.declared.commit.Commit.{Commit}
use Rattle.root_store.specs.Opening.{Untouched}
use Rattle.root_store.specs.Writing.{writes_left, first_write, write_in, Puts, WritesOnly, IsWrittenOver}
use Rattle.root_store.proofs.Steps.{Now, OnlyNow, Passes, one_call}

-- nothing is written
pub torn_same : (at n : ℕ) (file : List ℕ) → Torn at n file file
torn_same at n file = record {
  no_shorter = omega arith;
  no_longer = omega arith;
  below = λ i inside before. refl;
  above = λ i inside behind. refl;
}

-- where a call failed, nothing is said of it after Ok
pub not_ok : {T E : Type 0} (result : Result T E) (P : Type 0) → IsErr result → OnOk result P
not_ok (Ok x) P is = absurd (cc is)
not_ok (Err e) P is = tt

-- the first of the writes from the i-th on
pub first_from : (plan : List Write) (i : ℕ) (w : Write) → i < length plan → w ≡ get_or plan i w
    → first_write (drop i plan) ≡ Some (w.at, w.bytes.items)
first_from plan i w h is =
    at_drop_more (λ (ws : List Write). first_write ws) plan i w h
    ∙ ap (λ (v : Write). Some (v.at, v.bytes.items)) (sym is)

-- where none is left
pub none_from : (plan : List Write) (i : ℕ) → length plan ≤ i → first_write (drop i plan) ≡ None
none_from plan i past = at_drop_all first_write plan i past

-- a call that only looks or syncs
untouched : {D : Type 0} (g : Ghosts D) (old new : D) → Now g old → Passes g old new → g.seen new ≡ g.seen old
    → Fewer (g.may_leave old) (g.may_leave new) → Untouched g old new
untouched g old new now time seen fewer = record {
  seen = seen;
  fewer = fewer;
  run = one_call g old new (g.may_leave old) now (λ c left. left) time fewer;
}

-- a write
puts : {D T E : Type 0} (g : Ghosts D) (old new : D) → Now g old → Passes g old new → (at : ℕ) (bytes : List ℕ)
    (result : Result T E) → OnOk result (Holds (g.seen new) at bytes) → Torn at (length bytes) (g.seen old) (g.seen new)
    → OneStepOn (Torn at (length bytes)) (g.may_leave old) (g.may_leave new) → Puts g at bytes old new result
puts g old new now time at bytes result put others follows = record {
  put = put;
  others = others;
  crash = follows;
  run = one_call g old new (IsWrittenOver at (length bytes) (g.may_leave old)) now
      (λ c left. (c, left, torn_same at (length bytes) c)) time follows;
}

-- the call of a phase: it writes this, or nothing
module _ {D T E : Type 0} (g : Ghosts D) (s : Commit D g) (new : D) (result : Result T E) (only_now : OnlyNow g)
    (honest : g.is_honest s.disk) (time : Passes g s.disk new) (this : Phase) (is : s.phase ≡ this) where
  so : (w : Option (ℕ × List ℕ)) → write_in this s.root (writes_left s) ≡ w → WritesOnly g w s.disk new result
      → WritesOnly g (write_in s.phase s.root (writes_left s)) s.disk new result
  so w what holds =
      subst (λ (w : Option (ℕ × List ℕ)). WritesOnly g w s.disk new result)
      (sym (ap (λ (p : Phase). write_in p s.root (writes_left s)) is ∙ what)) holds

  pub writes_this : (at : ℕ) (bytes : List ℕ) → write_in this s.root (writes_left s) ≡ Some (at, bytes)
      → OnOk result (Holds (g.seen new) at bytes) → Torn at (length bytes) (g.seen s.disk) (g.seen new)
      → OneStepOn (Torn at (length bytes)) (g.may_leave s.disk) (g.may_leave new)
      → WritesOnly g (write_in s.phase s.root (writes_left s)) s.disk new result
  writes_this at bytes what put others follows =
      so (Some (at, bytes)) what
      (puts g s.disk new (λ f left. only_now s.disk f honest left) time at bytes result put others follows)

  pub writes_none : write_in this s.root (writes_left s) ≡ None → g.seen new ≡ g.seen s.disk
      → Fewer (g.may_leave s.disk) (g.may_leave new)
      → WritesOnly g (write_in s.phase s.root (writes_left s)) s.disk new result
  writes_none what seen fewer =
      so None what (untouched g s.disk new (λ f left. only_now s.disk f honest left) time seen fewer)
