-- Where the records of tiles lie, by column.
use Rattle.std.proofs.Common.{◌≡◌, ℕ, zero, suc, ◌<◌, ◌≤◌, List, [], ◌∷◌, length, get_or, Option, None, refl, arith}
use Rattle.store_terms.specs.declared.root.RecordExtent.{RecordExtent}
use Rattle.commit_plan.specs.Staying.{entry_at}

pub entry_past : (es : List (Option RecordExtent)) (k : ℕ) → length es ≤ k → None ≡ entry_at es k
entry_past [] k past = refl
entry_past (e ∷ es) zero past = absurd (omega (arith, past))
entry_past (e ∷ es) (suc k) past = entry_past es k (omega (arith, past))

pub entry_is : (es : List (Option RecordExtent)) (k : ℕ) (x : Option RecordExtent) → k < length es → x ≡ get_or es k x
    → x ≡ entry_at es k
entry_is [] k x within is = absurd (omega (arith, within))
entry_is (e ∷ es) zero x within is = is
entry_is (e ∷ es) (suc k) x within is = entry_is es k x (omega (arith, within)) is
