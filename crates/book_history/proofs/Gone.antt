-- What a fault says, by its cases.
use Rattle.std.proofs.Common.{◌≡◌, ap, sym, subst, Option, None, Result, Ok, Err, IsErrAnd, IfErr}
use Rattle.std.specs.Option.{option_map}

-- where there is no refusal there is no fault that reports it
pub no_reason : {A B : Type 0} (f : A → B) (o : Option A) → o ≡ None → option_map f o ≡ None
no_reason f o none = ap (option_map f) none

-- what holds of a fault holds of the result that passes it up
pub passed : {A E : Type 0} (P : E → Type 0) (r : Result A E) (x : E) → IsErrAnd r (λ y. y ≡ x) → P x → IfErr r P
passed P (Ok v) x and p = absurd and
passed P (Err y) x and p = subst P (sym and) p
