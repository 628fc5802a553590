-- The first of two values that may be absent.
use Rattle.std.specs.Prelude.{◌≡◌, Option, Some, None}
use Rattle.std.specs.Option.{option_or}
use Rattle.std.proofs.Common.{refl}

-- neither of two is there
pub record AreAbsent {X : Type 0} (a b : Option X) : Type 0 where
  pub first : a ≡ None
  pub second : b ≡ None

-- where the first of two is absent, neither is there
pub both_absent : {X : Type 0} (a b : Option X) → option_or a b ≡ None → AreAbsent a b
both_absent None b e = record { first = refl; second = e }
both_absent (Some x) b e = absurd (cc)
