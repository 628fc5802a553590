-- The doubles nearest to fractions.
use Rattle.std.specs.Prelude.{◌≡◌, ◌⊎◌, ℕ, zero, suc, ℤ, pos, negsuc, ◌+◌, ◌-◌, ◌*◌, ◌^◌, ◌%◌, ◌<◌, ◌≤◌}
use Rattle.std.specs.Int.{abs_diff}
use Rattle.boundary_outlines.specs.declared.doubles.Scaled.{Scaled}

-- size / w, after doublings, is a whole number and what is left over w
pub record IsScaled (size w : ℕ) (own : Scaled) : Type 0 where
  pub is : own.whole * w + own.rest ≡ size * 2 ^ own.doublings
  pub proper : own.rest < w
  pub short : own.whole < 2 ^ 53

-- a number was doubled so many times, or not where it would have had more than 53 bits
pub record IsFitted (w doublings : ℕ) (own fitted : Scaled) : Type 0 where
  pub still : (size : ℕ) → IsScaled size w own → IsScaled size w fitted
  pub grown : ((2 ^ 53 ≤ own.whole * 2 ^ doublings) × (fitted ≡ own)) ⊎ ((own.whole * 2 ^ doublings ≤ fitted.whole) × (fitted.doublings ≡ own.doublings + doublings))

-- kept is the whole number nearest to size / w after doublings; of two that are as near, the even one
pub record IsNearWhole (size w doublings kept : ℕ) : Type 0 where
  pub near : 2 * abs_diff (size * 2 ^ doublings) (kept * w) ≤ w
  pub even : 2 * abs_diff (size * 2 ^ doublings) (kept * w) ≡ w → kept % 2 ≡ 0

-- these are the bits of the double nearest to size / w, which is positive (IEEE 754-2019, 4.3.1, roundTiesToEven): after so many
-- doublings it has 53 bits before its point, and the doubles there are the whole numbers; kept is the nearest of these. It is
-- encoded as in 3.4: the exponent, then the bits of kept after its first one, where 2 ^ 53 carries over to the exponent
pub record IsNearPositive (size w bits : ℕ) : Type 0 where
  pub kept : ℕ
  pub doublings : ℕ
  pub normal : doublings ≤ 1023
  pub least : 2 ^ 52 * w ≤ size * 2 ^ doublings
  pub below : size * 2 ^ doublings < 2 ^ 53 * w
  pub nearest : IsNearWhole size w doublings kept
  pub bits_are : bits ≡ (1075 - doublings) * 2 ^ 52 + (kept - 2 ^ 52)

-- these are the bits of the double nearest to n / w: of 0 none, and of a negative number the highest one as well
abbrev pub IsNearDouble : ℤ → ℕ → ℕ → Type 0
IsNearDouble (pos zero) w bits = bits ≡ 0
IsNearDouble (pos (suc n)) w bits = IsNearPositive (suc n) w bits
IsNearDouble (negsuc n) w bits = (size : ℕ) × IsNearPositive (suc n) w size × (bits ≡ 2 ^ 63 + size)
