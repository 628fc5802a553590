-- Whole numbers next to a fraction.
use Rattle.std.specs.Prelude.{ℤ, pos, ◌+ℤ◌, ◌-ℤ◌, ◌*ℤ◌, ◌≤ℤ◌, ◌<ℤ◌}

-- n is the greatest whole number that is at most x / w
pub record IsFloor (n x w : ℤ) : Type 0 where
  pub low : (n *ℤ w) ≤ℤ x
  pub high : x <ℤ ((n +ℤ pos 1) *ℤ w)

-- n is the least whole number that is at least x / w
pub record IsCeil (n x w : ℤ) : Type 0 where
  pub low : ((n -ℤ pos 1) *ℤ w) <ℤ x
  pub high : x ≤ℤ (n *ℤ w)
