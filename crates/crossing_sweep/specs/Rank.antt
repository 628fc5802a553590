-- Whole numbers that give the order of places.
use Rattle.std.specs.Prelude.{◌≡◌, Bool, ℤ, pos, ◌^◌, ◌+ℤ◌, ◌*ℤ◌, ◌≤ℤ◌, ◌<ℤ◌, ◌⊎◌}
use Rattle.std.specs.Int.{int_rem_euclid}
use Rattle.std.specs.Ordering.{int_eq}
use Rattle.overlay_terms.specs.Plane.{Point, InRange}

-- the greatest whole number that is not above x / w
pub record IsFloor (n x w : ℤ) : Type 0 where
  pub low : (n *ℤ w) ≤ℤ x
  pub high : x <ℤ ((n *ℤ w) +ℤ w)

-- a place with a whole x lies in a row of the plane
pub record IsInRow (across row : ℤ) (p : Point) : Type 0 where
  pub upright : across *ℤ p.w ≡ p.x
  pub floor : IsFloor row p.y p.w
  pub small : InRange row

-- all places after the last row and before the next whole x have one number
pub record IsBetween (across row : ℤ) (p : Point) : Type 0 where
  pub after : (across *ℤ p.w) <ℤ p.x
  pub last : row ≡ pos (2 ^ 21)

-- whether a number is that of places between two whole x
abbrev pub is_between : ℤ → Bool
is_between rank = int_eq (int_rem_euclid rank (pos (2 ^ 22))) (pos (2 ^ 21))

-- the x of a place is whole
abbrev pub IsOverWhole : Point → Type 0
IsOverWhole p = (across : ℤ) × (across *ℤ p.w ≡ p.x)

-- a place's number: first by x, then by the rows over a whole x
pub record IsRank (rank : ℤ) (p : Point) : Type 0 where
  pub across : ℤ
  pub row : ℤ
  pub is : rank ≡ (pos (2 ^ 22) *ℤ across) +ℤ row
  pub floor : IsFloor across p.x p.w
  pub place : IsInRow across row p ⊎ IsBetween across row p
