-- Ranges of blocks of segments.
use Rattle.std.specs.Prelude.{◌≡◌, ◌≤ℤ◌, List, [], ◌∷◌, take, drop}
use Rattle.std.specs.List.{AllByRecursion}
use Rattle.overlay_terms.specs.Plane.{Segment}
use Rattle.plane_base.specs.declared.bounds.Bounds.{Bounds}

-- both ends of a segment lie within the ranges
pub record Holds (b : Bounds) (s : Segment) : Type 0 where
  pub left_x : b.low_x ≤ℤ s.left.x
  pub right_x : s.right.x ≤ℤ b.high_x
  pub left_low : b.low_y ≤ℤ s.left.y
  pub left_high : s.left.y ≤ℤ b.high_y
  pub right_low : b.low_y ≤ℤ s.right.y
  pub right_high : s.right.y ≤ℤ b.high_y

-- the first ranges hold the first 32 segments, the next ones the next 32, and so on to the last
abbrev pub Cover : List Bounds → List Segment → Type 0
Cover [] segments = segments ≡ []
Cover (b ∷ bounds) segments = AllByRecursion (Holds b) (take 32 segments) × Cover bounds (drop 32 segments)
