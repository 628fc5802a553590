-- Where a vertical line cuts a segment.
use Rattle.std.specs.Prelude.{ℤ, ◌-ℤ◌, ◌<ℤ◌}
use Rattle.overlay_terms.specs.Plane.{InRange, Point, Segment}
use Rattle.exact_point.specs.PlaceOf.{part_way}

-- where the vertical line over x cuts the line of a segment that is not vertical
abbrev pub cut_over : Segment → ℤ → Point
cut_over s x = part_way s (x -ℤ s.left.x) (s.right.x -ℤ s.left.x)

-- the ends of a segment are within the coordinates, and x lies strictly between them
pub record IsCutOver (s : Segment) (x : ℤ) : Type 0 where
  pub left_x : InRange s.left.x
  pub left_y : InRange s.left.y
  pub right_x : InRange s.right.x
  pub right_y : InRange s.right.y
  pub after_left : s.left.x <ℤ x
  pub before_right : x <ℤ s.right.x
