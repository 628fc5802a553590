-- Points whose numbers 64 bits hold.
use Rattle.std.specs.Prelude.{pos, ◌^◌, ◌<ℤ◌}
use Rattle.overlay_terms.specs.Plane.{Point, Segment, InRange}

-- the numbers of a point in the plane are below 2^63
pub record IsNear (p : Point) : Type 0 where
  pub x : p.x <ℤ pos (2 ^ 63)
  pub y : p.y <ℤ pos (2 ^ 63)

-- the coordinates of both ends of a segment are in range
pub record HasEndsInRange (s : Segment) : Type 0 where
  pub left_x : InRange s.left.x
  pub left_y : InRange s.left.y
  pub right_x : InRange s.right.x
  pub right_y : InRange s.right.y
