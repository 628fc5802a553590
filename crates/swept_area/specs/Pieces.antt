-- The code's pieces, seen from the origin of a job, as those of the definitions.
use Rattle.std.specs.Prelude.{ℤ, pos, neg_ℤ, ◌^◌, ◌+ℤ◌, ◌*ℤ◌, ◌≤ℤ◌}
use Rattle.overlay_terms.specs.Plane.{WholePoint, Point, Segment}
use Rattle.exact_point.specs.Place.{place}
use Rattle.swept_area.specs.Swept.{Sided}
use Rattle.swept_area.specs.declared.piece.SidedPiece.{SidedPiece}
use Rattle.swept_area.specs.declared.piece.Shift.{Shift}

-- points and segments farther by a shift
abbrev pub whole_from : Shift → WholePoint → WholePoint
whole_from by p = record { x = p.x +ℤ by.x; y = p.y +ℤ by.y }

abbrev pub segment_from : Shift → Segment → Segment
segment_from by s = record { left = whole_from by s.left; right = whole_from by s.right }

abbrev pub point_from : Shift → Point → Point
point_from by p = record { x = p.x +ℤ (by.x *ℤ p.w); y = p.y +ℤ (by.y *ℤ p.w); w = p.w }

-- a piece of a window, seen from the origin
abbrev pub sided_from : Shift → SidedPiece → Sided
sided_from by p =
    record { support = segment_from by p.support; from = point_from by (place p.from); to = point_from by (place p.to); over = p.over }

-- the line passes the origin by less than 2^43 units
abbrev pub IsNearLine : ℤ → ℤ → Type 0
IsNearLine turn length = (neg_ℤ (pos (2 ^ 43) *ℤ length) ≤ℤ turn) × (turn ≤ℤ (pos (2 ^ 43) *ℤ length))
