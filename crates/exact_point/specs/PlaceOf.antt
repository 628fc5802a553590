-- The place of a name, as its exact coordinates.
use Rattle.std.specs.Prelude.{ℕ, ℤ, pos, ◌+ℤ◌, ◌-ℤ◌, ◌*ℤ◌, int_lt, if◌then◌else◌}
use Rattle.overlay_terms.specs.Plane.{Point, Segment, whole}
use Rattle.overlay_terms.specs.Column.{border}
use Rattle.exact_point.specs.Crossing.{turn_of, lead_of}
use Rattle.exact_point.specs.declared.point_name.PointName.{PointName}
use Rattle.exact_point.specs.declared.point_name.PointName.TheVariants.{Vertex, Cross, Border}

-- the place t / w of the way from the left end of a segment to its right end
abbrev pub part_way : Segment → ℤ → ℤ → Point
part_way s t w =
    record { x = (s.left.x *ℤ w) +ℤ ((s.right.x -ℤ s.left.x) *ℤ t); y = (s.left.y *ℤ w) +ℤ ((s.right.y -ℤ s.left.y) *ℤ t); w = w }

-- where the lines of two segments cross, on the one that the other turns left from
abbrev pub crossing_place : Segment → Segment → Point
crossing_place a b =
    if int_lt (pos 0) (turn_of a b) then part_way a (lead_of a b b) (turn_of a b) else part_way b (lead_of b a a) (turn_of b a)

-- where the border of a column cuts the line of a segment that is not vertical
abbrev pub cut_place : Segment → ℕ → Point
cut_place s column = part_way s (border column -ℤ s.left.x) (s.right.x -ℤ s.left.x)

-- where a named place lies: at the point, where the two segments cross, or where the border cuts the segment
abbrev pub place_of : PointName → Point
place_of (Vertex v) = whole v
place_of (Cross a b) = crossing_place a b
place_of (Border s column) = cut_place s column
