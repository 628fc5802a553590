-- Lines of segments over the x of a place: how high they are there, and how far one is above another.
use Rattle.std.specs.Prelude.{ℕ, ℤ, ◌^◌, ◌+ℤ◌, ◌-ℤ◌, ◌*ℤ◌}
use Rattle.overlay_terms.specs.Plane.{Point, Segment}

-- a segment's width, and how much it rises
abbrev pub width : Segment → ℤ
width s = s.right.x -ℤ s.left.x

abbrev pub rise : Segment → ℤ
rise s = s.right.y -ℤ s.left.y

-- the height of the line of s over the x of q, times its width and the denominator of q
abbrev pub line_height : Segment → Point → ℤ
line_height s q = (rise s *ℤ (q.x -ℤ (s.left.x *ℤ q.w))) +ℤ (width s *ℤ (s.left.y *ℤ q.w))

-- how far t is above s over the x of q, times both widths and the denominator
abbrev pub gap : Segment → Segment → Point → ℤ
gap s t q = (width s *ℤ line_height t q) -ℤ (width t *ℤ line_height s q)

-- the greatest denominator of a point whose way from an end of a segment is reckoned in 64 bits
abbrev pub near_max : ℕ
near_max = 2 ^ 41
