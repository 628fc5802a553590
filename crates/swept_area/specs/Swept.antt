-- The area that pieces of a boundary sweep over, seen from one origin, as a whole number of parts of a unit square.
use Rattle.std.specs.Prelude.{ℕ, ℤ, pos, neg_ℤ, unsigned_abs, ◌+ℤ◌, ◌-ℤ◌, ◌*ℤ◌, int_le, Bool, ◌||◌, List, fold, if◌then◌else◌}
use Rattle.std.specs.Int.{int_div_euclid}
use Rattle.overlay_terms.specs.Plane.{Point, Segment}

-- into how many parts a unit is divided, 2^40
abbrev pub parts : ℕ
parts = 1099511627776

-- n / d in parts of a unit, rounded down
abbrev pub in_parts : ℤ → ℤ → ℤ
in_parts n d = int_div_euclid (n *ℤ pos parts) d

-- how far the right end of a segment lies right of the left one, and how far above it
abbrev pub run_of : Segment → ℤ
run_of s = s.right.x -ℤ s.left.x

abbrev pub rise_of : Segment → ℤ
rise_of s = s.right.y -ℤ s.left.y

-- whether a segment leads at least as far to the right as up or down
abbrev pub is_flat : Segment → Bool
is_flat s = int_le (pos (unsigned_abs (rise_of s))) (run_of s)

-- how far it leads along x where it is flat, else along y
abbrev pub length_of : Segment → ℤ
length_of s = if is_flat s then run_of s else pos (unsigned_abs (rise_of s))

-- whether that coordinate grows from its left end to its right one
abbrev pub is_rising : Segment → Bool
is_rising s = is_flat s || int_le (pos 0) (rise_of s)

-- the cross product of its ends: twice the area of the triangle of the origin and the segment
abbrev pub cross_of : Segment → ℤ
cross_of s = (s.left.x *ℤ rise_of s) -ℤ (s.left.y *ℤ run_of s)

-- the same of its way on which that coordinate grows
abbrev pub turn_of : Segment → ℤ
turn_of s = if is_rising s then cross_of s else neg_ℤ (cross_of s)

-- the x of a point in parts, or its y where the segment is not flat
abbrev pub along : Segment → Point → ℤ
along s p = if is_flat s then in_parts p.x p.w else in_parts p.y p.w

-- the mark of a place on the line of a segment: what is swept, in parts, on the way along the line to there from where x,
-- or y, is 0, rounded down
abbrev pub mark_of : Segment → Point → ℤ
mark_of s p = int_div_euclid (turn_of s *ℤ along s p) (length_of s)

-- twice the area that the way on a segment's line from p to r sweeps over, in parts: the difference of their marks
abbrev pub swept_of : Segment → Point → Point → ℤ
swept_of s p r = mark_of s r -ℤ mark_of s p

-- a piece of a boundary from one point to another on a segment, and whether the inside is over it, or left of a vertical one
pub record Sided : Type 0 where
  pub support : Segment
  pub from : Point
  pub to : Point
  pub over : Bool

-- twice the area that a piece sweeps over with the inside on its left
abbrev pub signed_of : Sided → ℤ
signed_of a = if a.over then swept_of a.support a.from a.to else swept_of a.support a.to a.from

-- twice the area that pieces enclose, in parts: the sum over them; 0 where there is none
abbrev pub swept_area : List Sided → ℤ
swept_area pieces = fold (λ total a. total +ℤ signed_of a) (pos 0) pieces
