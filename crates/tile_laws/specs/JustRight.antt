-- Segments over the x of a place, from the lowest to the highest just right of it.
use Rattle.std.specs.Prelude.{ℕ, pos, ◌%◌, ◌==◌, ◌*ℤ◌, int_le, int_lt, Bool, ◌&&◌, ◌||◌, List, count_by}
use Rattle.std.specs.Ordering.{int_eq}
use Rattle.overlay_terms.specs.Plane.{Point, Segment}
use Rattle.overlay_terms.specs.Layers.{Marked}
use Rattle.exact_point.specs.Crossing.{turn_of}
use Rattle.exact_point.specs.Lines.{gap}

-- the segment passes over the x of q: from its left end on, before its right end
abbrev pub is_over_x : Segment → Point → Bool
is_over_x s q = int_le (s.left.x *ℤ q.w) q.x && int_lt q.x (s.right.x *ℤ q.w)

-- s is under t just right of the x of q
abbrev pub is_under : Segment → Segment → Point → Bool
is_under s t q = int_lt (pos 0) (gap s t q) || (int_eq (gap s t q) (pos 0) && int_lt (pos 0) (turn_of s t))

-- s and t lie on one line
abbrev pub is_level : Segment → Segment → Point → Bool
is_level s t q = int_eq (gap s t q) (pos 0) && int_eq (turn_of s t) (pos 0)

-- which base layers have an odd number of segments over the x of q that pass a test
abbrev pub bits_where : (Segment → Bool) → List Marked → Point → ℕ → Bool
bits_where test marked q k = count_by (λ m. (m.layer == k) && (is_over_x m.segment q && test m.segment)) marked % 2 == 1

-- those with an odd number under s
abbrev pub under_bits : List Marked → Segment → Point → ℕ → Bool
under_bits marked s q = bits_where (λ t. is_under t s q) marked q

-- those with an odd number under s or on its line
abbrev pub up_to_bits : List Marked → Segment → Point → ℕ → Bool
up_to_bits marked s q = bits_where (λ t. is_under t s q || is_level t s q) marked q

-- a stretch from p to r passes over the x of q
abbrev pub is_stretch_over : (Point × Point) → Point → Bool
is_stretch_over (p, r) q = int_le (p.x *ℤ q.w) (q.x *ℤ p.w) && int_lt (q.x *ℤ r.w) (r.x *ℤ q.w)
