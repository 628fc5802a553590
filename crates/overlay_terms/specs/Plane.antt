-- Points, segments, and what lies below, on and inside. Rings are those of ISO 19125-1:2004, 6.1.7 and
-- 6.1.11; insides are taken even-odd.
use Rattle.std.specs.Prelude.{ℕ, ℤ, pos, ◌-◌, ◌^◌, ◌%◌, ◌==◌, ◌*ℤ◌, ◌-ℤ◌, ◌≤ℤ◌, neg_ℤ, int_le}
use Rattle.std.specs.Prelude.{int_lt, Bool, true, false, ◌&&◌, not, List, length, drop, slice_get}
use Rattle.std.specs.Prelude.{zip, sum_by, count_by, filter_map, flat_map, Option, Some, None}
use Rattle.std.specs.Ordering.{int_cmp, ordering_then, is_lt, is_gt, int_eq}
use Rattle.std.specs.declared.cmp.Ordering.{Ordering}
use Rattle.std.specs.declared.cmp.Ordering.TheVariants.{Less, Equal, Greater}

-- a point with whole coordinates
pub record WholePoint : Type 0 where
  pub x : ℤ
  pub y : ℤ

-- the point (x / w, y / w); that w is at least 1 says whoever makes or takes one
pub record Point : Type 0 where
  pub x : ℤ
  pub y : ℤ
  pub w : ℤ

-- two points; as `segment_between` makes it they differ, the left end first: before the right one by x, then by y
pub record Segment : Type 0 where
  pub left : WholePoint
  pub right : WholePoint

-- a whole point as a point
abbrev pub whole : WholePoint → Point
whole a = record { x = a.x; y = a.y; w = pos 1 }

-- the order of two whole points: by x, then by y
abbrev pub whole_cmp : WholePoint → WholePoint → Ordering
whole_cmp a b = ordering_then (int_cmp a.x b.x) (int_cmp a.y b.y)

-- whether two whole points are one
abbrev pub same_whole : WholePoint → WholePoint → Bool
same_whole a b = int_eq a.x b.x && int_eq a.y b.y

-- the order of two points: by x, then by y, as fractions are compared, by multiplying their denominators out
abbrev pub point_cmp : Point → Point → Ordering
point_cmp p q = ordering_then (int_cmp (p.x *ℤ q.w) (q.x *ℤ p.w)) (int_cmp (p.y *ℤ q.w) (q.y *ℤ p.w))

-- the same place, whatever the denominators
abbrev pub same_place : Point → Point → Bool
same_place p q = int_eq (p.x *ℤ q.w) (q.x *ℤ p.w) && int_eq (p.y *ℤ q.w) (q.y *ℤ p.w)

-- the largest coordinate of a ring and of a query, 2^20; the smallest is its negative
abbrev pub coordinate_max : ℕ
coordinate_max = 1048576

-- a coordinate lies between these two
abbrev pub InRange : ℤ → Type 0
InRange n = (neg_ℤ (pos coordinate_max) ≤ℤ n) × (n ≤ℤ pos coordinate_max)

-- whether a number is a coordinate
abbrev pub is_coordinate : ℤ → Bool
is_coordinate z = int_le (neg_ℤ (pos coordinate_max)) z && int_le z (pos coordinate_max)

-- on which side of a segment's line a point lies, by its sign alone: positive above, or left of a vertical one; 0 on it
abbrev pub height_over : Segment → Point → ℤ
height_over s p =
    (s.right.x -ℤ s.left.x) *ℤ (p.y -ℤ s.left.y *ℤ p.w) -ℤ (s.right.y -ℤ s.left.y) *ℤ (p.x -ℤ s.left.x *ℤ p.w)

-- the greatest denominator of a place that two segments or a segment and a border make, 2^43
abbrev pub denominator_max : ℕ
denominator_max = 2 ^ 43

-- the point against the line of the segment: Greater above
abbrev pub side_of : Segment → Point → Ordering
side_of s p = int_cmp (height_over s p) (pos 0)

-- the segment is below the point: left.x <= p.x / p.w < right.x, and the point lies strictly above its line
abbrev pub is_below : Segment → Point → Bool
is_below s p = int_le (s.left.x *ℤ p.w) p.x && int_lt p.x (s.right.x *ℤ p.w) && int_lt (pos 0) (height_over s p)

-- the point lies on the closed segment: on its line, from its left end to its right end
abbrev pub is_on : Segment → Point → Bool
is_on s p =
    int_eq (height_over s p) (pos 0) && not (is_lt (point_cmp p (whole s.left))) && not (is_gt (point_cmp p (whole s.right)))

-- the segment between two points, if they differ
abbrev pub segment_between : WholePoint × WholePoint → Option Segment
segment_between (a, b) = by_order (whole_cmp a b) a b where
  by_order : Ordering → WholePoint → WholePoint → Option Segment
  by_order Less a b = Some (record { left = a; right = b })
  by_order Equal a b = None
  by_order Greater a b = Some (record { left = b; right = a })

-- whether the last point of a ring is its first (IsClosed of ISO 19125-1:2004, 6.1.6); a ring of no points is closed
abbrev pub is_closed : List WholePoint → Bool
is_closed ring = same_ends (slice_get ring 0) (slice_get ring (length ring - 1)) where
  same_ends : Option WholePoint → Option WholePoint → Bool
  same_ends (Some first) (Some last) = same_whole first last
  same_ends (Some first) None = false
  same_ends None last = true

-- the pairs of consecutive points of a ring
abbrev pub ring_steps : List WholePoint → List (WholePoint × WholePoint)
ring_steps ring = zip ring (drop 1 ring)

-- the segments between a ring's consecutive points, with repeats; that its last point is its first, `is_closed` says
abbrev pub ring_segments : List WholePoint → List Segment
ring_segments ring = filter_map segment_between (ring_steps ring)

-- the segments of all rings of a base layer, with repeats
abbrev pub segments_of : List (List WholePoint) → List Segment
segments_of rings = flat_map ring_segments rings

-- how many steps the rings have, those between equal points included
abbrev pub ring_step_count : List (List WholePoint) → ℕ
ring_step_count rings = sum_by (λ ring. length ring - 1) rings

-- the most steps that the rings of a base layer have
abbrev pub steps_max : ℕ
steps_max = 2048

-- even-odd: an odd number of segments is below the point
abbrev pub is_inside : List Segment → Point → Bool
is_inside segments p = count_by (λ s. is_below s p) segments % 2 == 1
