-- What leaning asks of segments and places, from what an input is: proper segments, and places with small numbers.
use Rattle.std.specs.Prelude.{◌≡◌, ◌^◌, ℤ, pos, neg_ℤ, ◌+ℤ◌, ◌*ℤ◌, ◌<ℤ◌, ◌≤ℤ◌}
use Rattle.std.proofs.Common.{arith}
use Rattle.std.proofs.lemmas.Int.{ints, by_lt_z}
use Rattle.std.specs.declared.cmp.Ordering.TheVariants.{Less}
use Rattle.overlay_terms.specs.Plane.{WholePoint, Point, Segment, whole, point_cmp, InRange, coordinate_max}
use Rattle.overlay_terms.specs.TileLaws.{IsProper}
use Rattle.overlay_terms.specs.Within.{IsWithin}
use Rattle.overlay_terms.proofs.Bounds.{within_sub, within_mul}
use Rattle.exact_point.specs.Crossing.{turn_of, lead_of}
use Rattle.exact_point.proofs.CrossingLemmas.{mean_low, mean_high}
use Rattle.exact_point.proofs.Lines.{width, rise}
use Rattle.exact_point.proofs.Lexical.{Forward}
use Rattle.exact_point.proofs.OnSegment.{leads}
use Rattle.exact_point.proofs.OnLine.{less_from_forward}
use Rattle.exact_point.proofs.ByX.{AtMost}
use Rattle.crossing_sweep.specs.Leaning.{lean, IsNear, IsSteep, IsSmall}
use Rattle.crossing_sweep.proofs.Lean.{lean_wide}
use Rattle.crossing_sweep.proofs.Meeting.{meeting, IsMeeting, before_from_lean}
use Rattle.crossing_sweep.proofs.Keeping.{IsFit}
use Rattle.crossing_sweep.proofs.Near.{IsBounded, small_are_near}

-- ---- steep leaning
pub steep_positive : (n : ℤ) → IsSteep n → pos 0 <ℤ n
steep_positive n h = omega (arith, ints, h)

steep_over : (n : ℤ) → IsSteep n → (((pos 2097152 *ℤ pos (2 ^ 87)) *ℤ pos (2 ^ 87)) +ℤ ((pos 2097152 *ℤ pos (2 ^ 87)) *ℤ pos (2 ^ 87))) <ℤ n
steep_over n h = omega (arith, ints, h)

bounded : (p : Point) → IsSmall p → IsBounded (pos 2097152) (pos (2 ^ 87)) p
bounded p s = record { positive = s.positive; few = s.few; low = s.low; high = s.high }

-- places with small numbers are near
pub near : (n : ℤ) (p q : Point) → IsSteep n → IsSmall p → IsSmall q → IsNear n p q
near n p q h sp sq = small_are_near n (pos 2097152) (pos (2 ^ 87)) p q (omega (arith, ints)) (steep_over n h) (bounded p sp) (bounded q sq)

-- ---- proper segments
in_range : (a : ℤ) → InRange a → IsWithin coordinate_max a
in_range a h = record { low = h.0; high = h.1 }

pub width_within : (s : Segment) → IsProper s → IsWithin (2 ^ 21) (width s)
width_within s p = within_sub coordinate_max coordinate_max s.right.x s.left.x (in_range s.right.x p.right_x) (in_range s.left.x p.left_x)

pub rise_within : (s : Segment) → IsProper s → IsWithin (2 ^ 21) (rise s)
rise_within s p = within_sub coordinate_max coordinate_max s.right.y s.left.y (in_range s.right.y p.right_y) (in_range s.left.y p.left_y)

pub turn_within : (s t : Segment) → IsProper s → IsProper t → IsWithin (2 ^ 43) (turn_of s t)
turn_within s t ps pt =
    within_sub (2 ^ 42) (2 ^ 42) (width s *ℤ rise t) (rise s *ℤ width t)
    (within_mul (2 ^ 21) (2 ^ 21) (width s) (rise t) (width_within s ps) (rise_within t pt))
    (within_mul (2 ^ 21) (2 ^ 21) (rise s) (width t) (rise_within s ps) (width_within t pt))

-- they lead forward, and their leaned ones right
pub fits : (n : ℤ) (s : Segment) → IsSteep n → IsProper s → IsFit n s
fits n s h p =
    let ahead : Forward (width s) (rise s) = leads s p.first in
    record { wide = lean_wide n s (steep_positive n h) (low (rise s) n h (rise_within s p)) ahead; ahead = ahead }
  where
    low : (r n : ℤ) → IsSteep n → IsWithin (2 ^ 21) r → neg_ℤ n <ℤ r
    low r n h k = omega (arith, ints, h, k.low)

-- their ends have small numbers
whole_small : (a : WholePoint) → InRange a.y → IsSmall (whole a)
whole_small a h = record { positive = omega (arith, ints); few = omega (arith, ints); low = omega (arith, ints, h.0); high = omega (arith, ints, h.1) }

pub left_small : (s : Segment) → IsProper s → IsSmall (whole s.left)
left_small s p = whole_small s.left p.left_y

pub right_small : (s : Segment) → IsProper s → IsSmall (whole s.right)
right_small s p = whole_small s.right p.right_y

-- and where they cross too
pub meeting_small : (s t : Segment) → IsProper s → IsProper t → pos 0 <ℤ turn_of s t → IsMeeting s t → IsSmall (meeting s t)
meeting_small s t ps pt left is = record {
  positive = left;
  few = few (turn_of s t) (turn_within s t ps pt);
  low = low_of (turn_of s t) _ left (mean_low (neg_ℤ (pos coordinate_max)) s.left.y s.right.y (lead_of s t t) (turn_of s t) ps.left_y.0 ps.right_y.0 is.part.low is.part.high);
  high = high_of (turn_of s t) _ left (mean_high (pos coordinate_max) s.left.y s.right.y (lead_of s t t) (turn_of s t) ps.left_y.1 ps.right_y.1 is.part.low is.part.high);
}
  where
    few : (t : ℤ) → IsWithin (2 ^ 43) t → t ≤ℤ pos (2 ^ 87)
    few t h = omega (arith, ints, h.high)

    low_of : (w y : ℤ) → pos 0 <ℤ w → (neg_ℤ (pos coordinate_max) *ℤ w) ≤ℤ y → neg_ℤ (pos 2097152 *ℤ w) ≤ℤ y
    low_of w y k h = omega (arith, ints, h, k)

    high_of : (w y : ℤ) → pos 0 <ℤ w → y ≤ℤ (pos coordinate_max *ℤ w) → y ≤ℤ (pos 2097152 *ℤ w)
    high_of w y k h = omega (arith, ints, h, k)

-- ---- places in order
-- one that is not before another lies at most left of it in the leaned plane
pub lean_at_most : (n : ℤ) (p q : Point) → IsSteep n → IsSmall p → IsSmall q → (point_cmp q p ≡ Less → ⊥) → AtMost (lean n p) (lean n q)
lean_at_most n p q h sp sq not_before =
    by_lt_z ((lean n q).x *ℤ p.w) ((lean n p).x *ℤ q.w)
    (λ l. absurd (not_before (less_from_forward q p (before_from_lean n q p (steep_positive n h) (near n q p h sq sp) l))))
    (λ l. l)
