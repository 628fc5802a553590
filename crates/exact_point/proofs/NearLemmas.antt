-- Which points have numbers that 64 bits hold: all that are made of ends, borders and crossings.
use Rattle.std.proofs.Common.{◌≡◌, ℤ, pos, neg_ℤ, ◌+ℤ◌, ◌-ℤ◌, ◌*ℤ◌, ◌<ℤ◌, ◌≤ℤ◌, ◌^◌, refl, ap, sym, ◌∙◌, inl, inr, ◌⊎◌, arith, lit<, Bool, true, false, int_lt, to_z, of_z}
use Rattle.std.specs.Int.{w64, w128}
use Rattle.std.specs.Prelude.{if◌then◌else◌}
use Rattle.std.proofs.Props.{props}
use Rattle.std.proofs.lemmas.Int.{ints, by_lt_z}
use mathlib.Core.HLevel.{is_prop→PathP}
use Rattle.std.specs.declared.cmp.Ordering.TheVariants.{Less}
use Rattle.overlay_terms.specs.Plane.{Point, Segment, whole_cmp, coordinate_max, denominator_max}
use Rattle.overlay_terms.specs.Within.{IsWithin}
use Rattle.overlay_terms.proofs.Bounds.{read, within_mul}
use Rattle.exact_point.specs.Crossing.{turn_of, lead_of}
use Rattle.exact_point.specs.Near.{IsNear, HasEndsInRange}
use Rattle.exact_point.specs.Place.{place}
use Rattle.exact_point.specs.PlaceOf.{part_way, crossing_place}
use Rattle.exact_point.specs.declared.point.HPoint.{HPoint}
use Rattle.exact_point.proofs.Lexical.{Forward}
use Rattle.exact_point.proofs.OnSegment.{leads}

-- points with the same numbers are the same
pub same_numbers : (p q : HPoint) → p.x ≡ q.x → p.y ≡ q.y → p.w ≡ q.w → p ≡ q
same_numbers p q ex ey ew =
    λ i. record {
      x = ex i;
      y = ey i;
      w = ew i;
      w_low = is_prop→PathP (λ j. pos 1 ≤ℤ ew j) (λ j. hlevel props) p.w_low q.w_low i;
      w_high = is_prop→PathP (λ j. ew j ≤ℤ pos denominator_max) (λ j. hlevel props) p.w_high q.w_high i;
      x_low = is_prop→PathP (λ j. neg_ℤ (pos coordinate_max *ℤ ew j) ≤ℤ ex j) (λ j. hlevel props) p.x_low q.x_low i;
      x_high = is_prop→PathP (λ j. ex j ≤ℤ (pos coordinate_max *ℤ ew j)) (λ j. hlevel props) p.x_high q.x_high i;
      y_low = is_prop→PathP (λ j. neg_ℤ (pos coordinate_max *ℤ ew j) ≤ℤ ey j) (λ j. hlevel props) p.y_low q.y_low i;
      y_high = is_prop→PathP (λ j. ey j ≤ℤ (pos coordinate_max *ℤ ew j)) (λ j. hlevel props) p.y_high q.y_high i;
    }

-- what the code's number of 64 bits reads as
pub reads_near : (z : ℤ) → neg_ℤ (pos (2 ^ 63)) ≤ℤ z → z <ℤ pos (2 ^ 63) → to_z w64 (of_z w64 z) ≡ z
reads_near z l h = omega (arith, ints)

within_wide : (z w : ℤ) → w ≤ℤ pos denominator_max → neg_ℤ (pos coordinate_max *ℤ w) ≤ℤ z → z ≤ℤ (pos coordinate_max *ℤ w) → IsWithin (2 ^ 63) z
within_wide z w most low high = record { low = omega (arith, ints, most, low); high = omega (arith, ints, most, high) }

-- and what it reads as in 128 bits
pub reads_wide : (z w : ℤ) → w ≤ℤ pos denominator_max → neg_ℤ (pos coordinate_max *ℤ w) ≤ℤ z → z ≤ℤ (pos coordinate_max *ℤ w) → to_z w128 (of_z w128 z) ≡ z
reads_wide z w most low high = read (2 ^ 63) z (within_wide z w most low high) (lit< tt)

-- a denominator below the greatest leaves room
pub near_below : (z : HPoint) → z.w <ℤ pos denominator_max → IsNear (place z)
near_below z l = record { x = omega (arith, ints, l, z.x_high); y = omega (arith, ints, l, z.y_high) }

-- ---- crossings: the denominator is the greatest where both diagonals of the plane cross, and they do in its middle
record AreDiagonal (a b c d : ℤ) : Type 0 where
  a_is : a ≡ pos 2097152
  b_is : b ≡ neg_ℤ (pos 2097152)
  c_is : c ≡ pos 2097152
  d_is : d ≡ pos 2097152

turned_most : (a b c d : ℤ) → IsWithin 2097152 a → IsWithin 2097152 b → IsWithin 2097152 c → IsWithin 2097152 d → pos 0 ≤ℤ a → pos 0 ≤ℤ c
    → (a *ℤ d) -ℤ (b *ℤ c) ≡ pos (2 ^ 43) → AreDiagonal a b c d
turned_most a b c d ha hb hc hd la lc e =
    let first = within_mul 2097152 2097152 a d ha hd in
    let second = within_mul 2097152 2097152 b c hb hc in
    let low : pos (2 ^ 42) ≤ℤ (a *ℤ d) = omega (arith, ints, e, second.low) in
    let high : (b *ℤ c) ≤ℤ neg_ℤ (pos (2 ^ 42)) = omega (arith, ints, e, first.high) in
    let is_a : a ≡ pos 2097152 = by_lt_z a (pos 2097152) (λ l. absurd (omega (arith, ints, low, (within_mul 2097151 2097152 a d (record { low = omega (arith, ints, la); high = omega (arith, ints, l) }) hd).high))) (λ m. omega (arith, ints, m, ha.high)) in
    let is_c : c ≡ pos 2097152 = by_lt_z c (pos 2097152) (λ l. absurd (omega (arith, ints, high, (within_mul 2097152 2097151 b c hb (record { low = omega (arith, ints, lc); high = omega (arith, ints, l) })).low))) (λ m. omega (arith, ints, m, hc.high)) in
    let by_a : pos 2097152 *ℤ d ≡ a *ℤ d = ap (λ z. z *ℤ d) (sym is_a) in
    let by_c : b *ℤ pos 2097152 ≡ b *ℤ c = ap (λ z. b *ℤ z) (sym is_c) in
    record {
      a_is = is_a;
      b_is = omega (arith, ints, high, by_c, hb.low);
      c_is = is_c;
      d_is = omega (arith, ints, low, by_a, hd.high);
    }

middle_x : (p q r s u v m w : ℤ) → p ≡ neg_ℤ (pos 1048576) → q ≡ pos 1048576 → r ≡ pos 1048576 → s ≡ neg_ℤ (pos 1048576) → u ≡ neg_ℤ (pos 1048576) → v ≡ pos 1048576 → m ≡ pos 1048576 → w ≡ pos (2 ^ 43)
    → (p *ℤ w) +ℤ ((r -ℤ p) *ℤ ((s -ℤ p) *ℤ (v -ℤ u) -ℤ (u -ℤ q) *ℤ (m -ℤ s))) ≡ pos 0
middle_x p q r s u v m w ep eq er es eu ev em ew = rw (ep, eq, er, es, eu, ev, em, ew) refl

middle_y : (p q t s u v m w : ℤ) → p ≡ neg_ℤ (pos 1048576) → q ≡ pos 1048576 → t ≡ neg_ℤ (pos 1048576) → s ≡ neg_ℤ (pos 1048576) → u ≡ neg_ℤ (pos 1048576) → v ≡ pos 1048576 → m ≡ pos 1048576 → w ≡ pos (2 ^ 43)
    → (q *ℤ w) +ℤ ((t -ℤ q) *ℤ ((s -ℤ p) *ℤ (v -ℤ u) -ℤ (u -ℤ q) *ℤ (m -ℤ s))) ≡ pos 0
middle_y p q t s u v m w ep eq et es eu ev em ew = rw (ep, eq, et, es, eu, ev, em, ew) refl

module _ (a b : Segment) (in_a : HasEndsInRange a) (in_b : HasEndsInRange b) (first : whole_cmp a.left a.right ≡ Less) (second : whole_cmp b.left b.right ≡ Less) where
  within : (l r : ℤ) → (neg_ℤ (pos coordinate_max) ≤ℤ l) × (l ≤ℤ pos coordinate_max) → (neg_ℤ (pos coordinate_max) ≤ℤ r) × (r ≤ℤ pos coordinate_max) → IsWithin 2097152 (r -ℤ l)
  within l r hl hr = record { low = omega (arith, ints, hl.1, hr.0); high = omega (arith, ints, hl.0, hr.1) }

  forward_x : (x y : ℤ) → Forward x y → pos 0 ≤ℤ x
  forward_x x y (inl h) = omega (arith, ints, h)
  forward_x x y (inr h) = omega (arith, ints, h.0)

  diagonal : turn_of a b ≡ pos (2 ^ 43) → AreDiagonal (a.right.x -ℤ a.left.x) (a.right.y -ℤ a.left.y) (b.right.x -ℤ b.left.x) (b.right.y -ℤ b.left.y)
  diagonal e =
      turned_most _ _ _ _ (within _ _ in_a.left_x in_a.right_x) (within _ _ in_a.left_y in_a.right_y) (within _ _ in_b.left_x in_b.right_x) (within _ _ in_b.left_y in_b.right_y)
      (forward_x _ _ (leads a first)) (forward_x _ _ (leads b second)) e

  at_middle : (z : HPoint) → place z ≡ part_way a (lead_of a b b) (turn_of a b) → turn_of a b ≡ pos (2 ^ 43) → IsNear (place z)
  at_middle z is e =
      let far = diagonal e in
      let alx : a.left.x ≡ neg_ℤ (pos 1048576) = omega (arith, ints, far.a_is, in_a.left_x.0, in_a.right_x.1) in
      let arx : a.right.x ≡ pos 1048576 = omega (arith, ints, far.a_is, in_a.left_x.0, in_a.right_x.1) in
      let aly : a.left.y ≡ pos 1048576 = omega (arith, ints, far.b_is, in_a.left_y.1, in_a.right_y.0) in
      let ary : a.right.y ≡ neg_ℤ (pos 1048576) = omega (arith, ints, far.b_is, in_a.left_y.1, in_a.right_y.0) in
      let blx : b.left.x ≡ neg_ℤ (pos 1048576) = omega (arith, ints, far.c_is, in_b.left_x.0, in_b.right_x.1) in
      let brx : b.right.x ≡ pos 1048576 = omega (arith, ints, far.c_is, in_b.left_x.0, in_b.right_x.1) in
      let bly : b.left.y ≡ neg_ℤ (pos 1048576) = omega (arith, ints, far.d_is, in_b.left_y.0, in_b.right_y.1) in
      let bry : b.right.y ≡ pos 1048576 = omega (arith, ints, far.d_is, in_b.left_y.0, in_b.right_y.1) in
      let x_is : z.x ≡ pos 0 = ap (λ p. p.x) is ∙ middle_x a.left.x a.left.y a.right.x b.left.x b.left.y b.right.y b.right.x (turn_of a b) alx aly arx blx bly bry brx e in
      let y_is : z.y ≡ pos 0 = ap (λ p. p.y) is ∙ middle_y a.left.x a.left.y a.right.y b.left.x b.left.y b.right.y b.right.x (turn_of a b) alx aly ary blx bly bry brx e in
      record { x = omega (arith, ints, x_is); y = omega (arith, ints, y_is) }

  pub near_part : (z : HPoint) → place z ≡ part_way a (lead_of a b b) (turn_of a b) → IsNear (place z)
  near_part z is =
      let w_is : z.w ≡ turn_of a b = ap (λ p. p.w) is in
      by_lt_z z.w (pos denominator_max) (λ l. near_below z l) (λ m. at_middle z is (sym w_is ∙ omega (arith, ints, m, z.w_high)))

chosen : (t : Bool) (p q r : Point) → r ≡ (if t then p else q) → (r ≡ p) ⊎ (r ≡ q)
chosen true p q r e = inl e
chosen false p q r e = inr e

-- where two segments cross, 64 bits hold the numbers
pub near_crossing : (a b : Segment) → HasEndsInRange a → HasEndsInRange b → whole_cmp a.left a.right ≡ Less → whole_cmp b.left b.right ≡ Less
    → (z : HPoint) → place z ≡ crossing_place a b → IsNear (place z)
near_crossing a b in_a in_b first second z is =
    by (chosen (int_lt (pos 0) (turn_of a b)) (part_way a (lead_of a b b) (turn_of a b)) (part_way b (lead_of b a a) (turn_of b a)) (place z) is)
  where
    by : (place z ≡ part_way a (lead_of a b b) (turn_of a b)) ⊎ (place z ≡ part_way b (lead_of b a a) (turn_of b a)) → IsNear (place z)
    by (inl e) = near_part a b in_a in_b first second z e
    by (inr e) = near_part b a in_b in_a second first z e
