-- What a segment on one side of a point looks like from it.
use Rattle.std.proofs.Common.{◌≡◌, ℤ, pos, ◌+ℤ◌, ◌-ℤ◌, ◌*ℤ◌, ◌<ℤ◌, ◌≤ℤ◌, refl, sym, ◌∙◌, arith, true, false, Bool, ◌&&◌, not}
use Rattle.std.proofs.lemmas.Int.{ints, by_lt_z}
use Rattle.std.proofs.Math.IntN.{zero-*ℤ}
use Rattle.std.specs.Prelude.{int_lt, int_le}
use Rattle.overlay_terms.specs.Plane.{WholePoint, Point, Segment, height_over, is_below, is_on}
use Rattle.overlay_terms.proofs.Difference.{split, differences, same, mul_mono, mul_pos}
use Rattle.overlay_terms.proofs.InputNumbers.{true_le, true_lt, less_back}
use Rattle.exact_point.proofs.OnSegment.{and3_from}
use Rattle.exact_point.proofs.Tests.{lt_no, le_no}
use Rattle.point_looks.proofs.LookLemmas.{below_behind, on_behind, below_before, on_before, below_lower, on_lower, on_higher}
use Rattle.map_window.specs.Window.{Side, left_of, right_of, under, over}

-- a whole point lies on that side of a point
abbrev pub Aside : Side → Point → WholePoint → Type 0
Aside left_of q a = (a.x *ℤ q.w) <ℤ q.x
Aside right_of q a = q.x <ℤ (a.x *ℤ q.w)
Aside under q a = (a.y *ℤ q.w) <ℤ q.y
Aside over q a = q.y <ℤ (a.y *ℤ q.w)

-- one and not the other
abbrev pub differ : Bool → Bool → Bool
differ true b = not b
differ false b = b

pub differ_self : (b : Bool) → differ b b ≡ false
differ_self true = refl
differ_self false = refl

pub differ_turned : (b c : Bool) → differ b c ≡ differ c b
differ_turned true true = refl
differ_turned true false = refl
differ_turned false true = refl
differ_turned false false = refl

-- what an end of a step says of it: of steps under a point, whether the end is not right of it
abbrev pub mark : Side → Point → WholePoint → Bool
mark left_of q a = false
mark right_of q a = false
mark under q a = int_le (a.x *ℤ q.w) q.x
mark over q a = false

-- what one segment on a side looks like
pub record Looks (side : Side) (q : Point) (s : Segment) : Type 0 where
  pub below : is_below s q ≡ differ (mark side q s.left) (mark side q s.right)
  pub on : is_on s q ≡ false

second_false : (x y z : Bool) → y ≡ false → (x && y && z) ≡ false
second_false true true z f = cc
second_false true false z f = refl
second_false false y z f = refl

both_no : (c e : Bool) → c ≡ false → e ≡ false → differ c e ≡ false
both_no true e f g = cc
both_no false e f g = g

both_yes : (c e : Bool) → c ≡ true → e ≡ true → differ c e ≡ false
both_yes true true f g = refl
both_yes true false f g = cc
both_yes false e f g = cc

first_yes : (c e : Bool) → c ≡ true → e ≡ false → differ c e ≡ true
first_yes true true f g = cc
first_yes true false f g = refl
first_yes false e f g = cc

-- the height over a line, times the denominator: each end's height by how far the other end is
weighted : (a b c d x y w : ℤ) → ((c -ℤ a) *ℤ (y -ℤ b *ℤ w) -ℤ (d -ℤ b) *ℤ (x -ℤ a *ℤ w)) *ℤ w ≡ ((c *ℤ w -ℤ x) *ℤ (y -ℤ b *ℤ w)) +ℤ ((x -ℤ a *ℤ w) *ℤ (y -ℤ d *ℤ w))
weighted a b c d x y w = rw (split a, split b, split c, split d, split x, split y, split w) (simp differences (same _ _ _ _ (omega arith)))

not_less : (a b : ℤ) → pos 0 ≤ℤ a → pos 0 ≤ℤ b → pos 0 ≤ℤ (a *ℤ b)
not_less a b h k = let most : (pos 0 *ℤ b) ≤ℤ (a *ℤ b) = mul_mono (pos 0) a b k h in omega (arith, ints, most, zero-*ℤ b)

-- a point above both ends, between them by x, lies above the line
above_line : (s : Segment) (q : Point) → pos 0 <ℤ q.w → (s.left.x *ℤ q.w) ≤ℤ q.x → q.x <ℤ (s.right.x *ℤ q.w) → (s.left.y *ℤ q.w) <ℤ q.y → (s.right.y *ℤ q.w) <ℤ q.y → pos 0 <ℤ height_over s q
above_line s q positive after before high higher =
    let a : pos 0 <ℤ ((s.right.x *ℤ q.w -ℤ q.x) *ℤ (q.y -ℤ s.left.y *ℤ q.w)) = mul_pos (s.right.x *ℤ q.w -ℤ q.x) (q.y -ℤ s.left.y *ℤ q.w) (omega (arith, ints)) (omega (arith, ints)) in
    let b : pos 0 ≤ℤ ((q.x -ℤ s.left.x *ℤ q.w) *ℤ (q.y -ℤ s.right.y *ℤ q.w)) = not_less (q.x -ℤ s.left.x *ℤ q.w) (q.y -ℤ s.right.y *ℤ q.w) (omega (arith, ints)) (omega (arith, ints)) in
    let sum = weighted s.left.x s.left.y s.right.x s.right.y q.x q.y q.w in
    less_back (pos 0) (height_over s q) q.w positive (omega (arith, ints, zero-*ℤ q.w, a, b, sum))

module _ (s : Segment) (q : Point) (positive : pos 0 <ℤ q.w) (first : s.left.x ≤ℤ s.right.x) where
  ordered : (s.left.x *ℤ q.w) ≤ℤ (s.right.x *ℤ q.w)
  ordered = mul_mono s.left.x s.right.x q.w (omega (arith, ints)) first

  looks_over : Aside over q s.left → Aside over q s.right → Looks over q s
  looks_over low lower =
      by_lt_z q.x (s.left.x *ℤ q.w) (λ m. record { below = sym (below_behind s q m); on = sym (on_behind s q m) }) (λ after.
      by_lt_z (s.right.x *ℤ q.w) q.x (λ m. record { below = sym (below_before s q m); on = sym (on_before s q m) }) (λ before.
      record { below = sym (below_lower s q positive after before low lower); on = sym (on_lower s q positive after before low lower) }))

  under_on : Aside under q s.left → Aside under q s.right → is_on s q ≡ false
  under_on high higher =
      by_lt_z q.x (s.left.x *ℤ q.w) (λ m. sym (on_behind s q m)) (λ after.
      by_lt_z (s.right.x *ℤ q.w) q.x (λ m. sym (on_before s q m)) (λ before.
      sym (on_higher s q positive after before high higher)))

  under_below : Aside under q s.left → Aside under q s.right → is_below s q ≡ differ (mark under q s.left) (mark under q s.right)
  under_below high higher =
      by_lt_z q.x (s.left.x *ℤ q.w)
      (λ m. let n : q.x <ℤ (s.right.x *ℤ q.w) = omega (arith, ints, m, ordered) in
      sym (below_behind s q m) ∙ sym (both_no (int_le (s.left.x *ℤ q.w) q.x) (int_le (s.right.x *ℤ q.w) q.x) (le_no (s.left.x *ℤ q.w) q.x m) (le_no (s.right.x *ℤ q.w) q.x n)))
      (λ after. by_lt_z q.x (s.right.x *ℤ q.w)
      (λ m. and3_from (int_le (s.left.x *ℤ q.w) q.x) (int_lt q.x (s.right.x *ℤ q.w)) (int_lt (pos 0) (height_over s q)) (true_le _ _ after) (true_lt _ _ m)
      (true_lt _ _ (above_line s q positive after m high higher))
      ∙ sym (first_yes (int_le (s.left.x *ℤ q.w) q.x) (int_le (s.right.x *ℤ q.w) q.x) (true_le _ _ after) (le_no _ _ m)))
      (λ m. second_false (int_le (s.left.x *ℤ q.w) q.x) (int_lt q.x (s.right.x *ℤ q.w)) (int_lt (pos 0) (height_over s q)) (lt_no _ _ m)
      ∙ sym (both_yes (int_le (s.left.x *ℤ q.w) q.x) (int_le (s.right.x *ℤ q.w) q.x) (true_le _ _ after) (true_le _ _ m))))

  -- a segment with both ends on one side
  pub looks : (side : Side) → Aside side q s.left → Aside side q s.right → Looks side q s
  looks left_of l r = record { below = sym (below_before s q r); on = sym (on_before s q r) }
  looks right_of l r = record { below = sym (below_behind s q l); on = sym (on_behind s q l) }
  looks under l r = record { below = under_below l r; on = under_on l r }
  looks over l r = looks_over l r
