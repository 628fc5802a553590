-- A vertical segment has an even number of the four signs in a strip: both its ends are on one side of the line.
use Rattle.std.specs.Prelude.{◌≡◌, ℤ, pos, ◌+ℤ◌, ◌-ℤ◌, ◌*ℤ◌, ◌<ℤ◌, ◌≤ℤ◌, int_lt, Bool, true, false, not, ◌&&◌, IsTrue}
use Rattle.std.proofs.Common.{ap, ◌∙◌, arith, inr}
use Rattle.std.proofs.lemmas.Int.{ints, by_lt_z}
use Rattle.std.proofs.Math.IntN.{*ℤ-zero, zero-*ℤ}
use Rattle.overlay_terms.specs.Plane.{WholePoint, Point, Segment, whole, height_over, is_on}
use Rattle.overlay_terms.proofs.Difference.{split, whole_is, differences, same, mul_pos}
use Rattle.exact_point.proofs.OnSegment.{is_reached}
use Rattle.exact_point.proofs.PlaceOrder.{one_positive}
use Rattle.exact_point.proofs.ByX.{Left, AtMost, left_after, left_before}
use Rattle.exact_point.proofs.Lines.{width, rise, base, height_form, line_form, place_over, over_on_line}
use Rattle.tile_laws.proofs.JustRight.{is_under}
use Rattle.tile_laws.proofs.EvenRegion.{differ}
use Rattle.tile_laws.proofs.SideMeeting.{Stretch, Apart, over_least, over_most}
use Rattle.tile_laws.proofs.SideStrip.{is_past, strip_parity, past_true, past_false, signs_by_past}

-- ---- over opaque numbers
pub upright_level : (d e x y : ℤ) → d ≡ pos 0 → x ≡ pos 0 → (d *ℤ y) -ℤ (e *ℤ x) ≡ pos 0
upright_level d e x y f g = omega (arith, ints, ap (λ z. z *ℤ y) f, zero-*ℤ y, ap (λ z. e *ℤ z) g, *ℤ-zero e)

-- from a vertical line each other one turns
pub upright_turn : (d e f g : ℤ) → d ≡ pos 0 → pos 0 <ℤ f → pos 0 <ℤ g → (d *ℤ e) -ℤ (f *ℤ g) ≡ pos 0 → ⊥
upright_turn d e f g none up wide k = omega (arith, ints, k, ap (λ z. z *ℤ e) none, zero-*ℤ e, mul_pos f g up wide)

one_way : (l d : ℤ) → (l *ℤ d) -ℤ (l *ℤ (pos 1 *ℤ d)) ≡ pos 0
one_way l d = rw (split l, split d, whole_is 0, whole_is 1) (simp differences (same _ _ _ _ (omega arith)))

times_once : (m d : ℤ) → m *ℤ (pos 1 *ℤ d) ≡ d *ℤ m
times_once m d = rw (split m, split d, whole_is 1) (simp differences (same _ _ _ _ (omega arith)))

-- the point of the line is not under an end that is under the line
above_low : (d m y h : ℤ) → h ≡ (d *ℤ m) -ℤ y → h <ℤ pos 0 → pos 0 ≤ℤ (y -ℤ (m *ℤ (pos 1 *ℤ d)))
above_low d m y h e k = omega (arith, ints, e, times_once m d)

-- nor above one that is not under it
below_high : (d m y h : ℤ) → h ≡ (d *ℤ m) -ℤ y → pos 0 ≤ℤ h → pos 0 ≤ℤ ((m *ℤ (pos 1 *ℤ d)) -ℤ y)
below_high d m y h e k = omega (arith, ints, e, times_once m d)

level_ends : (l r : ℤ) → r -ℤ l ≡ pos 0 → r ≡ l
level_ends l r e = omega (arith, ints)

-- of two heights over one x, the higher one is not under where the lower one isn't
taller_by : (d m n y : ℤ) → ((d *ℤ n) -ℤ y) ≡ ((d *ℤ m) -ℤ y) +ℤ ((n -ℤ m) *ℤ d)
taller_by d m n y = rw (split d, split m, split n, split y) (simp differences (same _ _ _ _ (omega arith)))

-- where the lower end is not under the line, the upper end is not
taller : (d m n y h k : ℤ) → pos 0 <ℤ d → pos 0 <ℤ (n -ℤ m) → h ≡ (d *ℤ m) -ℤ y → k ≡ (d *ℤ n) -ℤ y → pos 0 ≤ℤ h → pos 0 ≤ℤ k
taller d m n y h k wide up e f low = omega (arith, ints, e, f, taller_by d m n y, mul_pos (n -ℤ m) d up wide)

both_low : (a b : ℤ) → a <ℤ pos 0 → b <ℤ pos 0 → int_lt a (pos 0) ≡ int_lt b (pos 0)
both_low a b h k = grind (arith, ints, h, k)

both_high : (a b : ℤ) → pos 0 ≤ℤ a → pos 0 ≤ℤ b → int_lt a (pos 0) ≡ int_lt b (pos 0)
both_high a b h k = grind (arith, ints, h, k)

-- where both ends are past a border or neither, only the ends within the strip count
upright_signs : (p q r s tu tv ta tb : Bool) → q ≡ p → s ≡ r → (p ≡ true → r ≡ false → ta ≡ tb) → differ ((not p && q) && tu) (differ ((not r && s) && tv) (differ ((p && not r) && ta) ((q && not s) && tb))) ≡ false
upright_signs p q r s tu tv ta tb e f h = grind (arith, e, f, h)

-- the height of a whole point over a line
whole_height : (s : Segment) (e : WholePoint) → height_over s (whole e) ≡ (width s *ℤ e.y) -ℤ ((rise s *ℤ e.x) +ℤ (base s *ℤ pos 1))
whole_height s e = height_form s (whole e) ∙ ap (λ z. (width s *ℤ e.y) -ℤ z) (line_form s (whole e))

module _ (s t : Segment) (p r u v : Point) (stretch : Stretch s p r) (apart : Apart s t p r) (upright : width t ≡ pos 0) (up : pos 0 <ℤ rise t) (u_positive : pos 0 <ℤ u.w) (v_positive : pos 0 <ℤ v.w) (begin : AtMost p u) (later : Left u v) (end : Left v r) where
  one_x : t.right.x ≡ t.left.x
  one_x = level_ends t.left.x t.right.x upright

  -- the upper end, over the x of the lower one
  upper_height : height_over s (whole t.right) ≡ (width s *ℤ t.right.y) -ℤ ((rise s *ℤ t.left.x) +ℤ (base s *ℤ pos 1))
  upper_height = whole_height s t.right ∙ ap (λ z. (width s *ℤ t.right.y) -ℤ ((rise s *ℤ z) +ℤ (base s *ℤ pos 1))) one_x

  -- where the lower end is under the line and the upper end isn't, it is on t
  on_upright : height_over s (whole t.left) <ℤ pos 0 → pos 0 ≤ℤ height_over s (whole t.right) → IsTrue (is_on t (place_over s t.left.x (pos 1)))
  on_upright low high =
      let z : Point = place_over s t.left.x (pos 1) in
      is_reached t (place_over s t.left.x (pos 1)) (record {
        level = upright_level (width t) (rise t) (z.x -ℤ (t.left.x *ℤ z.w)) (z.y -ℤ (t.left.y *ℤ z.w)) upright (one_way t.left.x (width s));
        from_left = inr (one_way t.left.x (width s), above_low (width s) t.left.y z.y (height_over s (whole t.left)) (whole_height s t.left) low);
        to_right = inr (ap (λ n. (n *ℤ z.w) -ℤ z.x) one_x ∙ turned_way t.left.x (width s), below_high (width s) t.right.y z.y (height_over s (whole t.right)) upper_height high);
      })
    where
      turned_way : (l d : ℤ) → (l *ℤ (pos 1 *ℤ d)) -ℤ (l *ℤ d) ≡ pos 0
      turned_way l d = rw (split l, split d, whole_is 0, whole_is 1) (simp differences (same _ _ _ _ (omega arith)))

  -- that is a crossing strictly inside the stretch
  not_across : Left u (whole t.left) → AtMost (whole t.left) v → height_over s (whole t.left) <ℤ pos 0 → pos 0 ≤ℤ height_over s (whole t.right) → ⊥
  not_across after before low high =
      let z : Point = place_over s t.left.x (pos 1) in
      let z_positive : pos 0 <ℤ z.w = mul_pos (pos 1) (width s) one_positive stretch.wide in
      let after_p : Left p (whole t.left) = left_after p u (whole t.left) stretch.from_positive u_positive one_positive begin after in
      let before_r : Left (whole t.left) r = left_after (whole t.left) v r one_positive v_positive stretch.to_positive before end in
      upright_turn (width t) (rise s) (rise t) (width s) upright up stretch.wide
      (apart.no_crossing z z_positive
      (left_before p (whole t.left) z stretch.from_positive one_positive z_positive after_p (over_least s (whole t.left)))
      (left_after z (whole t.left) r z_positive one_positive stretch.to_positive (over_most s (whole t.left)) before_r)
      (over_on_line s t.left.x (pos 1))
      (on_upright low high))

  -- so both ends are under the line or neither
  both_ends : is_past u t.left ≡ true → is_past v t.left ≡ false → int_lt (height_over s (whole t.left)) (pos 0) ≡ int_lt (height_over s (whole t.right)) (pos 0)
  both_ends a b =
      by_lt_z (height_over s (whole t.left)) (pos 0)
      (λ low. by_lt_z (height_over s (whole t.right)) (pos 0)
      (λ under. both_low (height_over s (whole t.left)) (height_over s (whole t.right)) low under)
      (λ high. absurd (not_across (past_true u t.left a) (past_false v t.left b) low high)))
      (λ high. both_high (height_over s (whole t.left)) (height_over s (whole t.right)) high
      (taller (width s) t.left.y t.right.y ((rise s *ℤ t.left.x) +ℤ (base s *ℤ pos 1)) (height_over s (whole t.left)) (height_over s (whole t.right)) stretch.wide up (whole_height s t.left) upper_height high))

  -- an even number of the four signs
  pub upright_even : strip_parity s t u v ≡ false
  upright_even =
      signs_by_past s t u v
      ∙ upright_signs (is_past u t.left) (is_past u t.right) (is_past v t.left) (is_past v t.right) (is_under t s u) (is_under t s v) (int_lt (height_over s (whole t.left)) (pos 0)) (int_lt (height_over s (whole t.right)) (pos 0))
      (ap (λ x. int_lt u.x (x *ℤ u.w)) one_x) (ap (λ x. int_lt v.x (x *ℤ v.w)) one_x) both_ends
