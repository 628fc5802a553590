-- A segment that is not vertical has an even number of the four signs in a strip.
use Rattle.std.specs.Prelude.{◌≡◌, ℤ, pos, ◌-ℤ◌, ◌*ℤ◌, ◌<ℤ◌, ◌≤ℤ◌, int_lt, true, false}
use Rattle.std.proofs.Common.{sym, ◌∙◌, arith}
use Rattle.std.proofs.lemmas.Int.{ints, by_lt_z}
use Rattle.overlay_terms.specs.Plane.{WholePoint, Point, Segment, whole, height_over}
use Rattle.overlay_terms.proofs.Whole.{same_most}
use Rattle.exact_point.proofs.PlaceOrder.{one_positive}
use Rattle.exact_point.proofs.ByX.{Left, AtMost, left_after, left_before, at_most_through, left_most}
use Rattle.exact_point.proofs.Lines.{width, gap, heights_give_gap}
use Rattle.exact_point.proofs.OnLine.{left_on_line, right_on_line}
use Rattle.tile_laws.proofs.JustRight.{is_under}
use Rattle.tile_laws.proofs.StripSigns.{four_signs}
use Rattle.tile_laws.proofs.SideMeeting.{Stretch, Apart}
use Rattle.tile_laws.proofs.SideOrder.{order_kept, under_is_above}
use Rattle.tile_laws.proofs.SideStrip.{is_past, strip_parity, past_true, past_false, true_past, signs_by_past, end_sign, gap_sign}

-- a place is not right of itself
itself : (q : Point) → AtMost q q
itself q = not_more (q.x *ℤ q.w)
  where
    not_more : (a : ℤ) → a ≤ℤ a
    not_more a = omega (arith, ints)

-- the ends of a segment that is not vertical are in order
ends_in_order : (l r : ℤ) → pos 0 <ℤ (r -ℤ l) → (l *ℤ pos 1) <ℤ (r *ℤ pos 1)
ends_in_order l r h = omega (arith, ints)

module _ (s t : Segment) (p r u v : Point) (stretch : Stretch s p r) (apart : Apart s t p r) (wide : pos 0 <ℤ width t) (u_positive : pos 0 <ℤ u.w) (v_positive : pos 0 <ℤ v.w) (begin : AtMost p u) (later : Left u v) (end : Left v r) where
  -- an end of t is under the line of s where the gap says so
  end_below : (e : WholePoint) → height_over t (whole e) ≡ pos 0 → int_lt (pos 0) (gap t s (whole e)) ≡ int_lt (height_over s (whole e)) (pos 0)
  end_below e level =
      end_sign (height_over t (whole e)) (width s) (height_over s (whole e)) (width t) (gap t s (whole e)) wide level (heights_give_gap t s (whole e))

  -- the left end lies left of the right one
  in_order : Left (whole t.left) (whole t.right)
  in_order = ends_in_order t.left.x t.right.x wide

  -- strictly after the stretch begins
  after_begin : Left p v
  after_begin = left_after p u v stretch.from_positive u_positive v_positive begin later

  -- an end not right of the second border lies left of where the stretch ends
  inside_right : AtMost (whole t.right) v → Left (whole t.right) r
  inside_right h = left_after (whole t.right) v r one_positive v_positive stretch.to_positive h end

  inside_left : AtMost (whole t.left) v → Left (whole t.left) r
  inside_left h = left_after (whole t.left) v r one_positive v_positive stretch.to_positive h end

  -- an end right of the first border lies right of where the stretch begins
  after_u : Left u (whole t.left) → Left p (whole t.left)
  after_u h = left_after p u (whole t.left) stretch.from_positive u_positive one_positive begin h

  -- it is over the first border and ends in the strip
  ends_within : is_past u t.left ≡ false → is_past v t.right ≡ false → is_past u t.right ≡ true → is_under t s u ≡ int_lt (height_over s (whole t.right)) (pos 0)
  ends_within a b c =
      order_kept s t p r stretch apart wide u (whole t.right) u_positive one_positive begin (past_true u t.right c) (inside_right (past_false v t.right b)) (past_false u t.left a) (itself (whole t.right))
      ∙ end_below t.right (right_on_line t)

  -- over the second border, strictly inside the stretch
  above_at_v : AtMost (whole t.left) v → AtMost v (whole t.right) → is_under t s v ≡ int_lt (pos 0) (gap t s v)
  above_at_v low high = under_is_above s t p r stretch apart wide v v_positive after_begin end low high

  -- it is over both borders
  over_both : is_past u t.left ≡ false → is_past v t.right ≡ true → is_under t s u ≡ is_under t s v
  over_both a b =
      let high : AtMost v (whole t.right) = left_most v (whole t.right) (past_true v t.right b) in
      let low : AtMost (whole t.left) u = past_false u t.left a in
      order_kept s t p r stretch apart wide u v u_positive v_positive begin later end low high
      ∙ sym (above_at_v (at_most_through (whole t.left) u v one_positive u_positive v_positive low (left_most u v later)) high)

  -- it begins and ends in the strip
  within : is_past u t.left ≡ true → is_past v t.right ≡ false → int_lt (height_over s (whole t.left)) (pos 0) ≡ int_lt (height_over s (whole t.right)) (pos 0)
  within a b =
      let after : Left u (whole t.left) = past_true u t.left a in
      let before : Left (whole t.right) r = inside_right (past_false v t.right b) in
      let left_in : Left (whole t.left) r = left_before (whole t.left) (whole t.right) r one_positive one_positive stretch.to_positive in_order (left_most (whole t.right) r before) in
      sym (end_below t.left (left_on_line t))
      ∙ sym (under_is_above s t p r stretch apart wide (whole t.left) one_positive (after_u after) left_in (itself (whole t.left)) (left_most (whole t.left) (whole t.right) in_order))
      ∙ order_kept s t p r stretch apart wide (whole t.left) (whole t.right) one_positive one_positive (left_most p (whole t.left) (after_u after)) in_order before (itself (whole t.left)) (itself (whole t.right))
      ∙ end_below t.right (right_on_line t)

  -- it begins in the strip and is over the second border: left of the border, or on it
  begins_left : Left u (whole t.left) → AtMost v (whole t.right) → Left (whole t.left) v → int_lt (height_over s (whole t.left)) (pos 0) ≡ is_under t s v
  begins_left after high before =
      sym (end_below t.left (left_on_line t))
      ∙ sym (under_is_above s t p r stretch apart wide (whole t.left) one_positive (after_u after) (inside_left (left_most (whole t.left) v before)) (itself (whole t.left)) (left_most (whole t.left) (whole t.right) in_order))
      ∙ order_kept s t p r stretch apart wide (whole t.left) v one_positive v_positive (left_most p (whole t.left) (after_u after)) before end (itself (whole t.left)) high
      ∙ sym (above_at_v (left_most (whole t.left) v before) high)

  -- it begins on the second border
  begins_on : AtMost (whole t.left) v → AtMost v (whole t.right) → AtMost v (whole t.left) → int_lt (height_over s (whole t.left)) (pos 0) ≡ is_under t s v
  begins_on low high back =
      sym (end_below t.left (left_on_line t))
      ∙ gap_sign t s (whole t.left) v one_positive v_positive (same_most (t.left.x *ℤ v.w) (v.x *ℤ pos 1) low back)
      ∙ sym (above_at_v low high)

  -- it begins in the strip and is over the second border
  begins_within : is_past u t.left ≡ true → is_past v t.left ≡ false → is_past v t.right ≡ true → int_lt (height_over s (whole t.left)) (pos 0) ≡ is_under t s v
  begins_within a b c =
      let after : Left u (whole t.left) = past_true u t.left a in
      let low : AtMost (whole t.left) v = past_false v t.left b in
      let high : AtMost v (whole t.right) = left_most v (whole t.right) (past_true v t.right c) in
      by_lt_z (t.left.x *ℤ v.w) (v.x *ℤ pos 1) (λ h. begins_left after high h) (λ h. begins_on low high h)

  -- what is past a border, and what that says of the rest
  left_then_right : (q : Point) → pos 0 <ℤ q.w → is_past q t.left ≡ true → is_past q t.right ≡ true
  left_then_right q positive h =
      true_past q t.right (left_before q (whole t.left) (whole t.right) positive one_positive one_positive (past_true q t.left h) (left_most (whole t.left) (whole t.right) in_order))

  -- past the second border is past the first
  second_then_first : (e : WholePoint) → is_past v e ≡ true → is_past u e ≡ true
  second_then_first e h =
      true_past u e (left_before u v (whole e) u_positive v_positive one_positive later (left_most v (whole e) (past_true v e h)))

  -- an even number of the four signs
  pub slanted_even : strip_parity s t u v ≡ false
  slanted_even =
      signs_by_past s t u v
      ∙ four_signs (is_past u t.left) (is_past u t.right) (is_past v t.left) (is_past v t.right) (is_under t s u) (is_under t s v) (int_lt (height_over s (whole t.left)) (pos 0)) (int_lt (height_over s (whole t.right)) (pos 0))
      (left_then_right u u_positive) (left_then_right v v_positive) (second_then_first t.left) (second_then_first t.right)
      ends_within over_both within begins_within
