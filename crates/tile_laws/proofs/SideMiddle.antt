-- At a place of a stretch, strictly inside: what is below it and what is on it, by the order just right of its x.
use Rattle.std.specs.Prelude.{◌≡◌, ℤ, pos, ◌-ℤ◌, ◌*ℤ◌, ◌<ℤ◌, ◌≤ℤ◌, int_lt, Bool, true, false, not, ◌&&◌, ◌||◌}
use Rattle.std.specs.Ordering.{int_eq}
use Rattle.std.proofs.Common.{refl, ap, sym, ◌∙◌, arith, inl, inr}
use Rattle.std.proofs.lemmas.Int.{ints, by_lt_z}
use Rattle.std.proofs.lemmas.Bool.{and_parts, and_from, false_from_ne_true, both_ways}
use Rattle.std.proofs.lemmas.Bool.Decides.{Decides-int_eq}
use Rattle.std.proofs.Math.IntN.{zero-*ℤ}
use Rattle.overlay_terms.specs.Plane.{Point, Segment, whole, height_over, is_below, is_on}
use Rattle.overlay_terms.proofs.InputNumbers.{IsWithinEnds, between_from_on}
use Rattle.exact_point.proofs.Lexical.{Forward}
use Rattle.exact_point.proofs.OnSegment.{reached}
use Rattle.overlay_terms.proofs.Difference.{mul_pos}
use Rattle.overlay_terms.proofs.Tests.{same_tests, same_behind}
use Rattle.overlay_terms.proofs.Whole.{most_is_not_less}
use Rattle.exact_point.proofs.PlaceOrder.{one_positive}
use Rattle.exact_point.proofs.ByX.{Left, AtMost, left_after, left_before, left_most, to_whole}
use Rattle.exact_point.proofs.Lines.{width, rise, gap, heights_give_gap, flat_gap, gap_at, on_first, on_second}
use Rattle.exact_point.proofs.OnLine.{right_on_line}
use Rattle.exact_point.proofs.Signs.{not_positive_times}
use Rattle.exact_point.specs.Crossing.{turn_of}
use Rattle.tile_laws.proofs.JustRight.{is_over_x, is_under, is_level}
use Rattle.tile_laws.proofs.SideMeeting.{Stretch, Apart, on_from_level}
use Rattle.tile_laws.proofs.SideOrder.{under_is_above}
use Rattle.tile_laws.proofs.SideStrip.{is_past, past_true, past_false, over_by_past}
use Rattle.tile_laws.proofs.SideUpright.{upright_turn}
use Rattle.tile_laws.proofs.SideLevel.{never_over}

-- ---- over opaque numbers
-- on the one line, the height over the other is the gap, but for a positive factor
height_sign : (ht ws hs wt g : ℤ) → pos 0 <ℤ ws → hs ≡ pos 0 → (ht *ℤ ws) -ℤ (hs *ℤ wt) ≡ g → int_lt (pos 0) ht ≡ int_lt (pos 0) g
height_sign ht ws hs wt g wide level e =
    by_lt_z (pos 0) ht
    (λ h. above h (omega (arith, ints, e, ap (λ z. z *ℤ wt) level, zero-*ℤ wt, mul_pos ht ws h wide)))
    (λ h. not_above h (omega (arith, ints, e, ap (λ z. z *ℤ wt) level, zero-*ℤ wt, not_positive_times ht ws h wide)))
  where
    above : pos 0 <ℤ ht → pos 0 <ℤ g → int_lt (pos 0) ht ≡ int_lt (pos 0) g
    above h k = grind (arith, ints, h, k)

    not_above : ht ≤ℤ pos 0 → g ≤ℤ pos 0 → int_lt (pos 0) ht ≡ int_lt (pos 0) g
    not_above h k = grind (arith, ints, h, k)

-- ---- over tests
-- below or on, by over or not
on_by : (o a b n l : Bool) → (o && a) ≡ (o && b) → (o ≡ true → n ≡ l) → (o ≡ false → n ≡ false) → ((o && a) || n) ≡ (o && (b || l))
on_by true a b n l e f h = ap (λ c. c || n) e ∙ ap (λ c. b || c) (f refl)
on_by false a b n l e f h = h refl

second_false : (p q : Bool) → p ≡ false → (not p && q) ≡ false → q ≡ false
second_false p q h e = grind (arith, h, e)

module _ (s t : Segment) (p r z : Point) (stretch : Stretch s p r) (apart : Apart s t p r) (positive : pos 0 <ℤ z.w) (after : Left p z) (before : Left z r) (level : height_over s z ≡ pos 0) where
  -- a segment over its x reaches from left of it to right of it
  reach_left : is_over_x t z ≡ true → AtMost (whole t.left) z
  reach_left over =
      past_false z t.left (from_not (is_past z t.left) (and_parts (not (is_past z t.left)) (is_past z t.right) (sym (over_by_past t z) ∙ over)).0)
    where
      from_not : (b : Bool) → not b ≡ true → b ≡ false
      from_not b h = grind (arith, h)

  reach_right : is_over_x t z ≡ true → AtMost z (whole t.right)
  reach_right over =
      left_most z (whole t.right) (past_true z t.right (and_parts (not (is_past z t.left)) (is_past z t.right) (sym (over_by_past t z) ∙ over)).1)

  -- a segment on it is parallel
  on_parallel : is_on t z ≡ true → turn_of t s ≡ pos 0
  on_parallel on = apart.no_crossing z positive after before level on

  module _ (wide : pos 0 <ℤ width t) where
    -- below it is under just right of it
    below_slanted : is_below t z ≡ (is_over_x t z && is_under t s z)
    below_slanted =
        same_behind (is_over_x t z) (int_lt (pos 0) (height_over t z)) (is_under t s z)
        (λ over. height_sign (height_over t z) (width s) (height_over s z) (width t) (gap t s z) stretch.wide level (heights_give_gap t s z)
        ∙ sym (under_is_above s t p r stretch apart wide z positive after before (reach_left over) (reach_right over)))

    -- over its x, on it is on one line
    on_level : is_over_x t z ≡ true → is_on t z ≡ is_level t s z
    on_level over =
        same_tests (is_on t z) (is_level t s z)
        (λ on. and_from (int_eq (gap t s z) (pos 0)) (int_eq (turn_of t s) (pos 0))
        ((Decides-int_eq (gap t s z) (pos 0)).1 (gap_at t s z (reached t z on).level level))
        ((Decides-int_eq (turn_of t s) (pos 0)).1 (on_parallel on)))
        (λ h. on_from_level t z wide
        (on_first t s z stretch.wide level ((Decides-int_eq (gap t s z) (pos 0)).0 (and_parts (int_eq (gap t s z) (pos 0)) (int_eq (turn_of t s) (pos 0)) h).0))
        (reach_left over) (reach_right over))

    -- a segment on it that is not over its x would end on it
    not_over_not_on : is_over_x t z ≡ false → is_on t z ≡ true → ⊥
    not_over_not_on out on =
        let between : IsWithinEnds t z = between_from_on t z on in
        let low : is_past z t.left ≡ false = most_is_not_less z.x (t.left.x *ℤ z.w) between.from_left in
        let past : is_past z t.right ≡ false = second_false (is_past z t.left) (is_past z t.right) low (sym (over_by_past t z) ∙ out) in
        let most : AtMost (whole t.right) z = past_false z t.right past in
        let least : AtMost z (whole t.right) = to_whole (t.right.x *ℤ z.w) z.x between.to_right in
        let none : gap t s z ≡ pos 0 = gap_at t s z (reached t z on).level level in
        apart.no_right (left_before p z (whole t.right) stretch.from_positive positive one_positive after least) (left_after (whole t.right) z r one_positive positive stretch.to_positive most before)
        (on_second t s (whole t.right) wide (right_on_line t) (flat_gap t s z (whole t.right) positive (on_parallel on) none))

    -- below it or on it is under or on one line
    near_slanted : (is_below t z || is_on t z) ≡ (is_over_x t z && (is_under t s z || is_level t s z))
    near_slanted =
        on_by (is_over_x t z) (int_lt (pos 0) (height_over t z)) (is_under t s z) (is_on t z) (is_level t s z) below_slanted on_level
        (λ out. false_from_ne_true (is_on t z) (λ on. not_over_not_on out on))

  -- a vertical segment is over no x, and not on it
  module _ (upright : width t ≡ pos 0) (up : pos 0 <ℤ rise t) where
    level_ends : (l n : ℤ) → n -ℤ l ≡ pos 0 → n ≡ l
    level_ends l n e = omega (arith, ints)

    no_x : is_over_x t z ≡ false
    no_x = over_by_past t z ∙ never_over (is_past z t.left) (is_past z t.right) (ap (λ x. int_lt z.x (x *ℤ z.w)) (level_ends t.left.x t.right.x upright))

    not_on : is_on t z ≡ false
    not_on = false_from_ne_true (is_on t z) (λ on. upright_turn (width t) (rise s) (rise t) (width s) upright up stretch.wide (on_parallel on))

    below_upright : is_below t z ≡ (is_over_x t z && is_under t s z)
    below_upright =
        same_behind (is_over_x t z) (int_lt (pos 0) (height_over t z)) (is_under t s z) (λ over. absurd (both_ways (is_over_x t z) no_x over))

    near_upright : (is_below t z || is_on t z) ≡ (is_over_x t z && (is_under t s z || is_level t s z))
    near_upright =
        on_by (is_over_x t z) (int_lt (pos 0) (height_over t z)) (is_under t s z) (is_on t z) (is_level t s z) below_upright
        (λ over. absurd (both_ways (is_over_x t z) no_x over)) (λ out. not_on)

  -- the segments below it
  pub below_is_under : Forward (width t) (rise t) → is_below t z ≡ (is_over_x t z && is_under t s z)
  below_is_under (inl wide) = below_slanted wide
  below_is_under (inr upright) = below_upright upright.0 upright.1

  -- the segments below it or on it
  pub near_is_up_to : Forward (width t) (rise t) → (is_below t z || is_on t z) ≡ (is_over_x t z && (is_under t s z || is_level t s z))
  near_is_up_to (inl wide) = near_slanted wide
  near_is_up_to (inr upright) = near_upright upright.0 upright.1
