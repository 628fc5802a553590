-- Along a stretch the order of its line and another segment is kept.
use Rattle.std.specs.Prelude.{◌≡◌, ℤ, pos, ◌+ℤ◌, ◌-ℤ◌, ◌*ℤ◌, ◌<ℤ◌, ◌≤ℤ◌, neg_ℤ, int_lt, ◌&&◌, ◌||◌}
use Rattle.std.specs.Ordering.{int_eq}
use Rattle.std.proofs.Common.{ap, sym, ◌∙◌, arith}
use Rattle.std.proofs.lemmas.Int.{ints, by_lt_z}
use Rattle.std.proofs.Math.IntN.{*ℤ_comm}
use Rattle.overlay_terms.specs.Plane.{Point, Segment, whole}
use Rattle.overlay_terms.proofs.Difference.{split, differences, same, diff-neg}
use Rattle.overlay_terms.proofs.Whole.{negated_positive, less_none, more_none}
use Rattle.exact_point.proofs.PlaceOrder.{one_positive}
use Rattle.exact_point.proofs.ByX.{Left, AtMost, left_after, at_most_through, left_most}
use Rattle.exact_point.proofs.Lines.{width, gap, form_moves, falls, zero_is, zero_after, zero_not_after, offset, gap_form}
use Rattle.exact_point.proofs.Signs.{not_negative_times, not_positive_times, negative_times}
use Rattle.exact_point.specs.Crossing.{turn_of}
use Rattle.tile_laws.proofs.JustRight.{is_under}
use Rattle.tile_laws.proofs.StripSigns.{under_test, test_kept}
use Rattle.tile_laws.proofs.SideMeeting.{Stretch, Apart, no_gap_inside}

-- ---- over opaque numbers
-- a form that is under 0 and later not under 0 rises
climbs : (a b x w y v : ℤ) → pos 0 <ℤ w → pos 0 <ℤ v → pos 0 <ℤ ((y *ℤ w) -ℤ (x *ℤ v)) → ((a *ℤ x) +ℤ (b *ℤ w)) <ℤ pos 0 → pos 0 ≤ℤ ((a *ℤ y) +ℤ (b *ℤ v)) → pos 0 <ℤ a
climbs a b x w y v hw hv later low high =
    by_lt_z (pos 0) a (λ h. h)
    (λ h. absurd (omega (
      arith,
      ints,
      form_moves a b x w y v,
      negative_times ((a *ℤ x) +ℤ (b *ℤ w)) v low hv,
      not_negative_times ((a *ℤ y) +ℤ (b *ℤ v)) w high hw,
      not_positive_times a ((y *ℤ w) -ℤ (x *ℤ v)) h later,
    )))

-- its zero lies at - b over a
negated_first : (b w : ℤ) → neg_ℤ b *ℤ w ≡ neg_ℤ (b *ℤ w)
negated_first b w = rw (split b, split w) (simp (diff-neg, differences) (same _ _ _ _ (omega arith)))

-- the form is 0 there
rising_zero : (a b : ℤ) → (a *ℤ neg_ℤ b) +ℤ (b *ℤ a) ≡ pos 0
rising_zero a b = omega (arith, ints, *ℤ_comm a (neg_ℤ b), negated_first b a)

-- that lies after a place where the form is under 0
rising_after : (a b x w : ℤ) → ((a *ℤ x) +ℤ (b *ℤ w)) <ℤ pos 0 → (x *ℤ a) <ℤ (neg_ℤ b *ℤ w)
rising_after a b x w h = omega (arith, ints, negated_first b w, *ℤ_comm a x)

-- and not after a place where it is not under 0
rising_not_after : (a b y v : ℤ) → pos 0 ≤ℤ ((a *ℤ y) +ℤ (b *ℤ v)) → (neg_ℤ b *ℤ v) ≤ℤ (y *ℤ a)
rising_not_after a b y v h = omega (arith, ints, negated_first b v, *ℤ_comm a y)

positive_difference : (a b : ℤ) → a <ℤ b → pos 0 <ℤ (b -ℤ a)
positive_difference a b h = omega (arith, ints)

-- the test of order just right of a place, as two comparisons or as three
test_is : (g a : ℤ) → (int_lt (pos 0) g || (int_eq g (pos 0) && int_lt (pos 0) a)) ≡ under_test g a
test_is g a = grind (arith, ints)

-- where the gap is 0 only if there is no turn, the turn decides nothing
above_only : (g a : ℤ) → (g ≡ pos 0 → a ≡ pos 0) → (int_lt (pos 0) g || (int_eq g (pos 0) && int_lt (pos 0) a)) ≡ int_lt (pos 0) g
above_only g a h = grind (arith, ints, h)

module _ (s t : Segment) (p r : Point) (stretch : Stretch s p r) (apart : Apart s t p r) (wide : pos 0 <ℤ width t) where
  -- two places of the stretch, one after the other, with t over both or ending over the second
  module _ (u v : Point) (u_positive : pos 0 <ℤ u.w) (v_positive : pos 0 <ℤ v.w) (begin : AtMost p u) (later : Left u v) (end : Left v r) (low : AtMost (whole t.left) u) (high : AtMost v (whole t.right)) where
    -- where the form is 0 after the first place and not after the second, the lines are parallel
    met : (q : Point) → pos 0 <ℤ q.w → Left u q → AtMost q v → (turn_of t s *ℤ q.x) +ℤ (offset t s *ℤ q.w) ≡ pos 0 → turn_of t s ≡ pos 0
    met q positive after before zero =
        no_gap_inside s t p r q stretch apart wide positive
        (left_after p u q stretch.from_positive u_positive positive begin after)
        (left_after q v r positive v_positive stretch.to_positive before end)
        (at_most_through (whole t.left) u q one_positive u_positive positive low (left_most u q after))
        (at_most_through q v (whole t.right) positive v_positive one_positive before high)
        (gap_form t s q ∙ zero)

    -- so the gap does not fall through 0
    no_fall : pos 0 <ℤ ((turn_of t s *ℤ u.x) +ℤ (offset t s *ℤ u.w)) → ((turn_of t s *ℤ v.x) +ℤ (offset t s *ℤ v.w)) ≤ℤ pos 0 → ⊥
    no_fall above under =
        let down : turn_of t s <ℤ pos 0 = falls (turn_of t s) (offset t s) u.x u.w v.x v.w u_positive v_positive (positive_difference (u.x *ℤ v.w) (v.x *ℤ u.w) later) above under in
        less_none (turn_of t s) down
        (met (record { x = offset t s; y = pos 0; w = neg_ℤ (turn_of t s) }) (negated_positive (turn_of t s) down)
        (zero_after (turn_of t s) (offset t s) u.x u.w above)
        (zero_not_after (turn_of t s) (offset t s) v.x v.w under)
        (zero_is (turn_of t s) (offset t s)))

    -- nor does it rise through 0
    no_rise : ((turn_of t s *ℤ u.x) +ℤ (offset t s *ℤ u.w)) <ℤ pos 0 → pos 0 ≤ℤ ((turn_of t s *ℤ v.x) +ℤ (offset t s *ℤ v.w)) → ⊥
    no_rise under above =
        let up : pos 0 <ℤ turn_of t s = climbs (turn_of t s) (offset t s) u.x u.w v.x v.w u_positive v_positive (positive_difference (u.x *ℤ v.w) (v.x *ℤ u.w) later) under above in
        more_none (turn_of t s) up
        (met (record { x = neg_ℤ (offset t s); y = pos 0; w = turn_of t s }) up
        (rising_after (turn_of t s) (offset t s) u.x u.w under)
        (rising_not_after (turn_of t s) (offset t s) v.x v.w above)
        (rising_zero (turn_of t s) (offset t s)))

    -- t is under the line just right of the first place where it is strictly under it over the second
    pub order_kept : is_under t s u ≡ int_lt (pos 0) (gap t s v)
    order_kept =
        test_is (gap t s u) (turn_of t s)
        ∙ ap (λ g. under_test g (turn_of t s)) (gap_form t s u)
        ∙ test_kept (turn_of t s) (offset t s) u.x u.w v.x v.w u_positive v_positive (positive_difference (u.x *ℤ v.w) (v.x *ℤ u.w) later) no_fall no_rise
        ∙ ap (λ g. int_lt (pos 0) g) (sym (gap_form t s v))

  -- strictly inside the stretch, t is under the line just right of a place where it is strictly under it there
  pub under_is_above : (q : Point) → pos 0 <ℤ q.w → Left p q → Left q r → AtMost (whole t.left) q → AtMost q (whole t.right) → is_under t s q ≡ int_lt (pos 0) (gap t s q)
  under_is_above q positive after before low high =
      above_only (gap t s q) (turn_of t s) (no_gap_inside s t p r q stretch apart wide positive after before low high)
