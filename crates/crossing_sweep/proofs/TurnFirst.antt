-- Where a segment passes over another just after a place, they cross ahead of it just where the upper one turns down to the lower one.
use Rattle.std.proofs.Common.{◌≡◌, ℤ, pos, ◌+ℤ◌, ◌-ℤ◌, ◌*ℤ◌, ◌<ℤ◌, ◌≤ℤ◌, neg_ℤ, inl, inr, refl, ap, sym, ◌∙◌, arith}
use Rattle.std.specs.Prelude.{IsTrue}
use Rattle.std.proofs.lemmas.Int.{ints}
use Rattle.std.proofs.Math.IntN.{*ℤ-zero}
use Rattle.std.specs.declared.cmp.Ordering.TheVariants.{Less}
use Rattle.overlay_terms.specs.Plane.{Point, Segment, point_cmp, same_place, height_over}
use Rattle.overlay_terms.proofs.Difference.{split, differences, same, diff-neg, mul_pos}
use Rattle.overlay_terms.proofs.Whole.{negated_positive}
use Rattle.exact_point.specs.Crossing.{IsCrossingOf, IsPartWay, turn_of, lead_of}
use Rattle.exact_point.proofs.ByX.{Left, less_before_most}
use Rattle.exact_point.proofs.CrossingLemmas.{known_turn, known_part, known_found, only_crossing}
use Rattle.exact_point.proofs.Lines.{gap, gap_at, gap_form, offset, falls, no_turn_from_gaps, zero_after, zero_not_after}
use Rattle.exact_point.proofs.OnLine.{on_line}
use Rattle.exact_point.proofs.PlaceOrder.{alike_right}
use Rattle.crossing_sweep.specs.Leaning.{lean, lean_segment, IsSmall, IsAfter}
use Rattle.crossing_sweep.specs.Testing.{PassesOver}
use Rattle.crossing_sweep.proofs.Inputs.{steep_positive, meeting_small}
use Rattle.crossing_sweep.proofs.Lean.{lean_height, lean_turn}
use Rattle.crossing_sweep.proofs.LeaningLaws.{leaning_keeps}
use Rattle.crossing_sweep.proofs.Meeting.{meeting, IsMeeting}

module _ (r : Point) (a b : Segment) (is : PassesOver r a b) where
  hr : pos 0 <ℤ r.w
  hr = is.small.positive

  hn : pos 0 <ℤ is.n
  hn = steep_positive is.n is.steep

  abbrev low : Segment
  low = lean_segment is.n a

  abbrev high : Segment
  high = lean_segment is.n b

  -- a place on both has no gap
  no_gap : (z : Point) → height_over a z ≡ pos 0 → height_over b z ≡ pos 0 → gap low high (lean is.n z) ≡ pos 0
  no_gap z on_a on_b =
      gap_at low high (lean is.n z) (lean_height is.n a z ∙ ap (λ h. is.n *ℤ h) on_a ∙ *ℤ-zero is.n) (lean_height is.n b z ∙ ap (λ h. is.n *ℤ h) on_b ∙ *ℤ-zero is.n)

  -- ---- where the upper one turns down
  pub ahead_there : turn_of a b <ℤ pos 0 → (z : Point) → IsSmall z → IsCrossingOf a b z → point_cmp r z ≡ Less
  ahead_there down z small crossing = (leaning_keeps is.n is.steep).order_back r z is.small small (by is.over)
    where
      none : gap low high (lean is.n z) ≡ pos 0
      none = no_gap z (on_line a z crossing.on_first) (on_line b z crossing.on_second)

      turns : turn_of low high <ℤ pos 0
      turns = falling (turn_of low high) (turn_of a b) (lean_turn is.n a b) down (mul_pos is.n (neg_ℤ (turn_of a b)) hn (negated_positive (turn_of a b) down))
        where
          negated : (n t : ℤ) → n *ℤ neg_ℤ t ≡ neg_ℤ (n *ℤ t)
          negated n t = rw (split n, split t) (simp (diff-neg, differences) (same _ _ _ _ (omega arith)))

          falling : (u t : ℤ) → u ≡ is.n *ℤ t → t <ℤ pos 0 → pos 0 <ℤ (is.n *ℤ neg_ℤ t) → u <ℤ pos 0
          falling u t e l h = omega (arith, ints, e, h, negated is.n t)

      most : ((turn_of low high *ℤ (lean is.n z).x) +ℤ (offset low high *ℤ z.w)) ≤ℤ pos 0
      most = not_more _ (sym (gap_form low high (lean is.n z)) ∙ none)
        where
          not_more : (g : ℤ) → g ≡ pos 0 → g ≤ℤ pos 0
          not_more g e = omega (arith, ints, e)

      not_both : (t : ℤ) → t <ℤ pos 0 → pos 0 <ℤ t → ⊥
      not_both t l h = omega (arith, ints, l, h)

      by : IsAfter low high (lean is.n r) → Left (lean is.n r) (lean is.n z)
      by (inl h) =
          less_before_most (lean is.n r).x r.w (offset low high) (neg_ℤ (turn_of low high)) (lean is.n z).x z.w hr (negated_positive (turn_of low high) turns) small.positive
          (zero_after (turn_of low high) (offset low high) (lean is.n r).x r.w (more _ _ (gap_form low high (lean is.n r)) h)) (zero_not_after (turn_of low high) (offset low high) (lean is.n z).x z.w most)
        where
          more : (g f : ℤ) → g ≡ f → pos 0 <ℤ g → pos 0 <ℤ f
          more g f e h = omega (arith, ints, e, h)
      by (inr both) = absurd (not_both (turn_of low high) turns both.1)

  -- ---- where it does not
  pub none_ahead : pos 0 ≤ℤ turn_of a b → (p : Point) → pos 0 <ℤ p.w → IsCrossingOf a b p → point_cmp r p ≡ Less → ⊥
  none_ahead not_down p hp crossing less = by is.over
    where
      up : pos 0 <ℤ turn_of a b
      up = known_turn a b p hp crossing not_down

      part_way_there : IsPartWay a (lead_of a b b) (turn_of a b) (meeting a b)
      part_way_there = record { over = refl; across = refl; along = refl }

      meets : IsMeeting a b
      meets =
          let part = known_part a b (lead_of a b b) (turn_of a b) p refl refl up is.lower.first hp crossing in
          record { at = known_found a b (lead_of a b b) (turn_of a b) p (meeting a b) refl refl up is.lower.first is.upper.first hp crossing part_way_there; part = record { low = part.0; high = part.1 } }

      small : IsSmall (meeting a b)
      small = meeting_small a b is.lower is.upper up meets

      one_place : IsTrue (same_place (meeting a b) p)
      one_place = only_crossing a b (lead_of a b b) (turn_of a b) (meeting a b) refl refl part_way_there p hp crossing

      later : Left (lean is.n r) (lean is.n (meeting a b))
      later = (leaning_keeps is.n is.steep).order r (meeting a b) is.small small (alike_right r (meeting a b) p hr small.positive hp one_place ∙ less)

      after : pos 0 <ℤ (((lean is.n (meeting a b)).x *ℤ r.w) -ℤ ((lean is.n r).x *ℤ (meeting a b).w))
      after = apart _ _ later
        where
          apart : (x y : ℤ) → x <ℤ y → pos 0 <ℤ (y -ℤ x)
          apart x y l = omega (arith, ints, l)

      none : gap low high (lean is.n (meeting a b)) ≡ pos 0
      none = no_gap (meeting a b) (on_line a (meeting a b) meets.at.on_first) (on_line b (meeting a b) meets.at.on_second)

      turns : pos 0 <ℤ turn_of low high
      turns = rising (turn_of low high) (lean_turn is.n a b) (mul_pos is.n (turn_of a b) hn up)
        where
          rising : (u : ℤ) → u ≡ is.n *ℤ turn_of a b → pos 0 <ℤ (is.n *ℤ turn_of a b) → pos 0 <ℤ u
          rising u e h = omega (arith, ints, e, h)

      not_both : (t : ℤ) → t <ℤ pos 0 → pos 0 <ℤ t → ⊥
      not_both t l h = omega (arith, ints, l, h)

      not_none : (t : ℤ) → t ≡ pos 0 → pos 0 <ℤ t → ⊥
      not_none t l h = omega (arith, ints, l, h)

      by : IsAfter low high (lean is.n r) → ⊥
      by (inl h) =
          not_both (turn_of low high)
          (falls (turn_of low high) (offset low high) (lean is.n r).x r.w (lean is.n (meeting a b)).x (meeting a b).w hr small.positive after (more _ _ (gap_form low high (lean is.n r)) h) (not_more _ (sym (gap_form low high (lean is.n (meeting a b))) ∙ none)))
          turns
        where
          more : (g f : ℤ) → g ≡ f → pos 0 <ℤ g → pos 0 <ℤ f
          more g f e h = omega (arith, ints, e, h)

          not_more : (g : ℤ) → g ≡ pos 0 → g ≤ℤ pos 0
          not_more g e = omega (arith, ints, e)
      by (inr both) = not_none (turn_of low high) (no_turn_from_gaps low high (lean is.n r) (lean is.n (meeting a b)) after both.0 none) turns
