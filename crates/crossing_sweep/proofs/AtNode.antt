-- At a node: those that hold it are turned round, and between them and the others the order stays.
use Rattle.std.proofs.Common.{◌≡◌, ℤ, pos, ◌+ℤ◌, ◌-ℤ◌, ◌*ℤ◌, ◌<ℤ◌, ◌≤ℤ◌, neg_ℤ, inl, inr, ap, sym, ◌∙◌, arith}
use Rattle.std.specs.Prelude.{IsTrue}
use Rattle.std.proofs.lemmas.Int.{ints, by_lt_z}
use Rattle.std.proofs.lemmas.Bool.{and_from}
use Rattle.std.proofs.lemmas.Bool.Decides.{Decides-int_eq}
use Rattle.std.proofs.Math.IntN.{*ℤ-zero, *ℤ_comm}
use Rattle.std.specs.Ordering.{int_eq}
use Rattle.overlay_terms.specs.Plane.{Point, Segment, height_over, same_place}
use Rattle.overlay_terms.proofs.Difference.{split, differences, same, diff-neg, mul_pos}
use Rattle.overlay_terms.proofs.Whole.{negated_positive, turn_back}
use Rattle.exact_point.specs.Crossing.{turn_of}
use Rattle.exact_point.proofs.OnSegment.{reached}
use Rattle.exact_point.proofs.PlaceOrder.{on_same}
use Rattle.exact_point.proofs.Lines.{width, rise, line_height, gap, gap_form, heights_give_gap}
use Rattle.exact_point.proofs.Signs.{positive_factor, not_negative_times, negative_times, not_positive_times}
use Rattle.crossing_sweep.specs.Leaning.{lean, lean_segment, IsAfter, IsBefore, IsNear, across, up_to}
use Rattle.crossing_sweep.proofs.Lean.{lean_turn, at_least_once, leaned_across, gap_none}
use Rattle.crossing_sweep.proofs.Meeting.{IsMeeting, Crosses, crosses, meeting}
use Rattle.crossing_sweep.proofs.Keeping.{IsFit, Reaches}

-- ---- one x of the leaned plane has one place
pub no_more : (n d e : ℤ) → pos 0 <ℤ n → e <ℤ n → neg_ℤ n <ℤ e → (n *ℤ d) +ℤ e ≡ pos 0 → d ≡ pos 0
no_more n d e h high low sum =
    by_lt_z (pos 0) d (λ k. absurd (omega (arith, ints, sum, low, at_least_once n d h k)))
    (λ k. by_lt_z d (pos 0) (λ l. absurd (omega (arith, ints, sum, high, at_least_once n (neg_ℤ d) h (negated_positive d l), negated n d)))
    (λ l. omega (arith, ints, k, l)))
  where
    negated : (n d : ℤ) → n *ℤ neg_ℤ d ≡ neg_ℤ (n *ℤ d)
    negated n d = rw (split n, split d) (simp (diff-neg, differences) (same _ _ _ _ (omega arith)))

pub one_place : (n : ℤ) (p q : Point) → pos 0 <ℤ n → IsNear n p q → (lean n q).x *ℤ p.w ≡ (lean n p).x *ℤ q.w → IsTrue (same_place q p)
one_place n p q h near e =
    let d : ℤ = across p q in
    let u : ℤ = up_to p q in
    let sum : (n *ℤ d) +ℤ u ≡ pos 0 = none ((lean n q).x *ℤ p.w) ((lean n p).x *ℤ q.w) ((n *ℤ d) +ℤ u) (leaned_across n p.x p.y p.w q.x q.y q.w) e in
    let level : d ≡ pos 0 = no_more n d u h near.high near.low sum in
    let high : u ≡ pos 0 = rest n d u level sum in
    and_from (int_eq (q.x *ℤ p.w) (p.x *ℤ q.w)) (int_eq (q.y *ℤ p.w) (p.y *ℤ q.w))
    ((Decides-int_eq (q.x *ℤ p.w) (p.x *ℤ q.w)).1 (close (q.x *ℤ p.w) (p.x *ℤ q.w) level))
    ((Decides-int_eq (q.y *ℤ p.w) (p.y *ℤ q.w)).1 (close (q.y *ℤ p.w) (p.y *ℤ q.w) high))
  where
    none : (a b z : ℤ) → a -ℤ b ≡ z → a ≡ b → z ≡ pos 0
    none a b z f g = omega (arith, ints, f, g)

    rest : (n d u : ℤ) → d ≡ pos 0 → (n *ℤ d) +ℤ u ≡ pos 0 → u ≡ pos 0
    rest n d u f g = omega (arith, ints, g, ap (λ t. n *ℤ t) f, *ℤ-zero n)

    close : (a b : ℤ) → a -ℤ b ≡ pos 0 → a ≡ b
    close a b f = omega (arith, ints, f)

-- ---- those that hold the place
-- of two that hold it the one that turns left from the other is above just after it
pub turned_round : (a b : Segment) (r : Point) → height_over a r ≡ pos 0 → height_over b r ≡ pos 0 → pos 0 <ℤ turn_of a b → IsAfter a b r
turned_round a b r on_a on_b left = inr (gap_none (height_over a r) (height_over b r) (width a) (width b) (gap a b r) (heights_give_gap a b r) on_a on_b, left)

-- ---- one that holds it and one that does not
above_form : (h k d e g : ℤ) → pos 0 <ℤ d → pos 0 <ℤ e → (h *ℤ e) -ℤ (k *ℤ d) ≡ g → pos 0 <ℤ h → k ≤ℤ pos 0 → pos 0 <ℤ g
above_form h k d e g hd he form more less = omega (arith, ints, form, mul_pos h e more he, not_positive_times k d less hd)

below_form : (h k d e g : ℤ) → pos 0 <ℤ d → pos 0 <ℤ e → (h *ℤ e) -ℤ (k *ℤ d) ≡ g → pos 0 ≤ℤ h → k <ℤ pos 0 → pos 0 <ℤ g
below_form h k d e g hd he form more less = omega (arith, ints, form, not_negative_times h e more he, negative_times k d less hd)

-- one that passes under the place is under each that does not
pub under_those : (a b : Segment) (r : Point) → pos 0 <ℤ width a → pos 0 <ℤ width b → pos 0 <ℤ height_over a r → height_over b r ≤ℤ pos 0 → IsAfter a b r
under_those a b r wide_a wide_b under over = inl (above_form (height_over a r) (height_over b r) (width a) (width b) (gap a b r) wide_a wide_b (heights_give_gap a b r) under over)

-- one that passes over it is over each that does not
pub over_those : (a b : Segment) (r : Point) → pos 0 <ℤ width a → pos 0 <ℤ width b → pos 0 ≤ℤ height_over a r → height_over b r <ℤ pos 0 → IsAfter a b r
over_those a b r wide_a wide_b under over = inl (below_form (height_over a r) (height_over b r) (width a) (width b) (gap a b r) wide_a wide_b (heights_give_gap a b r) under over)

-- ---- two that pass by on one side
module _ (n : ℤ) (hn : pos 0 <ℤ n) (a b : Segment) (r : Point) (hr : pos 0 <ℤ r.w) (fit_a : IsFit n a) (fit_b : IsFit n b) (on_a : Reaches n a r r) (on_b : Reaches n b r r) (near : pos 0 <ℤ turn_of b a → IsMeeting b a → IsNear n r (meeting b a)) where
  -- two that are equally high over the place and turn to one another meet there, so the first holds it
  meet_there : gap (lean_segment n a) (lean_segment n b) (lean n r) ≡ pos 0 → turn_of (lean_segment n a) (lean_segment n b) <ℤ pos 0 → height_over a r ≡ pos 0
  meet_there none right =
      let up : pos 0 <ℤ turn_of b a = plain (turn_of (lean_segment n b) (lean_segment n a)) (turn_of b a) (turn_of (lean_segment n a) (lean_segment n b)) (lean_turn n b a) (turn_back (width (lean_segment n a)) (rise (lean_segment n a)) (width (lean_segment n b)) (rise (lean_segment n b))) right in
      let met : Crosses n b a (lean n r) =
      crosses n b a (lean n r) hn hr fit_b.wide fit_a.wide fit_b.ahead fit_a.ahead up
      on_b.from on_b.to on_a.from on_a.to (sym (gap_form (lean_segment n b) (lean_segment n a) (lean n r)) ∙ gap_turned (lean_segment n a) (lean_segment n b) (lean n r) none) in
      let there : IsTrue (same_place (meeting b a) r) = one_place n r (meeting b a) hn (near up met.crossing) met.over in
      (reached a r (sym (on_same a (meeting b a) r up hr there) ∙ met.crossing.at.on_second)).level
    where
      plain : (x y z : ℤ) → x ≡ n *ℤ y → x ≡ neg_ℤ z → z <ℤ pos 0 → pos 0 <ℤ y
      plain x y z e f h = positive_factor y n hn (omega (arith, ints, e, f, h, *ℤ_comm y n))

      gap_back : (d m e l : ℤ) → (d *ℤ m) -ℤ (e *ℤ l) ≡ pos 0 → (e *ℤ l) -ℤ (d *ℤ m) ≡ pos 0
      gap_back d m e l h = omega (arith, ints, h)

      gap_turned : (a b : Segment) (q : Point) → gap a b q ≡ pos 0 → gap b a q ≡ pos 0
      gap_turned a b q h = gap_back (width a) (line_height b q) (width b) (line_height a q) h

  -- so two of which the first does not hold the place keep their order
  pub pass_by : (height_over a r ≡ pos 0 → ⊥) → IsBefore (lean_segment n a) (lean_segment n b) (lean n r) → IsAfter (lean_segment n a) (lean_segment n b) (lean n r)
  pass_by off (inl h) = inl h
  pass_by off (inr (none, right)) = absurd (off (meet_there none right))
