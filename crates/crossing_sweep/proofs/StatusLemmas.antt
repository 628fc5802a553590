-- A status from one place to the next node: its order is kept, its neighbours cross, and it is turned round at the node.
use Rattle.std.proofs.Common.{◌≡◌, ℕ, ℤ, pos, ◌+◌, ◌<◌, ◌*ℤ◌, ◌-ℤ◌, ◌<ℤ◌, ◌≤ℤ◌, inl, inr, false, List, get_or, length, ap, sym, ◌∙◌, arith}
use Rattle.std.specs.Prelude.{IsTrue}
use Rattle.std.proofs.lemmas.Int.{ints, by_lt_z}
use Rattle.std.proofs.lemmas.Bool.{false_from_ne_true}
use Rattle.std.proofs.Math.IntN.{*ℤ_comm, *ℤ-zero}
use Rattle.overlay_terms.specs.Plane.{Point, Segment, whole, height_over, is_on}
use Rattle.overlay_terms.specs.Tiles.{is_parallel}
use Rattle.overlay_terms.proofs.Difference.{mul_pos}
use Rattle.exact_point.specs.Crossing.{IsCrossingOf, turn_of}
use Rattle.exact_point.proofs.Lines.{width, gap, gap_at, heights_give_gap}
use Rattle.exact_point.proofs.Signs.{negative_times, zero_factor, not_negative_times, not_positive_times}
use Rattle.exact_point.proofs.ByX.{Left}
use Rattle.exact_point.proofs.OnLine.{less_from_forward, on_line, within_on, turn_from_parallel, forward_from_less}
use Rattle.exact_point.proofs.PlaceOrder.{one_positive, less_through}
use Rattle.crossing_sweep.specs.Leaning.{lean, lean_segment, IsSteep, IsSmall, IsBefore}
use Rattle.crossing_sweep.specs.Status.{IsStretchOf, IsActive, AreOrderedBefore, IsStatus, SidesFallAlong, OrderIsKept, NeighboursCross, SidesFall}
use Rattle.crossing_sweep.proofs.Lean.{lean_left, lean_height, lean_turn}
use Rattle.crossing_sweep.proofs.Meeting.{meeting, before_from_lean}
use Rattle.crossing_sweep.proofs.Keeping.{Reaches, CrossNotBetween, order_kept, neighbour_holds, IsStatusBetween, gap_most}
use Rattle.crossing_sweep.proofs.Inputs.{steep_positive, near, fits, left_small, right_small, meeting_small, lean_at_most}
use Rattle.crossing_sweep.proofs.StretchLemmas.{stretches_cross}

module _ (n : ℤ) (segments : List Segment) (q r : Point) (status : List Segment) (steep : IsSteep n) (is : IsStatus n segments q r status) where
  hn : pos 0 <ℤ n
  hn = steep_positive n steep

  later : Left (lean n q) (lean n r)
  later = lean_left n q r hn (near n q r steep is.from_small is.to_small) (forward_from_less q r is.in_order)

  -- a stretch reaches from the one place to the other in the leaned plane
  reaches : (u : Segment) → IsStretchOf segments u → IsActive u q r → Reaches n u q r
  reaches u stretch active = record {
    from = lean_at_most n (whole u.left) q steep (left_small u stretch.proper) is.from_small active.from;
    to = lean_at_most n r (whole u.right) steep is.to_small (right_small u stretch.proper) active.to;
  }

  -- two stretches do not cross strictly between
  apart : (a b : Segment) → IsStretchOf segments a → IsStretchOf segments b → CrossNotBetween n a b q r
  apart a b is_a is_b left meets after before =
      let small : IsSmall (meeting a b) = meeting_small a b is_a.proper is_b.proper left meets in
      is.clear (meeting a b) left (stretches_cross segments a b (meeting a b) is_a is_b left meets.at.on_first meets.at.on_second meets.at.not_parallel)
      (less_from_forward q (meeting a b) (before_from_lean n q (meeting a b) hn (near n q (meeting a b) steep is.from_small small) after))
      (less_from_forward (meeting a b) r (before_from_lean n (meeting a b) r hn (near n (meeting a b) r steep small is.to_small) before))

  between : IsStatusBetween n hn q r is.from_small.positive is.to_small.positive later status
  between = record {
    fit = λ i d l. fits n (get_or status i d) steep (is.stretches i d l).proper;
    reach = λ i d l. reaches (get_or status i d) (is.stretches i d l) (is.active i d l);
    apart = λ i j d l m. apart (get_or status i d) (get_or status j d) (is.stretches i d l) (is.stretches j d m);
  }

  pub kept_order : AreOrderedBefore n r status
  kept_order = order_kept n hn q r is.from_small.positive is.to_small.positive later status between is.ordered

  -- ---- sides of the next node
  leaned_zero : (s : Segment) → height_over s r ≡ pos 0 → height_over (lean_segment n s) (lean n r) ≡ pos 0
  leaned_zero s h = lean_height n s r ∙ ap (λ z. n *ℤ z) h ∙ *ℤ-zero n

  plain_zero : (s : Segment) → height_over (lean_segment n s) (lean n r) ≡ pos 0 → height_over s r ≡ pos 0
  plain_zero s h = zero_factor (height_over s r) n hn (*ℤ_comm (height_over s r) n ∙ sym (lean_height n s r) ∙ h)

  -- a member on whose line the next node is holds it
  pub on_member : (i : ℕ) (d : Segment) → i < length status → height_over (get_or status i d) r ≡ pos 0 → IsTrue (is_on (get_or status i d) r)
  on_member i d l level =
      within_on (get_or status i d) r is.to_small.positive level
      (λ h. (is.active i d l).from (less_through q r (whole (get_or status i d).left) is.from_small.positive is.to_small.positive one_positive is.in_order h))
      (is.active i d l).to

  -- members in order do not lie on one line through the next node
  not_parallel : (i j : ℕ) (d : Segment) → i < j → j < length status → IsTrue (is_on (get_or status i d) r) → IsTrue (is_on (get_or status j d) r) → is_parallel (get_or status i d) (get_or status j d) ≡ false
  not_parallel i j d l m on_i on_j =
      let a : Segment = get_or status i d in
      let b : Segment = get_or status j d in
      let none : gap (lean_segment n a) (lean_segment n b) (lean n r) ≡ pos 0 =
      gap_at (lean_segment n a) (lean_segment n b) (lean n r) (leaned_zero a (on_line a r on_i)) (leaned_zero b (on_line b r on_j)) in
      false_from_ne_true (is_parallel a b) (λ e. turned a b (turn_from_parallel a b e) none (kept_order i j d l m))
    where
      turned : (a b : Segment) → turn_of a b ≡ pos 0 → gap (lean_segment n a) (lean_segment n b) (lean n r) ≡ pos 0 → IsBefore (lean_segment n a) (lean_segment n b) (lean n r) → ⊥
      turned a b e none (inl h) = above (gap (lean_segment n a) (lean_segment n b) (lean n r)) none h
        where
          above : (g : ℤ) → g ≡ pos 0 → pos 0 <ℤ g → ⊥
          above g f h = omega (arith, ints, f, h)
      turned a b e none (inr (f, h)) = down (turn_of (lean_segment n a) (lean_segment n b)) (lean_turn n a b ∙ ap (λ z. n *ℤ z) e ∙ *ℤ-zero n) h
        where
          down : (t : ℤ) → t ≡ pos 0 → t <ℤ pos 0 → ⊥
          down t f h = omega (arith, ints, f, h)

  pub lower_crosses_next : (i j : ℕ) (d : Segment) → i < j → j < length status → IsTrue (is_on (get_or status i d) r) → IsTrue (is_on (get_or status j d) r) → IsCrossingOf (get_or status i d) (get_or status (i + 1) d) r
  lower_crosses_next i j d l m on_i on_j =
      let inside : i + 1 < length status = omega (arith, l, m) in
      let level : height_over (get_or status (i + 1) d) r ≡ pos 0 =
      plain_zero (get_or status (i + 1) d)
      (neighbour_holds (lean_segment n) status (lean n r) (λ k e h. (fits n (get_or status k e) steep (is.stretches k e h).proper).wide) kept_order i j d l m
      (leaned_zero (get_or status i d) (on_line (get_or status i d) r on_i)) (leaned_zero (get_or status j d) (on_line (get_or status j d) r on_j))) in
      let on_next : IsTrue (is_on (get_or status (i + 1) d) r) = on_member (i + 1) d inside level in
      record { not_parallel = not_parallel i (i + 1) d (omega arith) inside on_i on_next; on_first = on_i; on_second = on_next }

  -- ---- the signs fall along the status
  pub falls : SidesFallAlong r status
  falls = record {
    not_above = λ i j d l m h. plain_not_above (get_or status j d) (not_over i j d l m (leaned_not_above (get_or status i d) h));
    below = λ i j d l m h. plain_below (get_or status j d) (strictly_under i j d l m (leaned_below (get_or status i d) h));
    held = on_member;
  }
    where
      wide : (i : ℕ) (d : Segment) → i < length status → pos 0 <ℤ width (lean_segment n (get_or status i d))
      wide i d l = (fits n (get_or status i d) steep (is.stretches i d l).proper).wide

      leaned_not_above : (s : Segment) → height_over s r ≤ℤ pos 0 → height_over (lean_segment n s) (lean n r) ≤ℤ pos 0
      leaned_not_above s h = rw (lean_height n s r) (at_most (height_over s r) h)
        where
          at_most : (h : ℤ) → h ≤ℤ pos 0 → (n *ℤ h) ≤ℤ pos 0
          at_most h k = omega (arith, ints, *ℤ_comm n h, not_positive_times h n k hn)

      leaned_below : (s : Segment) → height_over s r <ℤ pos 0 → height_over (lean_segment n s) (lean n r) <ℤ pos 0
      leaned_below s h = rw (lean_height n s r) (less (height_over s r) h)
        where
          less : (h : ℤ) → h <ℤ pos 0 → (n *ℤ h) <ℤ pos 0
          less h k = omega (arith, ints, *ℤ_comm n h, negative_times h n k hn)

      plain_not_above : (s : Segment) → height_over (lean_segment n s) (lean n r) ≤ℤ pos 0 → height_over s r ≤ℤ pos 0
      plain_not_above s h =
          by_lt_z (pos 0) (height_over s r) (λ l. absurd (above (height_over s r) (height_over (lean_segment n s) (lean n r)) (lean_height n s r) l h)) (λ l. l)
        where
          above : (h g : ℤ) → g ≡ n *ℤ h → pos 0 <ℤ h → g ≤ℤ pos 0 → ⊥
          above h g e l m = omega (arith, ints, e, m, mul_pos n h hn l)

      plain_below : (s : Segment) → height_over (lean_segment n s) (lean n r) <ℤ pos 0 → height_over s r <ℤ pos 0
      plain_below s h =
          by_lt_z (height_over s r) (pos 0) (λ l. l) (λ l. absurd (not_less (height_over s r) (height_over (lean_segment n s) (lean n r)) (lean_height n s r) l h))
        where
          not_less : (h g : ℤ) → g ≡ n *ℤ h → pos 0 ≤ℤ h → g <ℤ pos 0 → ⊥
          not_less h g e l m = omega (arith, ints, e, m, *ℤ_comm n h, not_negative_times h n l hn)

      -- heights h and k over lines of widths d and e, the second over the first
      still_not_above : (h k d e g : ℤ) → pos 0 <ℤ d → pos 0 <ℤ e → (h *ℤ e) -ℤ (k *ℤ d) ≡ g → pos 0 ≤ℤ g → h ≤ℤ pos 0 → k ≤ℤ pos 0
      still_not_above h k d e g hd he form more none =
          by_lt_z (pos 0) k
          (λ l. absurd (omega (arith, ints, form, more, not_positive_times h e none he, mul_pos k d l hd))) (λ l. l)

      still_below : (h k d e g : ℤ) → pos 0 <ℤ d → pos 0 <ℤ e → (h *ℤ e) -ℤ (k *ℤ d) ≡ g → pos 0 ≤ℤ g → h <ℤ pos 0 → k <ℤ pos 0
      still_below h k d e g hd he form more less =
          by_lt_z k (pos 0) (λ l. l)
          (λ l. absurd (omega (arith, ints, form, more, negative_times h e less he, not_negative_times k d l hd)))

      not_over : (i j : ℕ) (d : Segment) → i < j → j < length status → height_over (lean_segment n (get_or status i d)) (lean n r) ≤ℤ pos 0 → height_over (lean_segment n (get_or status j d)) (lean n r) ≤ℤ pos 0
      not_over i j d l m h =
          let a : Segment = lean_segment n (get_or status i d) in
          let b : Segment = lean_segment n (get_or status j d) in
          still_not_above (height_over a (lean n r)) (height_over b (lean n r)) (width a) (width b) (gap a b (lean n r)) (wide i d (omega (arith, l, m))) (wide j d m) (heights_give_gap a b (lean n r)) (gap_most a b (lean n r) (kept_order i j d l m)) h

      strictly_under : (i j : ℕ) (d : Segment) → i < j → j < length status → height_over (lean_segment n (get_or status i d)) (lean n r) <ℤ pos 0 → height_over (lean_segment n (get_or status j d)) (lean n r) <ℤ pos 0
      strictly_under i j d l m h =
          let a : Segment = lean_segment n (get_or status i d) in
          let b : Segment = lean_segment n (get_or status j d) in
          still_below (height_over a (lean n r)) (height_over b (lean n r)) (width a) (width b) (gap a b (lean n r)) (wide i d (omega (arith, l, m))) (wide j d m) (heights_give_gap a b (lean n r)) (gap_most a b (lean n r) (kept_order i j d l m)) h

pub order_is_kept : OrderIsKept
order_is_kept n segments q r status steep is = kept_order n segments q r status steep is

pub neighbours_cross : NeighboursCross
neighbours_cross n segments q r status steep is = lower_crosses_next n segments q r status steep is

pub sides_fall : SidesFall
sides_fall n segments q r status steep is = falls n segments q r status steep is
