-- At a node: between those that pass under it and those over it, the stretches that hold it and go on are in the order of their directions.
use Rattle.std.proofs.Common.{◌≡◌, ℕ, ℤ, pos, ◌<◌, ◌++◌, ◌*ℤ◌, ◌<ℤ◌, ◌≤ℤ◌, List, get_or, length, ap, sym, ◌∙◌, arith, append_assoc, subst}
use Rattle.std.specs.Prelude.{All}
use Rattle.std.specs.List.{AllPairs}
use Rattle.std.proofs.lemmas.Int.{ints}
use Rattle.std.proofs.lemmas.List.Elements.{All-append}
use Rattle.std.proofs.Math.IntN.{*ℤ_comm, *ℤ-zero}
use Rattle.overlay_terms.specs.Plane.{Point, Segment, whole, height_over}
use Rattle.overlay_terms.proofs.Difference.{mul_pos}
use Rattle.exact_point.specs.Crossing.{turn_of}
use Rattle.exact_point.proofs.Lines.{width}
use Rattle.exact_point.proofs.Signs.{negative_times}
use Rattle.exact_point.proofs.PlaceOrder.{one_positive, less_through}
use Rattle.crossing_sweep.specs.Leaning.{lean, lean_segment, IsSteep, IsAfter, IsBefore}
use Rattle.crossing_sweep.specs.Status.{IsStretchOf, IsActive, AreOrderedAfter, IsStatus, AreTurned, TurnedRound}
use Rattle.crossing_sweep.proofs.Lean.{lean_height, lean_turn}
use Rattle.crossing_sweep.proofs.Keeping.{Reaches}
use Rattle.crossing_sweep.proofs.AtNode.{turned_round, under_those, over_those, pass_by}
use Rattle.crossing_sweep.proofs.Inputs.{steep_positive, near, fits, left_small, right_small, meeting_small, lean_at_most}
use Rattle.crossing_sweep.proofs.StatusLemmas.{kept_order}
use Rattle.overlay_terms.proofs.Pairs.{all_first, all_second, pairs_first, pairs_second, all_pairs_append}
use Rattle.overlay_terms.proofs.Whole.{more_none, less_none}

module _ (n : ℤ) (segments : List Segment) (q r : Point) (under bundle over stay : List Segment) (steep : IsSteep n) (is : IsStatus n segments q r (under ++ bundle ++ over))
    (passes_under : All (λ u. pos 0 <ℤ height_over u r) under) (passes_over : All (λ u. height_over u r <ℤ pos 0) over) (turned : AreTurned segments r stay) where
  hn : pos 0 <ℤ n
  hn = steep_positive n steep

  -- ---- heights in the leaned plane
  leaned_above : (s : Segment) → pos 0 <ℤ height_over s r → pos 0 <ℤ height_over (lean_segment n s) (lean n r)
  leaned_above s h = rw (lean_height n s r) (mul_pos n (height_over s r) hn h)

  leaned_below : (s : Segment) → height_over s r <ℤ pos 0 → height_over (lean_segment n s) (lean n r) <ℤ pos 0
  leaned_below s h = rw (lean_height n s r) (less (height_over s r) h)
    where
      less : (h : ℤ) → h <ℤ pos 0 → (n *ℤ h) <ℤ pos 0
      less h k = omega (arith, ints, *ℤ_comm n h, negative_times h n k hn)

  leaned_zero : (s : Segment) → height_over s r ≡ pos 0 → height_over (lean_segment n s) (lean n r) ≡ pos 0
  leaned_zero s h = lean_height n s r ∙ ap (λ z. n *ℤ z) h ∙ *ℤ-zero n

  most : (z : ℤ) → z <ℤ pos 0 → z ≤ℤ pos 0
  most z h = omega (arith, ints, h)

  none_most : (z : ℤ) → z ≡ pos 0 → z ≤ℤ pos 0
  none_most z h = omega (arith, ints, h)

  none_least : (z : ℤ) → z ≡ pos 0 → pos 0 ≤ℤ z
  none_least z h = omega (arith, ints, h)

  wide : (u : Segment) → IsStretchOf segments u → pos 0 <ℤ width (lean_segment n u)
  wide u stretch = (fits n u steep stretch.proper).wide

  -- ---- members that do not hold the node pass it by
  at_node : (u : Segment) → IsStretchOf segments u → IsActive u q r → Reaches n u r r
  at_node u stretch active = record {
    from = lean_at_most n (whole u.left) r steep (left_small u stretch.proper) is.to_small
        (λ h. active.from (less_through q r (whole u.left) is.from_small.positive is.to_small.positive one_positive is.in_order h));
    to = lean_at_most n r (whole u.right) steep is.to_small (right_small u stretch.proper) active.to;
  }

  passing : (a b : Segment) → IsStretchOf segments a → IsStretchOf segments b → IsActive a q r → IsActive b q r → (height_over a r ≡ pos 0 → ⊥)
      → IsBefore (lean_segment n a) (lean_segment n b) (lean n r) → IsAfter (lean_segment n a) (lean_segment n b) (lean n r)
  passing a b is_a is_b active_a active_b off before =
      pass_by n hn a b r is.to_small.positive (fits n a steep is_a.proper) (fits n b steep is_b.proper) (at_node a is_a active_a) (at_node b is_b active_b)
      (λ left meets. near n r _ steep is.to_small (meeting_small b a is_b.proper is_a.proper left meets)) off before

  -- the parts of the status
  before_node : AllPairs (λ a b. IsBefore (lean_segment n a) (lean_segment n b) (lean n r)) (under ++ bundle ++ over)
  before_node = kept_order n segments q r (under ++ bundle ++ over) steep is

  stretches_under : All (IsStretchOf segments) under
  stretches_under = all_first (IsStretchOf segments) under bundle (all_first (IsStretchOf segments) (under ++ bundle) over is.stretches)

  stretches_over : All (IsStretchOf segments) over
  stretches_over = all_second (IsStretchOf segments) (under ++ bundle) over is.stretches

  active_under : All (λ u. IsActive u q r) under
  active_under = all_first (λ u. IsActive u q r) under bundle (all_first (λ u. IsActive u q r) (under ++ bundle) over is.active)

  active_over : All (λ u. IsActive u q r) over
  active_over = all_second (λ u. IsActive u q r) (under ++ bundle) over is.active

  abbrev After : Segment → Segment → Type 0
  After a b = IsAfter (lean_segment n a) (lean_segment n b) (lean n r)

  under_after : AllPairs (λ a b. After a b) under
  under_after i j d l m =
      passing (get_or under i d) (get_or under j d) (stretches_under i d (omega (arith, l, m))) (stretches_under j d m) (active_under i d (omega (arith, l, m))) (active_under j d m)
      (more_none (height_over (get_or under i d) r) (passes_under i d (omega (arith, l, m))))
      (pairs_first (λ a b. IsBefore (lean_segment n a) (lean_segment n b) (lean n r)) under bundle
      (pairs_first (λ a b. IsBefore (lean_segment n a) (lean_segment n b) (lean n r)) (under ++ bundle) over before_node) i j d l m)

  over_after : AllPairs (λ a b. After a b) over
  over_after i j d l m =
      passing (get_or over i d) (get_or over j d) (stretches_over i d (omega (arith, l, m))) (stretches_over j d m) (active_over i d (omega (arith, l, m))) (active_over j d m)
      (less_none (height_over (get_or over i d) r) (passes_over i d (omega (arith, l, m))))
      (pairs_second (λ a b. IsBefore (lean_segment n a) (lean_segment n b) (lean n r)) (under ++ bundle) over before_node i j d l m)

  stay_after : AllPairs (λ a b. After a b) stay
  stay_after i j d l m =
      let a : Segment = get_or stay i d in
      let b : Segment = get_or stay j d in
      turned_round (lean_segment n a) (lean_segment n b) (lean n r) (leaned_zero a (turned.hold i d (omega (arith, l, m)))) (leaned_zero b (turned.hold j d m))
      (rw (lean_turn n a b) (mul_pos n (turn_of a b) hn (turned.turned i j d l m)))

  -- one below the node is under one that holds it or is above
  under_one : (i : ℕ) (d b : Segment) → i < length under → IsStretchOf segments b → height_over (lean_segment n b) (lean n r) ≤ℤ pos 0 → After (get_or under i d) b
  under_one i d b l is_b high =
      under_those (lean_segment n (get_or under i d)) (lean_segment n b) (lean n r) (wide (get_or under i d) (stretches_under i d l)) (wide b is_b) (leaned_above (get_or under i d) (passes_under i d l)) high

  stay_over : AllPairs (λ a b. After a b) (stay ++ over)
  stay_over =
      all_pairs_append (λ a b. After a b) stay over stay_after over_after
      (λ i d l j e m. over_those (lean_segment n (get_or stay i d)) (lean_segment n (get_or over j e)) (lean n r) (wide (get_or stay i d) (turned.stretches i d l)) (wide (get_or over j e) (stretches_over j e m))
      (none_least _ (leaned_zero (get_or stay i d) (turned.hold i d l))) (leaned_below (get_or over j e) (passes_over j e m)))

  pub after_node : AreOrderedAfter n r (under ++ (stay ++ over))
  after_node =
      all_pairs_append (λ a b. After a b) under (stay ++ over) under_after stay_over
      (λ i d l. All-append (λ b. After (get_or under i d) b) stay over
      (λ j e m. under_one i d (get_or stay j e) l (turned.stretches j e m) (none_most _ (leaned_zero (get_or stay j e) (turned.hold j e m))))
      (λ j e m. under_one i d (get_or over j e) l (stretches_over j e m) (most _ (leaned_below (get_or over j e) (passes_over j e m)))))

pub status_turned_round : TurnedRound
status_turned_round n segments q r under bundle over stay steep is passes_under passes_over turned =
    let P : List Segment → Type 0 = λ s. AreOrderedAfter n r s in
    subst P (sym (append_assoc under stay over)) (after_node n segments q r under bundle over stay steep is passes_under passes_over turned)
