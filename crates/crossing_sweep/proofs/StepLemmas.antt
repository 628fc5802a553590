-- One step of a sweep: the status after the next node is again one, and the places found ahead stay complete.
use Rattle.std.proofs.Common.{◌≡◌, ℕ, ℤ, pos, ◌+◌, ◌<◌, ◌-◌, ◌++◌, ◌<ℤ◌, inl, inr, ◌⊎◌, List, get_or, length, ap, sym, subst, ◌∙◌, arith}
use Rattle.std.specs.Prelude.{IsTrue, All, Any, Contains}
use Rattle.std.proofs.lemmas.Bool.{both_ways}
use Rattle.std.proofs.lemmas.List.{get_or_append_left, get_or-append-add}
use Rattle.std.proofs.lemmas.List.Elements.{All-append, All-contains, Contains-append_left, Contains-append_right, Contains-append_cases}
use Rattle.std.proofs.Math.ListN.{length-append}
use Rattle.std.specs.declared.cmp.Ordering.TheVariants.{Less}
use Rattle.overlay_terms.specs.Plane.{Point, Segment, whole, point_cmp, same_place, height_over}
use Rattle.overlay_terms.specs.Tiles.{is_parallel, is_node}
use Rattle.overlay_terms.specs.TileLaws.{IsProper}
use Rattle.overlay_terms.proofs.Lists.{any_from}
use Rattle.exact_point.specs.Crossing.{IsCrossingOf}
use Rattle.exact_point.proofs.OnLine.{on_line, one_direction, parallel_from_turn}
use Rattle.exact_point.proofs.PlaceOrder.{Way, before, at, after, way_of, one_positive, less_through, on_same, level_from, level_test}
use Rattle.tile_laws.proofs.Ranks.{Told, yes, no, told}
use Rattle.std.specs.Ordering.{int_eq}
use Rattle.crossing_sweep.specs.StripInput.{Span}
use Rattle.crossing_sweep.proofs.NextNode.{left_on, right_on}
use Rattle.crossing_sweep.specs.Leaning.{IsSteep}
use Rattle.crossing_sweep.specs.Status.{IsStretchOf, AreTurned}
use Rattle.crossing_sweep.specs.NextNode.{IsNextNode}
use Rattle.crossing_sweep.specs.Queue.{IsAlong, GoesOn, IsStatusAt, IsUpTo, IsQueued, IsQueue}
use Rattle.crossing_sweep.specs.Step.{AreStretches, IsFullStatus, IsSplitAt, AreStaying, IsGrown, StatusGoesOn, QueueGoesOn}
use Rattle.overlay_terms.proofs.Pairs.{all_first, all_second}
use Rattle.overlay_terms.proofs.Whole.{less_none, more_none}
use Rattle.crossing_sweep.proofs.QueueLemmas.{up_to_next, Order, lower, same, higher, order_of}
use Rattle.crossing_sweep.proofs.TurnLemmas.{status_turned_round}

-- an end of a stretch at a place makes the stretch hold it
left_level : (u : Segment) (r : Point) → IsProper u → pos 0 <ℤ r.w → IsTrue (same_place r (whole u.left)) → height_over u r ≡ pos 0
left_level u r proper hr e = on_line u r (on_same u r (whole u.left) hr one_positive e ∙ left_on u proper)

right_level : (u : Segment) (r : Point) → IsProper u → pos 0 <ℤ r.w → IsTrue (same_place r (whole u.right)) → height_over u r ≡ pos 0
right_level u r proper hr e = on_line u r (on_same u r (whole u.right) hr one_positive e ∙ right_on u proper)

module _ (n : ℤ) (segments units : List Segment) (q r : Point) (under bundle over stay : List Segment) (steep : IsSteep n) (proper : All IsProper segments) (are : AreStretches segments units)
    (full : IsFullStatus n segments units q (under ++ bundle ++ over)) (next : IsNextNode segments q r) (split : IsSplitAt r under bundle over) (staying : AreStaying segments units r stay) where
  hq : pos 0 <ℤ q.w
  hq = full.status_at.small.positive

  hr : pos 0 <ℤ r.w
  hr = next.small.positive

  proper_unit : (u : Segment) → Contains units u → IsProper u
  proper_unit u c = (All-contains (IsStretchOf segments) units u are.stretches c).proper

  -- a member that does not hold the node goes on after it
  passes : (u : Segment) → IsProper u → IsTrue (is_node segments (whole u.right)) → GoesOn u q → (height_over u r ≡ pos 0 → ⊥) → GoesOn u r
  passes u pu node goes off = record {
    begun = λ h. goes.begun (less_through q r (whole u.left) hq hr one_positive next.after h);
    lasting = by (way_of r (whole u.right) hr one_positive);
  }
    where
      by : Way r (whole u.right) → point_cmp r (whole u.right) ≡ Less
      by (before e) = e
      by (at e) = absurd (off (right_level u r pu hr e))
      by (after e) = absurd (next.clear (whole u.right) one_positive node goes.lasting e)

  -- a stretch that goes on after the node and does not hold it goes on before
  came : (u : Segment) → Contains units u → GoesOn u r → (height_over u r ≡ pos 0 → ⊥) → GoesOn u q
  came u c goes off = record {
    begun = λ h. by h (way_of r (whole u.left) hr one_positive);
    lasting = less_through q r (whole u.right) hq hr one_positive next.after goes.lasting;
  }
    where
      by : point_cmp q (whole u.left) ≡ Less → Way r (whole u.left) → ⊥
      by h (before e) = goes.begun e
      by h (at e) = off (left_level u r (proper_unit u c) hr e)
      by h (after e) = next.clear (whole u.left) one_positive (All-contains (λ u. IsTrue (is_node segments (whole u.left))) units u are.left_nodes c) h e

  -- ---- the parts of the old status
  module _ (P : Segment → Type 0) (all : All P (under ++ bundle ++ over)) where
    all_under : All P under
    all_under = all_first P under bundle (all_first P (under ++ bundle) over all)

    all_over : All P over
    all_over = all_second P (under ++ bundle) over all

  go_on_under : All (λ u. GoesOn u r) under
  go_on_under i d l =
      passes (get_or under i d) (all_under (IsStretchOf segments) full.status_at.stretches i d l).proper (all_under (λ u. IsTrue (is_node segments (whole u.right))) full.status_at.end_at_nodes i d l)
      (all_under (λ u. GoesOn u q) full.status_at.go_on i d l) (more_none (height_over (get_or under i d) r) (split.passes_under i d l))

  go_on_over : All (λ u. GoesOn u r) over
  go_on_over i d l =
      passes (get_or over i d) (all_over (IsStretchOf segments) full.status_at.stretches i d l).proper (all_over (λ u. IsTrue (is_node segments (whole u.right))) full.status_at.end_at_nodes i d l)
      (all_over (λ u. GoesOn u q) full.status_at.go_on i d l) (less_none (height_over (get_or over i d) r) (split.passes_over i d l))

  -- ---- the new status
  abbrev new : List Segment
  new = under ++ stay ++ over

  all_new : (P : Segment → Type 0) → All P under → All P stay → All P over → All P (under ++ stay ++ over)
  all_new P h k m = All-append P (under ++ stay) over (All-append P under stay h k) m

  among_new : All (Contains units) (under ++ stay ++ over)
  among_new = all_new (Contains units) (all_under (Contains units) full.among) staying.among (all_over (Contains units) full.among)

  -- one that goes on after the node is in it
  members_new : (u : Segment) → Contains units u → GoesOn u r → Contains (under ++ stay ++ over) u
  members_new u c goes = by_sign (told (int_eq (height_over u r) (pos 0)))
    where
      in_old : Contains (under ++ bundle ++ over) u → (height_over u r ≡ pos 0 → ⊥) → Contains (under ++ stay ++ over) u
      in_old m off = last (Contains-append_cases (under ++ bundle) over u m)
        where
          first : Contains under u ⊎ Contains bundle u → Contains (under ++ stay ++ over) u
          first (inl k) = Contains-append_left (under ++ stay) over u (Contains-append_left under stay u k)
          first (inr k) = absurd (off (All-contains (λ u. height_over u r ≡ pos 0) bundle u split.hold k))

          last : Contains (under ++ bundle) u ⊎ Contains over u → Contains (under ++ stay ++ over) u
          last (inl k) = first (Contains-append_cases under bundle u k)
          last (inr k) = Contains-append_right (under ++ stay) over u k

      by_sign : Told (int_eq (height_over u r) (pos 0)) → Contains (under ++ stay ++ over) u
      by_sign (yes e) = Contains-append_left (under ++ stay) over u (Contains-append_right under stay u (staying.complete u c goes (level_from (height_over u r) (pos 0) e)))
      by_sign (no e) =
          let off : height_over u r ≡ pos 0 → ⊥ = λ f. both_ways (int_eq (height_over u r) (pos 0)) e (level_test (height_over u r) (pos 0) f) in
          in_old (full.members u c (came u c goes off)) off

  status_new : IsStatusAt n segments r (under ++ stay ++ over)
  status_new = record {
    small = next.small;
    stretches = all_new (IsStretchOf segments) (all_under (IsStretchOf segments) full.status_at.stretches) staying.turned.stretches (all_over (IsStretchOf segments) full.status_at.stretches);
    go_on = all_new (λ u. GoesOn u r) go_on_under staying.go_on go_on_over;
    end_at_nodes = λ i d l. All-contains (λ u. IsTrue (is_node segments (whole u.right))) units (get_or (under ++ stay ++ over) i d) are.right_nodes (among_new i d l);
    ordered = status_turned_round n segments q r under bundle over stay steep (up_to_next n segments q r (under ++ bundle ++ over) steep proper full.status_at next) split.passes_under split.passes_over staying.turned;
    covered = λ t among goes. there t (are.along t r among hr goes);
  }
    where
      there : (t : Segment) → Any (λ u. IsAlong t u × GoesOn u r) units → Any (IsAlong t) (under ++ stay ++ over)
      there t (i, u, l, e, h) = any_from (IsAlong t) (under ++ stay ++ over) u (members_new u (i, l, e) h.1) h.0

  full_new : IsFullStatus n segments units r (under ++ stay ++ over)
  full_new = record { status_at = status_new; among = among_new; members = members_new }

pub status_goes_on : StatusGoesOn
status_goes_on n segments units q r under bundle over stay steep proper are full next split staying = full_new n segments units q r under bundle over stay steep proper are full next split staying

-- ---- the places found ahead
-- an index that lies in one of two parts of a list, or where they meet
module _ (segments : List Segment) (strip : Span) (q r : Point) (under bundle over stay : List Segment) (keys new : List Point) (hq : pos 0 <ℤ q.w)
    (queue : IsQueue segments strip q (under ++ bundle ++ over) keys) (next : IsNextNode segments q r) (turned : AreTurned segments r stay) (grown : IsGrown strip r under stay over keys new) where
  hr' : pos 0 <ℤ r.w
  hr' = next.small.positive

  abbrev old_status : List Segment
  old_status = under ++ bundle ++ over

  abbrev new_status : List Segment
  new_status = under ++ stay ++ over

  -- what was known and comes after the node is known
  still : (p : Point) → pos 0 <ℤ p.w → point_cmp r p ≡ Less → (point_cmp q p ≡ Less → IsQueued keys p) → IsQueued new p
  still p hp later known = grown.kept p hp (known (less_through q r p hq hr' hp next.after later)) later

  -- two that hold the node cross nowhere after it
  not_after : (a b : Segment) (p : Point) → height_over a r ≡ pos 0 → height_over b r ≡ pos 0 → IsCrossingOf a b p → point_cmp r p ≡ Less → ⊥
  not_after a b p level_a level_b crossing later =
      both_ways (is_parallel a b) crossing.not_parallel (parallel_from_turn a b (one_direction a b r p level_a (on_line a p crossing.on_first) level_b (on_line b p crossing.on_second) later))

  length_two : (xs ys zs : List Segment) → length (xs ++ ys ++ zs) ≡ length xs + length ys + length zs
  length_two xs ys zs = length-append (xs ++ ys) zs ∙ ap (λ k. k + length zs) (length-append xs ys)

  -- the place of an element of the first part
  at_first : (ys : List Segment) (i : ℕ) (d : Segment) → i < length under → get_or (under ++ ys ++ over) i d ≡ get_or under i d
  at_first ys i d l = get_or_append_left (under ++ ys) over d i (omega (arith, l, length-append under ys)) ∙ get_or_append_left under ys d i l

  -- and one of the last
  at_last : (ys : List Segment) (k : ℕ) (d : Segment) → get_or (under ++ ys ++ over) (length (under ++ ys) + k) d ≡ get_or over k d
  at_last ys k d = get_or-append-add (under ++ ys) over k d

  at_stay : (k : ℕ) (d : Segment) → k < length stay → get_or (under ++ stay ++ over) (length under + k) d ≡ get_or stay k d
  at_stay k d l = get_or_append_left (under ++ stay) over d (length under + k) (omega (arith, l, length-append under stay)) ∙ get_or-append-add under stay k d

  module _ (i : ℕ) (d : Segment) (p : Point) (inside : i + 1 < length (under ++ stay ++ over)) (hp : pos 0 <ℤ p.w)
      (crossing : IsCrossingOf (get_or (under ++ stay ++ over) i d) (get_or (under ++ stay ++ over) (i + 1) d) p) (later : point_cmp r p ≡ Less) (up_to : IsUpTo strip p) where
    -- both in the first part
    in_first : i + 1 < length under → IsQueued new p
    in_first h =
        still p hp later
        (λ e. queue.seams i d p (omega (arith, h, length_two under bundle over)) hp
        (subst (λ z. IsCrossingOf z (get_or (under ++ bundle ++ over) (i + 1) d) p) (sym (at_first bundle i d (omega (arith, h)))) (subst (λ z. IsCrossingOf (get_or under i d) z p) (sym (at_first bundle (i + 1) d h))
        (subst (λ z. IsCrossingOf z (get_or under (i + 1) d) p) (at_first stay i d (omega (arith, h))) (subst (λ z. IsCrossingOf (get_or (under ++ stay ++ over) i d) z p) (at_first stay (i + 1) d h) crossing))))
        e up_to)

    -- both in the middle
    in_middle : (k : ℕ) → i ≡ length under + k → k + 1 < length stay → IsQueued new p
    in_middle k e l =
        absurd (not_after (get_or stay k d) (get_or stay (k + 1) d) p (turned.hold k d (omega (arith, l))) (turned.hold (k + 1) d l)
        (subst (λ z. IsCrossingOf z (get_or stay (k + 1) d) p) (ap (λ j. get_or (under ++ stay ++ over) j d) e ∙ at_stay k d (omega (arith, l)))
        (subst (λ z. IsCrossingOf (get_or (under ++ stay ++ over) i d) z p) (ap (λ j. get_or (under ++ stay ++ over) j d) (one_more i k e) ∙ at_stay (k + 1) d l) crossing)) later)
      where
        one_more : (i k : ℕ) → i ≡ length under + k → i + 1 ≡ length under + (k + 1)
        one_more i k e = omega (arith, e)

    -- both in the last part
    in_last : (k : ℕ) → i ≡ length (under ++ stay) + k → IsQueued new p
    in_last k e =
        still p hp later
        (λ f. queue.seams (length (under ++ bundle) + k) d p (omega (arith, inside, e, length_two under bundle over, length_two under stay over, length-append under bundle, length-append under stay)) hp
        (subst (λ z. IsCrossingOf z (get_or (under ++ bundle ++ over) (length (under ++ bundle) + k + 1) d) p) (sym (at_last bundle k d))
        (subst (λ z. IsCrossingOf (get_or over k d) z p) (sym (ap (λ j. get_or (under ++ bundle ++ over) j d) (regroup (length (under ++ bundle)) k) ∙ at_last bundle (k + 1) d))
        (subst (λ z. IsCrossingOf z (get_or over (k + 1) d) p) (ap (λ j. get_or (under ++ stay ++ over) j d) e ∙ at_last stay k d)
        (subst (λ z. IsCrossingOf (get_or (under ++ stay ++ over) i d) z p) (ap (λ j. get_or (under ++ stay ++ over) j d) (one_more i k e) ∙ at_last stay (k + 1) d) crossing))))
        f up_to)
      where
        regroup : (a k : ℕ) → a + k + 1 ≡ a + (k + 1)
        regroup a k = omega arith

        one_more : (i k : ℕ) → i ≡ length (under ++ stay) + k → i + 1 ≡ length (under ++ stay) + (k + 1)
        one_more i k e = omega (arith, e)

    -- by the place of the pair
    by_second : Order (i + 1) (length (under ++ stay)) → length under < i + 1 → IsQueued new p
    by_second (lower h) m = in_middle (i - length under) (omega (arith, m)) (omega (arith, h, m, length-append under stay))
    by_second (same e) m = grown.tested i d p (inr e) inside hp crossing later up_to
    by_second (higher h) m = in_last (i - length (under ++ stay)) (omega (arith, h))

    pub known : IsQueued new p
    known = by_first (order_of (i + 1) (length under)) where
      by_first : Order (i + 1) (length under) → IsQueued new p
      by_first (lower h) = in_first h
      by_first (same e) = grown.tested i d p (inl e) inside hp crossing later up_to
      by_first (higher h) = by_second (order_of (i + 1) (length (under ++ stay))) h

pub queue_goes_on : QueueGoesOn
queue_goes_on segments strip q r under bundle over stay keys new hq queue next turned grown = record {
  fixed = λ p hp fixed later up_to. still segments strip q r under bundle over stay keys new hq queue next turned grown p hp later (λ e. queue.fixed p hp fixed e up_to);
  seams = λ i d p inside hp crossing later up_to. known segments strip q r under bundle over stay keys new hq queue next turned grown i d p inside hp crossing later up_to;
}
