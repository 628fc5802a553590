-- From the members of a status below one of them to what lies under it.
use Rattle.std.proofs.Common.{◌≡◌, ℕ, ℤ, pos, suc, ◌+◌, ◌<◌, ◌*ℤ◌, ◌<ℤ◌, ◌≤ℤ◌, inl, inr, ◌⊎◌, true, false, List, get_or, length, take, ap, sym, subst, ◌∙◌, arith}
use Rattle.std.specs.Prelude.{Bool, All, Any, Contains, int_lt, int_le, ◌&&◌, map}
use Rattle.std.specs.List.{AllPairs}
use Rattle.std.specs.Ordering.{int_eq}
use Rattle.std.proofs.lemmas.Int.{ints}
use Rattle.std.proofs.lemmas.Bool.{and_parts, and_from, or_left, or_right, both_ways}
use Rattle.std.proofs.lemmas.Bool.Decides.{Decides-int_eq}
use Rattle.std.proofs.lemmas.List.{get_or-take, length-take-le, length-map, get_or_default}
use Rattle.std.proofs.lemmas.List.Elements.{All-map, All-contains}
use Rattle.std.proofs.Math.ListN.{get_or-map}
use Rattle.std.proofs.Math.IntN.{*ℤ-zero}
use Rattle.overlay_terms.specs.Plane.{Point, Segment, whole}
use Rattle.overlay_terms.specs.Layers.{Marked}
use Rattle.overlay_terms.specs.TileLaws.{IsProper}
use Rattle.overlay_terms.proofs.Lists.{any_from, contains_map, from_map}
use Rattle.overlay_terms.proofs.InputNumbers.{le_true, lt_true, true_le, true_lt}
use Rattle.exact_point.specs.Crossing.{turn_of}
use Rattle.exact_point.proofs.Lines.{gap, gap_at, flat_gap}
use Rattle.exact_point.proofs.OnLine.{left_on_line, less_from_forward, forward_from_less}
use Rattle.exact_point.proofs.PlaceOrder.{one_positive}
use Rattle.tile_laws.proofs.JustRight.{is_over_x, is_under, is_level, under_bits, up_to_bits}
use Rattle.tile_laws.proofs.Ranks.{Orders}
use Rattle.tile_laws.proofs.StepUp.{AreBelow, under_is_lower, step_up, none_below}
use Rattle.tile_laws.proofs.UnderLemmas.{under_orders, level_under}
use Rattle.overlay_terms.specs.Tiles.{Input}
use Rattle.crossing_sweep.specs.StripInput.{StripInput, IsStripInput, segments_in}
use Rattle.crossing_sweep.specs.Leaning.{lean, lean_segment, IsSteep, IsSmall, IsAfter}
use Rattle.crossing_sweep.specs.Sides.{lean_marked}
use Rattle.crossing_sweep.specs.Queue.{IsAlong, GoesOn, IsStatusAt}
use Rattle.crossing_sweep.specs.Masks.{MasksStepUp}
use Rattle.crossing_sweep.proofs.Lean.{lean_left, lean_height, lean_turn}
use Rattle.crossing_sweep.proofs.Meeting.{before_from_lean}
use Rattle.crossing_sweep.proofs.Inputs.{steep_positive, near, left_small, right_small, lean_at_most}
use Rattle.overlay_terms.proofs.Pairs.{pairs_map}
use Rattle.crossing_sweep.proofs.QueueLemmas.{along_turn, Order, lower, same, higher, order_of}

-- ---- tests
under_test : (a b : Segment) (p : Point) → IsAfter a b p → is_under a b p ≡ true
under_test a b p (inl h) = or_left (int_lt (pos 0) (gap a b p)) (int_eq (gap a b p) (pos 0) && int_lt (pos 0) (turn_of a b)) (true_lt (pos 0) (gap a b p) h)
under_test a b p (inr (e, h)) =
    or_right (int_lt (pos 0) (gap a b p)) (int_eq (gap a b p) (pos 0) && int_lt (pos 0) (turn_of a b))
    (and_from (int_eq (gap a b p) (pos 0)) (int_lt (pos 0) (turn_of a b)) ((Decides-int_eq (gap a b p) (pos 0)).1 e) (true_lt (pos 0) (turn_of a b) h))

-- ---- segments that go on after a place, in the leaned plane
module _ (n : ℤ) (q : Point) (steep : IsSteep n) (small : IsSmall q) where
  hn : pos 0 <ℤ n
  hn = steep_positive n steep

  -- what goes on is over the x of the leaned place, and the other way round
  pub over_of : (u : Segment) → IsProper u → GoesOn u q → is_over_x (lean_segment n u) (lean n q) ≡ true
  over_of u proper goes =
      and_from (int_le ((lean_segment n u).left.x *ℤ q.w) (lean n q).x) (int_lt (lean n q).x ((lean_segment n u).right.x *ℤ q.w))
      (true_le ((lean_segment n u).left.x *ℤ q.w) (lean n q).x (once_most _ _ (lean_at_most n (whole u.left) q steep (left_small u proper) small goes.begun)))
      (true_lt (lean n q).x ((lean_segment n u).right.x *ℤ q.w) (once_less _ _ (lean_left n q (whole u.right) hn (near n q (whole u.right) steep small (right_small u proper)) (forward_from_less q (whole u.right) goes.lasting))))
    where
      once_most : (a b : ℤ) → a ≤ℤ (b *ℤ pos 1) → a ≤ℤ b
      once_most a b h = omega (arith, ints, h)

      once_less : (a b : ℤ) → (a *ℤ pos 1) <ℤ b → a <ℤ b
      once_less a b h = omega (arith, ints, h)

  pub goes_on_of : (t : Segment) → IsProper t → is_over_x (lean_segment n t) (lean n q) ≡ true → GoesOn t q
  goes_on_of t proper over =
      let parts = and_parts (int_le ((lean_segment n t).left.x *ℤ q.w) (lean n q).x) (int_lt (lean n q).x ((lean_segment n t).right.x *ℤ q.w)) over in
      record {
        begun = λ h. apart_by _ _ (le_true ((lean_segment n t).left.x *ℤ q.w) (lean n q).x parts.0) (lean_left n q (whole t.left) hn (near n q (whole t.left) steep small (left_small t proper)) (forward_from_less q (whole t.left) h));
        lasting = less_from_forward q (whole t.right)
            (before_from_lean n q (whole t.right) hn (near n q (whole t.right) steep small (right_small t proper)) (once_less _ _ (lt_true (lean n q).x ((lean_segment n t).right.x *ℤ q.w) parts.1)));
      }
    where
      apart_by : (a b : ℤ) → a ≤ℤ b → (b *ℤ pos 1) <ℤ a → ⊥
      apart_by a b h k = omega (arith, ints, h, k)

      once_less : (a b : ℤ) → a <ℤ b → (a *ℤ pos 1) <ℤ b
      once_less a b h = omega (arith, ints, h)

  -- a stretch along a segment is on its line in the leaned plane
  pub level_of : (t u : Segment) → IsProper t → IsProper u → IsAlong t u → is_level (lean_segment n t) (lean_segment n u) (lean n q) ≡ true
  level_of t u pt pu along =
      let t' : Segment = lean_segment n t in
      let u' : Segment = lean_segment n u in
      let none : turn_of t' u' ≡ pos 0 = lean_turn n t u ∙ ap (λ z. n *ℤ z) (along_turn t u pt.first pu.first along) ∙ *ℤ-zero n in
      let at_left : gap t' u' (lean n (whole u.left)) ≡ pos 0 =
      gap_at t' u' (lean n (whole u.left)) (lean_height n t (whole u.left) ∙ ap (λ z. n *ℤ z) along.left ∙ *ℤ-zero n) (lean_height n u (whole u.left) ∙ ap (λ z. n *ℤ z) (left_on_line u) ∙ *ℤ-zero n) in
      and_from (int_eq (gap t' u' (lean n q)) (pos 0)) (int_eq (turn_of t' u') (pos 0))
      ((Decides-int_eq (gap t' u' (lean n q)) (pos 0)).1 (flat_gap t' u' (lean n (whole u.left)) (lean n q) one_positive none at_left))
      ((Decides-int_eq (turn_of t' u') (pos 0)).1 none)

module _ (n : ℤ) (input : StripInput) (q : Point) (status : List Segment) (steep : IsSteep n) (valid : IsStripInput input) (is : IsStatusAt n (segments_in input) q status) where
  abbrev lq : Point
  lq = lean n q

  hq : pos 0 <ℤ (lean n q).w
  hq = is.small.positive

  abbrev leaned : Input
  leaned = record { column = input.strip.first; marked = lean_marked n input.marked; steps = input.steps }

  orders : Orders (λ s. is_over_x s (lean n q)) (λ s t. is_under s t (lean n q))
  orders = under_orders (lean n q) hq

  -- ---- the members
  over_member : (i : ℕ) (d : Segment) → i < length status → is_over_x (lean_segment n (get_or status i d)) (lean n q) ≡ true
  over_member i d l = over_of n q steep is.small (get_or status i d) (is.stretches i d l).proper (is.go_on i d l)

  under_pair : (i j : ℕ) (d : Segment) → i < j → j < length status → is_under (lean_segment n (get_or status i d)) (lean_segment n (get_or status j d)) (lean n q) ≡ true
  under_pair i j d l m = under_test (lean_segment n (get_or status i d)) (lean_segment n (get_or status j d)) (lean n q) (is.ordered i j d l m)

  module _ (m : ℕ) (d : Segment) (inside : m < length status) where
    abbrev e' : Segment
    e' = lean_segment n (get_or status m d)

    abbrev below : List Segment
    below = map (lean_segment n) (take m status)

    long : length (take m status) ≡ m
    long = length-take-le m status (omega (arith, inside))

    abbrev test : Segment → Bool
    test t = is_under t (lean_segment n (get_or status m d)) (lean n q)

    ordered : AllPairs (λ a b. is_under a b (lean n q) ≡ true) (map (lean_segment n) (take m status))
    ordered =
        pairs_map (λ a b. is_under a b (lean n q) ≡ true) (lean_segment n) (take m status)
        (λ i j e l k. let j_in : j < m = omega (arith, k, long) in
        let i_in : i < m = omega (arith, l, j_in) in
        ap (λ z. is_under (lean_segment n z) (lean_segment n (get_or (take m status) j e)) (lean n q)) (get_or-take m status i e i_in)
        ∙ ap (λ z. is_under (lean_segment n (get_or status i e)) (lean_segment n z) (lean n q)) (get_or-take m status j e j_in)
        ∙ under_pair i j e l (omega (arith, j_in, inside)))

    over_all : All (λ a. is_over_x a (lean n q) ≡ true) (map (lean_segment n) (take m status))
    over_all =
        All-map (λ a. is_over_x a (lean n q) ≡ true) (lean_segment n) (take m status)
        (λ i e l. let i_in : i < m = omega (arith, l, long) in
        ap (λ z. is_over_x (lean_segment n z) (lean n q)) (get_or-take m status i e i_in) ∙ over_member i e (omega (arith, i_in, inside)))

    passes : All (λ a. is_under a (lean_segment n (get_or status m d)) (lean n q) ≡ true) (map (lean_segment n) (take m status))
    passes =
        All-map (λ a. is_under a (lean_segment n (get_or status m d)) (lean n q) ≡ true) (lean_segment n) (take m status)
        (λ i e l. let i_in : i < m = omega (arith, l, long) in
        ap (λ z. is_under (lean_segment n z) (lean_segment n (get_or status m d)) (lean n q)) (get_or-take m status i e i_in)
        ∙ ap (λ z. is_under (lean_segment n (get_or status i e)) (lean_segment n z) (lean n q)) (get_or_default status m d e inside)
        ∙ under_pair i m e i_in inside)

    -- what is under the member lies along one below it
    along_one : (t : Segment) → IsProper t → Contains (segments_in input) t → is_over_x (lean_segment n t) (lean n q) ≡ true → is_under (lean_segment n t) (lean_segment n (get_or status m d)) (lean n q) ≡ true
        → Any (λ a. is_level (lean_segment n t) a (lean n q) ≡ true) (map (lean_segment n) (take m status))
    along_one t pt among over under = by (is.covered t among (goes_on_of n q steep is.small t pt over))
      where
        by : Any (IsAlong t) status → Any (λ a. is_level (lean_segment n t) a (lean n q) ≡ true) (map (lean_segment n) (take m status))
        by (j, u, l, e, along) = by_order (order_of j m)
          where
            proper_u : IsProper u
            proper_u = let P : Segment → Type 0 = λ z. IsProper z in subst P e (is.stretches j u l).proper

            over_u : is_over_x (lean_segment n u) (lean n q) ≡ true
            over_u = ap (λ z. is_over_x (lean_segment n z) (lean n q)) (sym e) ∙ over_member j u l

            level : is_level (lean_segment n t) (lean_segment n u) (lean n q) ≡ true
            level = level_of n q steep is.small t u pt proper_u along

            over_e : is_over_x (lean_segment n (get_or status m d)) (lean n q) ≡ true
            over_e = over_member m d inside

            not_under_u : is_under (lean_segment n t) (lean_segment n u) (lean n q) ≡ false
            not_under_u = level_under (lean n q) hq (lean_segment n t) (lean_segment n u) level

            by_order : Order j m → Any (λ a. is_level (lean_segment n t) a (lean n q) ≡ true) (map (lean_segment n) (take m status))
            by_order (lower h) =
                any_from (λ a. is_level (lean_segment n t) a (lean n q) ≡ true) (map (lean_segment n) (take m status)) (lean_segment n u)
                (contains_map (lean_segment n) (take m status) u (j, omega (arith, h, long), get_or-take m status j u h ∙ e)) level
            by_order (same h) =
                let here : get_or status m d ≡ u = get_or_default status m d u inside ∙ ap (λ i. get_or status i u) (sym h) ∙ e in
                absurd (both_ways (is_under (lean_segment n t) (lean_segment n u) (lean n q)) not_under_u (ap (λ z. is_under (lean_segment n t) (lean_segment n z) (lean n q)) (sym here) ∙ under))
            by_order (higher h) =
                let up : is_under (lean_segment n (get_or status m d)) (lean_segment n u) (lean n q) ≡ true =
                ap (λ z. is_under (lean_segment n (get_or status m d)) (lean_segment n z) (lean n q)) (sym e) ∙ ap (λ z. is_under (lean_segment n z) (lean_segment n (get_or status j u)) (lean n q)) (get_or_default status m d u inside) ∙ under_pair m j u h l in
                absurd (which (orders.between (lean_segment n (get_or status m d)) (lean_segment n t) (lean_segment n u) over_e over over_u up))
              where
                which : (is_under (lean_segment n (get_or status m d)) (lean_segment n t) (lean n q) ≡ true) ⊎ (is_under (lean_segment n t) (lean_segment n u) (lean n q) ≡ true) → ⊥
                which (inl k) = orders.apart (lean_segment n t) (lean_segment n (get_or status m d)) over over_e under k
                which (inr k) = both_ways (is_under (lean_segment n t) (lean_segment n u) (lean n q)) not_under_u k

    are_below : AreBelow (lean n q) hq leaned test (map (lean_segment n) (take m status))
    are_below = record {
      ordered = ordered;
      over = over_all;
      passes = passes;
      complete = λ t' among over under. complete t' (from_map (λ (m : Marked). m.segment) (lean_marked n input.marked) t' among) over under;
    }
      where
        complete : (t' : Segment) → (x : Marked) × Contains (lean_marked n input.marked) x × (x.segment ≡ t') → is_over_x t' (lean n q) ≡ true → is_under t' (lean_segment n (get_or status m d)) (lean n q) ≡ true
            → Any (λ a. is_level t' a (lean n q) ≡ true) (map (lean_segment n) (take m status))
        complete t' (x, c, e) over under = whole_of (from_map (λ (m : Marked). let z : Marked = record { layer = m.layer; segment = lean_segment n m.segment } in z) input.marked x c)
          where
            whole_of : (y : Marked) × Contains input.marked y × ((let z : Marked = record { layer = y.layer; segment = lean_segment n y.segment } in z) ≡ x) → Any (λ a. is_level t' a (lean n q) ≡ true) (map (lean_segment n) (take m status))
            whole_of (y, among, f) =
                let there : lean_segment n y.segment ≡ t' = ap (λ (m : Marked). m.segment) f ∙ e in
                let P : Segment → Type 0 = λ z. is_over_x z (lean n q) ≡ true → is_under z (lean_segment n (get_or status m d)) (lean n q) ≡ true → Any (λ a. is_level z a (lean n q) ≡ true) (map (lean_segment n) (take m status)) in
                subst P there
                (λ o k. along_one y.segment (All-contains (λ m. IsProper m.segment) input.marked y valid.proper among) (contains_map (λ (m : Marked). m.segment) input.marked y among) o k)
                over under

    over_here : is_over_x (lean_segment n (get_or status m d)) (lean n q) ≡ true
    over_here = over_member m d inside

  lowest_none : (d : Segment) (k : ℕ) → 0 < length status → under_bits (lean_marked n input.marked) (lean_segment n (get_or status 0 d)) (lean n q) k ≡ false
  lowest_none d k inside =
      ap (λ f. f k)
      (none_below (lean n q) hq leaned (test 0 d inside) (under_is_lower (lean n q) hq (lean_segment n (get_or status 0 d)) (over_here 0 d inside)) (map (lean_segment n) (take 0 status)) (are_below 0 d inside)
      (length-map (take 0 status) (lean_segment n) ∙ long 0 d inside))

  next_up : (i : ℕ) (d : Segment) (k : ℕ) → i + 1 < length status
      → under_bits (lean_marked n input.marked) (lean_segment n (get_or status (i + 1) d)) (lean n q) k ≡ up_to_bits (lean_marked n input.marked) (lean_segment n (get_or status i d)) (lean n q) k
  next_up i d k inside =
      let last : length (map (lean_segment n) (take (i + 1) status)) ≡ suc i = length-map (take (i + 1) status) (lean_segment n) ∙ long (i + 1) d inside ∙ omega arith in
      let here : get_or (map (lean_segment n) (take (i + 1) status)) i (lean_segment n d) ≡ lean_segment n (get_or status i d) =
      get_or-map (lean_segment n) (take (i + 1) status) i d ∙ ap (lean_segment n) (get_or-take (i + 1) status i d (omega arith)) in
      sym (ap (λ f. f k)
      (step_up (lean n q) hq leaned (test (i + 1) d inside) (under_is_lower (lean n q) hq (lean_segment n (get_or status (i + 1) d)) (over_here (i + 1) d inside)) (map (lean_segment n) (take (i + 1) status)) (are_below (i + 1) d inside)
      i last (lean_segment n d)))
      ∙ ap (λ z. up_to_bits (lean_marked n input.marked) z (lean n q) k) here

pub masks_step_up : MasksStepUp
masks_step_up n input q status steep valid is = record { lowest = lowest_none n input q status steep valid is; next = next_up n input q status steep valid is }
