-- From the last node on a stretch to the next one on its segment is a piece, along which the masks are carried.
use Rattle.std.proofs.Common.{◌≡◌, ℕ, ℤ, pos, ◌^◌, ◌*ℤ◌, ◌<ℤ◌, ◌≤ℤ◌, neg_ℤ, true, List, ap, sym, ◌∙◌, arith}
use Rattle.std.specs.Prelude.{Bool, IsTrue, All, ◌&&◌}
use Rattle.std.specs.declared.cmp.Ordering.TheVariants.{Less}
use Rattle.std.proofs.lemmas.Int.{ints}
use Rattle.std.proofs.lemmas.Bool.{and_parts, and_from}
use Rattle.std.proofs.lemmas.List.Elements.{All-map, All-contains}
use Rattle.overlay_terms.specs.Plane.{Point, Segment, whole, point_cmp, is_on, coordinate_max}
use Rattle.overlay_terms.specs.Tiles.{IsPiece, is_node, Input}
use Rattle.overlay_terms.specs.TileLaws.{IsProper}
use Rattle.exact_point.proofs.OnLine.{after_left, before_right, on_line, left_on_line, parallel_line, within_on, no_turn_back}
use Rattle.exact_point.proofs.PlaceOrder.{Way, before, at, after, way_of, one_positive, less_through, alike_left, alike_right, not_before_self, not_after_less, on_same}
use Rattle.tile_laws.proofs.JustRight.{under_bits, up_to_bits}
use Rattle.tile_laws.proofs.Candidates.{IsAmong}
use Rattle.tile_laws.proofs.LastPlace.{Falls, falling}
use Rattle.tile_laws.proofs.NextNode.{IsLast, last_of}
use Rattle.exact_point.proofs.SameNodes.{node_alike}
use Rattle.tile_laws.proofs.StepUp.{under_bits_alike, up_to_bits_alike}
use Rattle.crossing_sweep.specs.StripInput.{StripInput, IsStripInput, is_in_strip, segments_in}
use Rattle.crossing_sweep.specs.Leaning.{lean, lean_segment, IsSteep, IsSmall}
use Rattle.crossing_sweep.specs.Status.{IsStretchOf}
use Rattle.crossing_sweep.specs.Sides.{lean_marked, IsNodal, IsPassed}
use Rattle.crossing_sweep.specs.Queue.{IsAlong, GoesOn}
use Rattle.crossing_sweep.specs.Kept.{IsLastOn, MasksAreKept}
use Rattle.crossing_sweep.proofs.StretchLemmas.{holder_holds, no_turn}
use Rattle.crossing_sweep.proofs.OnProper.{HasYFrom, y_on_proper}
use Rattle.crossing_sweep.proofs.NextNode.{places, node_place, few_places, IsFew, is_after, after_positive, after_less, after_test}
use Rattle.crossing_sweep.proofs.Carried.{sides_are_carried}
use Rattle.crossing_sweep.proofs.MaskLemmas.{over_of, level_of}

module _ (n : ℤ) (input : StripInput) (u : Segment) (p q : Point) (steep : IsSteep n) (valid : IsStripInput input) (is : IsStretchOf (segments_in input) u) (goes : GoesOn u q) (small_q : IsSmall q)
    (q_in : IsTrue (is_in_strip input.strip q)) (last_on : IsLastOn input u p q) (ends : IsTrue (is_node (segments_in input) (whole u.right))) where
  abbrev xs : List Segment
  xs = segments_in input

  abbrev s : Segment
  s = is.holder

  proper : All IsProper (segments_in input)
  proper = All-map IsProper (λ m. m.segment) input.marked valid.proper

  hp : pos 0 <ℤ p.w
  hp = last_on.nodal.small.positive

  hq : pos 0 <ℤ q.w
  hq = small_q.positive

  -- ---- the next node on the segment
  abbrev is_good : Point → Bool
  is_good c = is_after (segments_in input) proper q hq c && (is_node (segments_in input) c && is_on is.holder c)

  good_positive : (c : Point) → is_good c ≡ true → pos 0 <ℤ c.w
  good_positive c h = after_positive (segments_in input) proper q hq c (and_parts (is_after (segments_in input) proper q hq c) (is_node (segments_in input) c && is_on is.holder c) h).0

  -- the list's place of a node on the segment after q
  good_place : (z : Point) (hz : pos 0 <ℤ z.w) (node : IsTrue (is_node (segments_in input) z)) → IsTrue (is_on is.holder z) → point_cmp q z ≡ Less → is_good (node_place (segments_in input) proper z hz node).point ≡ true
  good_place z hz node on less =
      let c : IsAmong (places (segments_in input) proper) z = node_place (segments_in input) proper z hz node in
      and_from (is_after (segments_in input) proper q hq c.point) (is_node (segments_in input) c.point && is_on is.holder c.point)
      (after_test (segments_in input) proper q hq c.point c.positive (sym (alike_right q z c.point hq hz c.positive c.at) ∙ less))
      (and_from (is_node (segments_in input) c.point) (is_on is.holder c.point) (sym (node_alike z c.point hz c.positive c.at (segments_in input)) ∙ node) (sym (on_same is.holder z c.point hz c.positive c.at) ∙ on))

  first : (r : Point) × IsLast is_good Falls (places (segments_in input) proper) r
  first =
      last_of is_good Falls (falling is_good good_positive) (places (segments_in input) proper) (node_place (segments_in input) proper (whole u.right) one_positive ends).point (node_place (segments_in input) proper (whole u.right) one_positive ends).among
      (good_place (whole u.right) one_positive ends is.on_right goes.lasting)

  hr : pos 0 <ℤ first.0.w
  hr = good_positive first.0 first.1.passes

  r_after : is_after (segments_in input) proper q hq first.0 ≡ true
  r_after = (and_parts (is_after (segments_in input) proper q hq first.0) (is_node (segments_in input) first.0 && is_on is.holder first.0) first.1.passes).0

  r_parts : (is_node (segments_in input) first.0 ≡ true) × (is_on is.holder first.0 ≡ true)
  r_parts = and_parts (is_node (segments_in input) first.0) (is_on is.holder first.0) (and_parts (is_after (segments_in input) proper q hq first.0) (is_node (segments_in input) first.0 && is_on is.holder first.0) first.1.passes).1

  q_less : point_cmp q first.0 ≡ Less
  q_less = after_less (segments_in input) proper q hq first.0 r_after

  -- p is not after q, so what is after q is after p
  p_less : (z : Point) → pos 0 <ℤ z.w → point_cmp q z ≡ Less → point_cmp p z ≡ Less
  p_less z hz h = by (way_of p q hp hq) where
    by : Way p q → point_cmp p z ≡ Less
    by (before e) = less_through p q z hp hq hz e h
    by (at e) = alike_left p q z hp hq hz e ∙ h
    by (after e) = absurd (last_on.from e)

  -- no node of the segment lies between
  none_between : (z : Point) → pos 0 <ℤ z.w → IsTrue (is_on is.holder z) → point_cmp p z ≡ Less → point_cmp z first.0 ≡ Less → IsTrue (is_node (segments_in input) z) → ⊥
  none_between z hz on after_p before_r node = by (way_of q z hq hz)
    where
      on_stretch : (point_cmp q z ≡ Less → ⊥) → IsTrue (is_on u z)
      on_stretch not_after =
          within_on u z hz (parallel_line is.holder u (whole u.left) z is.held_by.first (no_turn_back u is.holder (no_turn (segments_in input) u is)) one_positive (on_line is.holder (whole u.left) is.on_left) (left_on_line u) (on_line is.holder z on))
          (λ h. after_left u p last_on.on (less_through p z (whole u.left) hp hz one_positive after_p h))
          (λ h. not_after (less_through q (whole u.right) z hq one_positive hz goes.lasting h))

      not_later : (point_cmp q z ≡ Less → ⊥) → ⊥
      not_later not_after = last_on.last z hz (on_stretch not_after) node after_p not_after

      by : Way q z → ⊥
      by (before e) =
          let c : IsAmong (places (segments_in input) proper) z = node_place (segments_in input) proper z hz node in
          first.1.none_after c.point c.among (good_place z hz node on e) (sym (alike_left z c.point first.0 hz c.positive hr c.at) ∙ before_r)
      by (at e) = not_later (not_before_self q z hq hz e)
      by (after e) = not_later (λ h. not_after_less z q hz hq e h)

  on_p : IsTrue (is_on is.holder p)
  on_p = holder_holds (segments_in input) u is p hp last_on.on

  piece : IsPiece (segments_in input) p first.0
  piece = record {
    support = is.holder;
    among = is.among;
    from_positive = hp;
    to_positive = hr;
    from_on = on_p;
    to_on = r_parts.1;
    from_node = last_on.node;
    to_node = r_parts.0;
    in_order = p_less first.0 hr q_less;
    none_between = none_between;
  }

  nodal_r : IsNodal first.0
  nodal_r =
      let few : first.0.w ≤ℤ pos (2 ^ 43) = All-contains (IsFew (segments_in input) proper) (places (segments_in input) proper) first.0 (few_places (segments_in input) proper) first.1.among in
      let y : HasYFrom (neg_ℤ (pos coordinate_max)) (pos coordinate_max) first.0 = y_on_proper is.holder first.0 is.held_by hr r_parts.1 in
      record { small = record { positive = hr; few = most first.0.w few; low = low_of first.0.w first.0.y hr y.low; high = high_of first.0.w first.0.y hr y.high }; few = few }
    where
      most : (w : ℤ) → w ≤ℤ pos (2 ^ 43) → w ≤ℤ pos (2 ^ 87)
      most w h = omega (arith, ints, h)

      low_of : (w y : ℤ) → pos 0 <ℤ w → (neg_ℤ (pos coordinate_max) *ℤ w) ≤ℤ y → neg_ℤ (pos 2097152 *ℤ w) ≤ℤ y
      low_of w y k h = omega (arith, ints, h, k)

      high_of : (w y : ℤ) → pos 0 <ℤ w → y ≤ℤ (pos coordinate_max *ℤ w) → y ≤ℤ (pos 2097152 *ℤ w)
      high_of w y k h = omega (arith, ints, h, k)

  p_not_before : point_cmp p p ≡ Less → ⊥
  p_not_before h = not_after_less p p hp hp h h

  at_p : IsPassed input.strip p first.0 p
  at_p = record { small = last_on.nodal.small; from = p_not_before; to = p_less first.0 hr q_less; within = last_on.within }

  at_q : IsPassed input.strip p first.0 q
  at_q = record { small = small_q; from = last_on.from; to = q_less; within = q_in }

  -- ---- from the segment to the stretch
  abbrev leaned : Input
  leaned = record { column = input.strip.first; marked = lean_marked n input.marked; steps = input.steps }

  along : IsAlong is.holder u
  along = record { left = on_line is.holder (whole u.left) is.on_left; right = on_line is.holder (whole u.right) is.on_right }

  holder_goes_p : GoesOn is.holder p
  holder_goes_p = record { begun = after_left is.holder p on_p; lasting = up_to_right (way_of first.0 (whole is.holder.right) hr one_positive) }
    where
      up_to_right : Way first.0 (whole is.holder.right) → point_cmp p (whole is.holder.right) ≡ Less
      up_to_right (before e) = less_through p first.0 (whole is.holder.right) hp hr one_positive (p_less first.0 hr q_less) e
      up_to_right (at e) = sym (alike_right p first.0 (whole is.holder.right) hp hr one_positive e) ∙ p_less first.0 hr q_less
      up_to_right (after e) = absurd (before_right is.holder first.0 hr r_parts.1 e)

  holder_goes_q : GoesOn is.holder q
  holder_goes_q = record {
    begun = λ h. after_left is.holder p on_p (p_less (whole is.holder.left) one_positive h);
    lasting = up_to_right (way_of first.0 (whole is.holder.right) hr one_positive);
  }
    where
      up_to_right : Way first.0 (whole is.holder.right) → point_cmp q (whole is.holder.right) ≡ Less
      up_to_right (before e) = less_through q first.0 (whole is.holder.right) hq hr one_positive q_less e
      up_to_right (at e) = sym (alike_right q first.0 (whole is.holder.right) hq hr one_positive e) ∙ q_less
      up_to_right (after e) = absurd (before_right is.holder first.0 hr r_parts.1 e)

  stretch_goes_p : GoesOn u p
  stretch_goes_p = record { begun = after_left u p last_on.on; lasting = p_less (whole u.right) one_positive goes.lasting }

  module _ (z : Point) (small : IsSmall z) (holder_goes : GoesOn is.holder z) (stretch_goes : GoesOn u z) (k : ℕ) where
    under_there : under_bits (lean_marked n input.marked) (lean_segment n is.holder) (lean n z) k ≡ under_bits (lean_marked n input.marked) (lean_segment n u) (lean n z) k
    under_there =
        ap (λ f. f k)
        (under_bits_alike (lean n z) small.positive leaned (lean_segment n is.holder) (lean_segment n u) (over_of n z steep small is.holder is.held_by holder_goes) (over_of n z steep small u is.proper stretch_goes)
        (level_of n z steep small is.holder u is.held_by is.proper along))

    up_to_there : up_to_bits (lean_marked n input.marked) (lean_segment n is.holder) (lean n z) k ≡ up_to_bits (lean_marked n input.marked) (lean_segment n u) (lean n z) k
    up_to_there =
        ap (λ f. f k)
        (up_to_bits_alike (lean n z) small.positive leaned (lean_segment n is.holder) (lean_segment n u) (over_of n z steep small is.holder is.held_by holder_goes) (over_of n z steep small u is.proper stretch_goes)
        (level_of n z steep small is.holder u is.held_by is.proper along))

  kept : (k : ℕ)
      → (under_bits (lean_marked n input.marked) (lean_segment n u) (lean n p) k ≡ under_bits (lean_marked n input.marked) (lean_segment n u) (lean n q) k)
      × (up_to_bits (lean_marked n input.marked) (lean_segment n u) (lean n p) k ≡ up_to_bits (lean_marked n input.marked) (lean_segment n u) (lean n q) k)
  unfolding piece
  kept k =
      let one = sides_are_carried n input p first.0 p piece k steep valid last_on.nodal nodal_r last_on.within at_p in
      let two = sides_are_carried n input p first.0 q piece k steep valid last_on.nodal nodal_r last_on.within at_q in (
        sym (under_there p last_on.nodal.small holder_goes_p stretch_goes_p k) ∙ sym one.0 ∙ two.0 ∙ under_there q small_q holder_goes_q goes k,
        sym (up_to_there p last_on.nodal.small holder_goes_p stretch_goes_p k) ∙ sym one.1 ∙ two.1 ∙ up_to_there q small_q holder_goes_q goes k,
      )

pub masks_are_kept : MasksAreKept
masks_are_kept n input u p q k steep valid is goes small_q q_in last_on ends = kept n input u p q steep valid is goes small_q q_in last_on ends k
