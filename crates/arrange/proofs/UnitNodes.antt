-- Nodes by units: the ends of units, places on two units that are not parallel, and places of slanted units on borders.
use Rattle.std.proofs.Common.{◌≡◌, ℕ, pos, ◌*ℤ◌, ◌<ℤ◌, ◌⊎◌, inl, inr, true, false, not, ◌&&◌, ◌||◌, List, map, ap, sym, ◌∙◌, subst}
use Rattle.std.specs.Prelude.{IsTrue, Contains}
use Rattle.std.specs.List.{list_any}
use Rattle.std.specs.Ordering.{int_eq}
use Rattle.std.proofs.lemmas.Bool.{and_parts, or_cases, not-true, both_ways, false_from_ne_true}
use Rattle.std.proofs.lemmas.List.Elements.{All-contains}
use Rattle.std.proofs.lemmas.List.Folds.{Any-from_list_any}
use Rattle.std.specs.declared.cmp.Ordering.TheVariants.{Less}
use Rattle.overlay_terms.specs.Plane.{WholePoint, Point, Segment, whole, whole_cmp, same_place, is_on}
use Rattle.overlay_terms.specs.Column.{border, columns}
use Rattle.overlay_terms.specs.Layers.{Marked}
use Rattle.overlay_terms.specs.Tiles.{is_node, is_end, is_crossing, is_on_border, is_parallel, is_vertical}
use Rattle.overlay_terms.specs.TileLaws.{IsProper}
use Rattle.overlay_terms.proofs.InputNumbers.{false_eq}
use Rattle.overlay_terms.proofs.Lists.{any_contains, contains_map, from_map}
use Rattle.exact_point.specs.Crossing.{turn_of}
use Rattle.exact_point.proofs.OnLine.{parallel_from_turn, turn_from_parallel, no_turn_back, parallel_through}
use Rattle.exact_point.proofs.PlaceOrder.{one_positive, on_same}
use Rattle.exact_point.proofs.Nodes.{node_at_end, crossing_is_node, wide_too, NodeCause, at_left, at_right, across, over_border, node_cause}
use Rattle.arrange.specs.Marked.{AllProper}
use Rattle.arrange.specs.Units.{covers, IsUnit}
use Rattle.arrange.proofs.NodeSound.{covering_turn, covering_holds, end_from_along}
use Rattle.arrange.proofs.UnitCover.{left_held, right_held, unit_holding, first_unit, last_unit}

abbrev pub segments_of_marked : List Marked → List Segment
segments_of_marked marked = map (λ (m : Marked). m.segment) marked

-- a segment over a unit
pub record Holder (marked : List Marked) (u : Segment) : Type 0 where
  pub of : Marked
  pub among : Contains marked of
  pub cover : IsTrue (covers of.segment u)
  pub ahead : whole_cmp of.segment.left of.segment.right ≡ Less

module _ (marked : List Marked) (proper : AllProper marked) where
  pub goes_ahead : (m : Marked) → Contains marked m → whole_cmp m.segment.left m.segment.right ≡ Less
  goes_ahead m c = (All-contains (λ (n : Marked). IsProper n.segment) marked m proper c).first

  pub holder_of : (u : Segment) → IsUnit marked u → Holder marked u
  holder_of u unit =
      let which = Any-from_list_any (λ (m : Marked). covers m.segment u) marked unit.covered in
      let there = any_contains (λ (m : Marked). covers m.segment u ≡ true) marked which in
      record { of = which.1; among = there; cover = which.4; ahead = goes_ahead which.1 there }

  -- what a unit holds, the segments over it hold
  pub covered_holds : (t u : Segment) → IsUnit marked u → IsTrue (covers t u) → (p : Point) → pos 0 <ℤ p.w → IsTrue (is_on u p) → IsTrue (is_on t p)
  covered_holds t u unit cover p hp on_u =
      let tests = and_parts (is_on t (whole u.left)) (is_on t (whole u.right)) cover in
      covering_holds t u unit.forward tests.0 tests.1 p hp on_u

  covered_turn : (t u : Segment) → IsTrue (covers t u) → turn_of t u ≡ pos 0
  covered_turn t u cover = let tests = and_parts (is_on t (whole u.left)) (is_on t (whole u.right)) cover in covering_turn t u tests.0 tests.1

  -- segments over parallel units are parallel, and the other way round
  parallel_up : (t s u v : Segment) → IsUnit marked u → IsUnit marked v → IsTrue (covers t u) → IsTrue (covers s v) → is_parallel u v ≡ true → is_parallel t s ≡ true
  parallel_up t s u v is_u is_v over_u over_v e =
      let to_t = parallel_from_turn u t (no_turn_back t u (covered_turn t u over_u)) in
      let to_v = parallel_from_turn v u (no_turn_back u v (turn_from_parallel u v e)) in
      let to_s = parallel_from_turn v s (no_turn_back s v (covered_turn s v over_v)) in
      parallel_through u t s is_u.forward to_t (parallel_through v u s is_v.forward to_v to_s)

  parallel_down : (t s u v : Segment) → whole_cmp t.left t.right ≡ Less → whole_cmp s.left s.right ≡ Less → IsTrue (covers t u) → IsTrue (covers s v) → is_parallel t s ≡ true → is_parallel u v ≡ true
  parallel_down t s u v t_ahead s_ahead over_u over_v e =
      let to_u = parallel_from_turn t u (covered_turn t u over_u) in
      let to_t = parallel_from_turn s t (no_turn_back t s (turn_from_parallel t s e)) in
      let to_v = parallel_from_turn s v (covered_turn s v over_v) in
      parallel_through t u v t_ahead to_u (parallel_through s t v s_ahead to_t to_v)

  -- ---- nodes from units
  pub left_end_node : (u : Segment) → IsUnit marked u → IsTrue (is_node (segments_of_marked marked) (whole u.left))
  left_end_node u unit = node_at_end (segments_of_marked marked) (whole u.left) (end_from_along marked u u.left unit.from_end)

  pub right_end_node : (u : Segment) → IsUnit marked u → IsTrue (is_node (segments_of_marked marked) (whole u.right))
  right_end_node u unit = node_at_end (segments_of_marked marked) (whole u.right) (end_from_along marked u u.right unit.to_end)

  -- a place on two units that are not parallel is a node
  pub crossing_node : (u v : Segment) → IsUnit marked u → IsUnit marked v → (p : Point) → pos 0 <ℤ p.w → IsTrue (is_on u p) → IsTrue (is_on v p) → is_parallel u v ≡ false → IsTrue (is_node (segments_of_marked marked) p)
  crossing_node u v is_u is_v p hp on_u on_v crossed =
      let t = holder_of u is_u in
      let s = holder_of v is_v in
      crossing_is_node (segments_of_marked marked) t.of.segment s.of.segment p (contains_map (λ (m : Marked). m.segment) marked t.of t.among) (contains_map (λ (m : Marked). m.segment) marked s.of s.among)
      (covered_holds t.of.segment u is_u t.cover p hp on_u) (covered_holds s.of.segment v is_v s.cover p hp on_v)
      (false_from_ne_true (is_parallel t.of.segment s.of.segment) (λ e. both_ways (is_parallel u v) crossed (parallel_down t.of.segment s.of.segment u v t.ahead s.ahead t.cover s.cover e)))

  -- ---- units from nodes
  -- why a place of a unit is a node: it is an end of a unit, another unit crosses it there, or a border does
  pub data UnitCause (u : Segment) (p : Point) : Type 0 where
    begins : (v : Segment) → IsUnit marked v → IsTrue (same_place p (whole v.left)) → UnitCause u p
    ends : (v : Segment) → IsUnit marked v → IsTrue (same_place p (whole v.right)) → UnitCause u p
    crossed : (v : Segment) → IsUnit marked v → IsTrue (is_on v p) → is_parallel u v ≡ false → UnitCause u p
    cut : (j : ℕ) → Contains columns j → p.x ≡ border j *ℤ p.w → u.left.x <ℤ u.right.x → UnitCause u p

  pub unit_cause : (u : Segment) → IsUnit marked u → (p : Point) → pos 0 <ℤ p.w → IsTrue (is_on u p) → IsTrue (is_node (segments_of_marked marked) p) → UnitCause u p
  unit_cause u unit p hp on_u node = by (holder_of u unit) where
    at_begin : (t : Segment) → (n : Marked) × Contains marked n × (n.segment ≡ t) → IsTrue (same_place p (whole t.left)) → UnitCause u p
    at_begin t (n, c, e) here = let v = first_unit marked n c (goes_ahead n c) in begins v.seg v.unit (subst (λ (w : WholePoint). IsTrue (same_place p (whole w))) (sym (v.begins ∙ ap (λ s. s.left) e)) here)

    at_end : (t : Segment) → (n : Marked) × Contains marked n × (n.segment ≡ t) → IsTrue (same_place p (whole t.right)) → UnitCause u p
    at_end t (n, c, e) here = let v = last_unit marked n c (goes_ahead n c) in ends v.seg v.unit (subst (λ (w : WholePoint). IsTrue (same_place p (whole w))) (sym (v.ends ∙ ap (λ s. s.right) e)) here)

    on_other : (h : Holder marked u) (t : Segment) → (n : Marked) × Contains marked n × (n.segment ≡ t) → is_parallel h.of.segment t ≡ false → IsTrue (is_on t p) → UnitCause u p
    on_other h t (n, c, e) apart on_t =
        let v = unit_holding marked n c (goes_ahead n c) p hp (subst (λ (s : Segment). IsTrue (is_on s p)) (sym e) on_t) in
        let away : is_parallel h.of.segment n.segment ≡ false = subst (λ (s : Segment). is_parallel h.of.segment s ≡ false) (sym e) apart in
        crossed v.seg v.unit v.held (false_from_ne_true (is_parallel u v.seg) (λ f. both_ways (is_parallel h.of.segment n.segment) away (parallel_up h.of.segment n.segment u v.seg unit v.unit h.cover v.cover f)))

    by_cause : (h : Holder marked u) → NodeCause (segments_of_marked marked) h.of.segment p → UnitCause u p
    by_cause h (at_left t c here) = at_begin t (from_map (λ (m : Marked). m.segment) marked t c) here
    by_cause h (at_right t c here) = at_end t (from_map (λ (m : Marked). m.segment) marked t c) here
    by_cause h (across t c apart on_t) = on_other h t (from_map (λ (m : Marked). m.segment) marked t c) apart on_t
    by_cause h (over_border j c e wide) =
        cut j c e (wide_too u h.of.segment unit.forward (no_turn_back h.of.segment u (covered_turn h.of.segment u h.cover)) (not-true _ (false_eq h.of.segment.left.x h.of.segment.right.x wide)))

    by : Holder marked u → UnitCause u p
    by h = by_cause h (node_cause (segments_of_marked marked) h.of.segment h.ahead p node)

  -- ---- each node is on a unit
  on_one : (p : Point) → pos 0 <ℤ p.w → (t : Segment) → (n : Marked) × Contains marked n × (n.segment ≡ t) → IsTrue (is_on t p) → (u : Segment) × IsUnit marked u × IsTrue (is_on u p)
  on_one p hp t (n, c, e) on_t = let v = unit_holding marked n c (goes_ahead n c) p hp (subst (λ (s : Segment). IsTrue (is_on s p)) (sym e) on_t) in (v.seg, v.unit, v.held)

  module _ (p : Point) (hp : pos 0 <ℤ p.w) where
    abbrev OnUnit : Type 0
    OnUnit = (u : Segment) × IsUnit marked u × IsTrue (is_on u p)

    held_somewhere : (t : Segment) → Contains (segments_of_marked marked) t → IsTrue (is_on t p) → OnUnit
    held_somewhere t c on_t = on_one p hp t (from_map (λ (m : Marked). m.segment) marked t c) on_t

    from_end : IsTrue (is_end (segments_of_marked marked) p) → OnUnit
    from_end e =
        let which = Any-from_list_any (λ s. same_place p (whole s.left) || same_place p (whole s.right)) (segments_of_marked marked) e in
        let there = any_contains (λ (s : Segment). (same_place p (whole s.left) || same_place p (whole s.right)) ≡ true) (segments_of_marked marked) which in
        by which.1 (from_map (λ (m : Marked). m.segment) marked which.1 there) (or_cases (same_place p (whole which.1.left)) (same_place p (whole which.1.right)) which.4)
      where
        at_left_of : (n : Marked) → Contains marked n → IsTrue (same_place p (whole n.segment.left)) → OnUnit
        at_left_of n c e = let v = unit_holding marked n c (goes_ahead n c) p hp (on_same n.segment p (whole n.segment.left) hp one_positive e ∙ left_held marked n c (goes_ahead n c)) in (v.seg, v.unit, v.held)

        at_right_of : (n : Marked) → Contains marked n → IsTrue (same_place p (whole n.segment.right)) → OnUnit
        at_right_of n c e = let v = unit_holding marked n c (goes_ahead n c) p hp (on_same n.segment p (whole n.segment.right) hp one_positive e ∙ right_held marked n c (goes_ahead n c)) in (v.seg, v.unit, v.held)

        by : (t : Segment) → (n : Marked) × Contains marked n × (n.segment ≡ t) → (same_place p (whole t.left) ≡ true) ⊎ (same_place p (whole t.right) ≡ true) → OnUnit
        by t (n, c, e) (inl f) = at_left_of n c (subst (λ (s : Segment). IsTrue (same_place p (whole s.left))) (sym e) f)
        by t (n, c, e) (inr f) = at_right_of n c (subst (λ (s : Segment). IsTrue (same_place p (whole s.right))) (sym e) f)

    from_crossing : IsTrue (is_crossing (segments_of_marked marked) p) → OnUnit
    from_crossing e =
        let which = Any-from_list_any (λ t. is_on t p && list_any (λ u. is_on u p && not (is_parallel t u)) (segments_of_marked marked)) (segments_of_marked marked) e in
        held_somewhere which.1 (any_contains (λ (t : Segment). (is_on t p && list_any (λ u. is_on u p && not (is_parallel t u)) (segments_of_marked marked)) ≡ true) (segments_of_marked marked) which)
        (and_parts (is_on which.1 p) (list_any (λ u. is_on u p && not (is_parallel which.1 u)) (segments_of_marked marked)) which.4).0

    from_border : IsTrue (is_on_border (segments_of_marked marked) p) → OnUnit
    from_border e =
        let parts = and_parts (list_any (λ k. int_eq p.x (border k *ℤ p.w)) columns) (list_any (λ t. is_on t p && not (is_vertical t)) (segments_of_marked marked)) e in
        let which = Any-from_list_any (λ t. is_on t p && not (is_vertical t)) (segments_of_marked marked) parts.1 in
        held_somewhere which.1 (any_contains (λ (t : Segment). (is_on t p && not (is_vertical t)) ≡ true) (segments_of_marked marked) which) (and_parts (is_on which.1 p) (not (is_vertical which.1)) which.4).0

    pub node_on_unit : IsTrue (is_node (segments_of_marked marked) p) → (u : Segment) × IsUnit marked u × IsTrue (is_on u p)
    node_on_unit node = by (or_cases (is_end (segments_of_marked marked) p || is_crossing (segments_of_marked marked) p) (is_on_border (segments_of_marked marked) p) node) where
      by_two : (is_end (segments_of_marked marked) p ≡ true) ⊎ (is_crossing (segments_of_marked marked) p ≡ true) → OnUnit
      by_two (inl f) = from_end f
      by_two (inr f) = from_crossing f

      by : ((is_end (segments_of_marked marked) p || is_crossing (segments_of_marked marked) p) ≡ true) ⊎ (is_on_border (segments_of_marked marked) p ≡ true) → OnUnit
      by (inl e) = by_two (or_cases (is_end (segments_of_marked marked) p) (is_crossing (segments_of_marked marked) p) e)
      by (inr e) = from_border e
