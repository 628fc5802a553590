-- Pieces by units: neighbouring nodes of a unit, and which segments hold the middle of such a piece.
use Rattle.std.proofs.Common.{◌≡◌, ℕ, pos, ◌+◌, ◌%◌, ◌==◌, ◌<ℤ◌, true, false, Bool, not, ◌&&◌, cond, List, [], ◌∷◌, refl, ap, sym, ◌∙◌, subst}
use Rattle.std.specs.Prelude.{IsTrue, Contains, count_by}
use Rattle.std.specs.Cmp.{both_ways}
use Rattle.std.specs.Ordering.{is_lt}
use Rattle.std.proofs.lemmas.Bool as bools
use Rattle.std.proofs.lemmas.List.Sums.{sum_by-cons}
use Rattle.std.specs.declared.cmp.Ordering.TheVariants.{Less}
use Rattle.overlay_terms.specs.Plane.{Point, Segment, whole, whole_cmp, point_cmp, same_place, height_over, is_on}
use Rattle.overlay_terms.specs.Layers.{Marked}
use Rattle.overlay_terms.specs.Tiles.{IsPiece, is_node, is_parallel, midpoint}
use Rattle.overlay_terms.proofs.InputNumbers.{middle_positive}
use Rattle.overlay_terms.proofs.Lists.{contains_map, contains_first, contains_rest, from_map}
use Rattle.exact_point.proofs.OnLine.{within_on, between_on, after_left, before_right, on_line, middle_line, middle_after, middle_before}
use Rattle.exact_point.proofs.PlaceOrder.{one_positive, less_through, not_after_less, not_before_says, alike_left, alike_right, Way, before, at, after, way_of}
use Rattle.arrange.specs.Marked.{AllProper}
use Rattle.arrange.specs.Units.{covers, cover_bits, IsUnit}
use Rattle.arrange.specs.Arrangement.{on_bits}
use Rattle.arrange.proofs.UnitCover.{level_too, not_lt, UnitAt, unit_from, Holding, unit_holding}
use Rattle.arrange.proofs.UnitMeeting.{Meeting, one, follows, leads, units_meet, parallel_collinear}
use Rattle.arrange.proofs.UnitNodes.{segments_of_marked, Holder, holder_of, goes_ahead, covered_holds, right_end_node, crossing_node}

-- two nodes on a unit, the first before the second, with no node strictly between on it
pub record IsUnitPiece (marked : List Marked) (u : Segment) (p r : Point) : Type 0 where
  pub unit : IsUnit marked u
  pub from_positive : pos 0 <ℤ p.w
  pub to_positive : pos 0 <ℤ r.w
  pub from_on : IsTrue (is_on u p)
  pub to_on : IsTrue (is_on u r)
  pub from_node : IsTrue (is_node (segments_of_marked marked) p)
  pub to_node : IsTrue (is_node (segments_of_marked marked) r)
  pub in_order : point_cmp p r ≡ Less
  pub none_between : (q : Point) → pos 0 <ℤ q.w → IsTrue (is_on u q) → point_cmp p q ≡ Less → point_cmp q r ≡ Less → ¬ (IsTrue (is_node (segments_of_marked marked) q))

module _ (marked : List Marked) (proper : AllProper marked) where
  -- ---- a piece lies on a unit
  pub piece_on_unit : (p r : Point) → IsPiece (segments_of_marked marked) p r → (u : Segment) × IsUnitPiece marked u p r
  piece_on_unit p r piece = by (from_map (λ (m : Marked). m.segment) marked piece.support piece.among) where
    hp : pos 0 <ℤ p.w
    hp = piece.from_positive

    hr : pos 0 <ℤ r.w
    hr = piece.to_positive

    on_segment : (m : Marked) → Contains marked m → IsTrue (is_on m.segment p) → IsTrue (is_on m.segment r)
        → ((q : Point) → pos 0 <ℤ q.w → IsTrue (is_on m.segment q) → point_cmp p q ≡ Less → point_cmp q r ≡ Less → ¬ (IsTrue (is_node (segments_of_marked marked) q))) → (u : Segment) × IsUnitPiece marked u p r
    on_segment m c on_p on_r none = (
      u.seg,
      record {
        unit = u.unit;
        from_positive = hp;
        to_positive = hr;
        from_on = within_on u.seg p hp (level p on_p) (not_before_says p (whole u.seg.left) u.passes) (not_after_less p (whole u.seg.right) hp one_positive goes_on);
        to_on = within_on u.seg r hr (level r on_r) (λ e. not_before_says p (whole u.seg.left) u.passes (less_through p r (whole u.seg.left) hp hr one_positive piece.in_order e)) not_past;
        from_node = piece.from_node;
        to_node = piece.to_node;
        in_order = piece.in_order;
        none_between = λ q hq on_q low high. none q hq (covered_holds marked proper m.segment u.seg u.unit u.cover q hq on_q) low high;
      },
    ) where
      ahead : whole_cmp m.segment.left m.segment.right ≡ Less
      ahead = goes_ahead marked proper m c

      before_end : point_cmp p (whole m.segment.right) ≡ Less
      before_end = here (way_of p (whole m.segment.right) hp one_positive) where
        here : Way p (whole m.segment.right) → point_cmp p (whole m.segment.right) ≡ Less
        here (before e) = e
        here (at e) = absurd (before_right m.segment r hr on_r (sym (alike_left p (whole m.segment.right) r hp one_positive hr e) ∙ piece.in_order))
        here (after e) = absurd (before_right m.segment p hp on_p e)

      u : UnitAt marked m.segment (λ v. not (is_lt (point_cmp p (whole v))))
      u = unit_from marked m c ahead p hp on_p before_end

      level : (q : Point) → IsTrue (is_on m.segment q) → height_over u.seg q ≡ pos 0
      level q on_q = level_too m.segment u.seg ahead u.cover q (on_line m.segment q on_q)

      goes_on : point_cmp p (whole u.seg.right) ≡ Less
      goes_on = not_lt (point_cmp p (whole u.seg.right)) u.fails

      not_past : point_cmp (whole u.seg.right) r ≡ Less → ⊥
      not_past e =
          none (whole u.seg.right) one_positive (bools.and_parts (is_on m.segment (whole u.seg.left)) (is_on m.segment (whole u.seg.right)) u.cover).1 goes_on e
          (right_end_node marked proper u.seg u.unit)

    by : (n : Marked) × Contains marked n × (n.segment ≡ piece.support) → (u : Segment) × IsUnitPiece marked u p r
    by (m, c, e) =
        let moved : (q : Point) → IsTrue (is_on piece.support q) → IsTrue (is_on m.segment q) = λ q. subst (λ (s : Segment). IsTrue (is_on s q)) (sym e) in
        let back : (q : Point) → IsTrue (is_on m.segment q) → IsTrue (is_on piece.support q) = λ q. subst (λ (s : Segment). IsTrue (is_on s q)) e in
        on_segment m c (moved p piece.from_on) (moved r piece.to_on) (λ q hq on_q low high. piece.none_between q hq (back q on_q) low high)

  -- ---- neighbouring nodes on a unit are a piece
  pub unit_piece_is_piece : (u : Segment) (p r : Point) → IsUnitPiece marked u p r → IsPiece (segments_of_marked marked) p r
  unit_piece_is_piece u p r piece = by (holder_of marked proper u piece.unit) where
    by : Holder marked u → IsPiece (segments_of_marked marked) p r
    by h =
        let t : Segment = h.of.segment in
        let on_p = covered_holds marked proper t u piece.unit h.cover p piece.from_positive piece.from_on in
        let on_r = covered_holds marked proper t u piece.unit h.cover r piece.to_positive piece.to_on in
        record {
          support = t;
          among = contains_map (λ (m : Marked). m.segment) marked h.of h.among;
          from_positive = piece.from_positive;
          to_positive = piece.to_positive;
          from_on = on_p;
          to_on = on_r;
          from_node = piece.from_node;
          to_node = piece.to_node;
          in_order = piece.in_order;
          none_between = λ q hq on_q low high. piece.none_between q hq
              (between_on u p q r piece.from_positive hq piece.to_positive piece.from_on piece.to_on (level_too t u h.ahead h.cover q (on_line t q on_q))
              (not_after_less p q piece.from_positive hq low) (not_after_less q r hq piece.to_positive high))
              low high;
        }

  -- ---- what holds the middle
  module _ (u : Segment) (p r : Point) (piece : IsUnitPiece marked u p r) where
    abbrev mid : Point
    mid = midpoint p r

    hm : pos 0 <ℤ mid.w
    hm = middle_positive p r piece.from_positive piece.to_positive

    after_p : point_cmp p mid ≡ Less
    after_p = middle_after p r piece.from_positive piece.in_order

    before_r : point_cmp mid r ≡ Less
    before_r = middle_before p r piece.to_positive piece.in_order

    middle_on_unit : IsTrue (is_on u mid)
    middle_on_unit =
        between_on u p mid r piece.from_positive hm piece.to_positive piece.from_on piece.to_on (middle_line u p r (on_line u p piece.from_on) (on_line u r piece.to_on))
        (not_after_less p mid piece.from_positive hm after_p) (not_after_less mid r hm piece.to_positive before_r)

    not_at_left : IsTrue (same_place mid (whole u.left)) → ⊥
    not_at_left e = after_left u p piece.from_on (sym (alike_right p mid (whole u.left) piece.from_positive hm one_positive e) ∙ after_p)

    not_at_right : IsTrue (same_place mid (whole u.right)) → ⊥
    not_at_right e = before_right u r piece.to_positive piece.to_on (sym (alike_left mid (whole u.right) r hm one_positive piece.to_positive e) ∙ before_r)

    -- a segment that holds the middle of a piece of a unit covers the unit, and the other way round
    pub middle_cover : (m : Marked) → Contains marked m → is_on m.segment (midpoint p r) ≡ covers m.segment u
    middle_cover m c = both_ways (is_on m.segment mid) (covers m.segment u) forth back where
      forth : is_on m.segment mid ≡ true → covers m.segment u ≡ true
      forth on_mid = whether (is_parallel u v.seg) refl
        where
          v : Holding marked m.segment mid
          v = unit_holding marked m c (goes_ahead marked proper m c) mid hm on_mid

          met : Meeting u v.seg mid → covers m.segment u ≡ true
          met (one e) = subst (λ (s : Segment). covers m.segment s ≡ true) (sym e) v.cover
          met (follows e f) = absurd (not_at_right e)
          met (leads e f) = absurd (not_at_left e)

          whether : (b : Bool) → is_parallel u v.seg ≡ b → covers m.segment u ≡ true
          whether true e = met (units_meet marked u v.seg piece.unit v.unit (parallel_collinear u v.seg piece.unit.forward v.unit.forward mid hm middle_on_unit v.held e) mid hm middle_on_unit v.held)
          whether false e = absurd (piece.none_between mid hm middle_on_unit after_p before_r (crossing_node marked proper u v.seg piece.unit v.unit mid hm middle_on_unit v.held e))

      back : covers m.segment u ≡ true → is_on m.segment mid ≡ true
      back cover = covered_holds marked proper m.segment u piece.unit cover mid hm middle_on_unit

    same_counts : (f g : Marked → Bool) (xs : List Marked) → ((m : Marked) → Contains xs m → f m ≡ g m) → count_by f xs ≡ count_by g xs
    same_counts f g [] h = refl
    same_counts f g (x ∷ xs) h =
        sum_by-cons (λ m. cond (f m) 1 0) x xs
        ∙ ap (λ b. cond b 1 0 + count_by f xs) (h x (contains_first x xs))
        ∙ ap (λ n. cond (g x) 1 0 + n) (same_counts f g xs (λ m c. h m (contains_rest x xs m c)))
        ∙ sym (sum_by-cons (λ m. cond (g m) 1 0) x xs)

    -- the layers over the middle of a piece are those over its unit
    pub middle_bits : (k : ℕ) → on_bits marked (midpoint p r) k ≡ cover_bits marked u k
    middle_bits k =
        ap (λ n. n % 2 == 1)
        (same_counts (λ m. (m.layer == k) && is_on m.segment mid) (λ m. (m.layer == k) && covers m.segment u) marked (λ m c. ap (λ b. (m.layer == k) && b) (middle_cover m c)))
