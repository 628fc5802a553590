-- Neighbours among the places along a segment of the input are the ends of a piece.
use Rattle.std.proofs.Common.{◌≡◌, ◌≢◌, ℕ, pos, ◌+◌, ◌<◌, ◌≤◌, ◌*ℤ◌, ◌<ℤ◌, ◌⊎◌, inl, inr, int_le, List, length, get_or, refl, sym, ◌∙◌, subst, arith}
use Rattle.std.specs.Prelude.{IsTrue, Contains}
use Rattle.std.proofs.lemmas.Bool.{and_parts, and_from, cases_lt, cases_eq}
use Rattle.std.proofs.lemmas.List.{get_or_read}
use Rattle.std.specs.declared.cmp.Ordering.TheVariants.{Less}
use Rattle.overlay_terms.specs.Plane.{Point, Segment, point_cmp, same_place}
use Rattle.overlay_terms.specs.Column.{border}
use Rattle.overlay_terms.specs.Tiles.{IsPiece, Input}
use Rattle.overlay_terms.proofs.InputNumbers.{le_true, true_le, x_in_order, least_through, most_through}
use Rattle.exact_point.proofs.PlaceOrder.{alike_left, alike_right, not_before_self, same_self, not_after_less}
use Rattle.arrange.specs.Arrangement.{input_segments, is_in_closed_column}
use Rattle.arrange.specs.NamedPlaces.{spot, names_along, IsFound, AreAlong}
use Rattle.arrange.specs.declared.named_place.NamedPlace.{NamedPlace}
use Rattle.arrange.proofs.NodeSound.{IsKnown, named_is_node}
use Rattle.arrange.proofs.SortedPlaces.{spot_positive}

-- between two points of a closed column is the closed column
pub closed_between : (k : ℕ) (p q r : Point) → pos 0 <ℤ p.w → pos 0 <ℤ q.w → pos 0 <ℤ r.w → point_cmp p q ≡ Less → point_cmp q r ≡ Less
    → IsTrue (is_in_closed_column k p) → IsTrue (is_in_closed_column k r) → IsTrue (is_in_closed_column k q)
closed_between k p q r hp hq hr low high c d =
    let left = and_parts (int_le (border k *ℤ p.w) p.x) (int_le p.x (border (k + 1) *ℤ p.w)) c in
    let right = and_parts (int_le (border k *ℤ r.w) r.x) (int_le r.x (border (k + 1) *ℤ r.w)) d in
    and_from (int_le (border k *ℤ q.w) q.x) (int_le q.x (border (k + 1) *ℤ q.w))
    (true_le (border k *ℤ q.w) q.x (least_through p q (border k) hp hq (x_in_order p q low) (le_true (border k *ℤ p.w) p.x left.0)))
    (true_le q.x (border (k + 1) *ℤ q.w) (most_through q r (border (k + 1)) hq hr (x_in_order q r high) (le_true r.x (border (k + 1) *ℤ r.w) right.1)))

module _ (input : Input) (s : Segment) (among : Contains (input_segments input) s) (known : IsKnown input s) (list : List NamedPlace) (along : AreAlong input s list) (i : ℕ) (d : NamedPlace) (within : i + 1 < length list) where
  at_first : IsFound input.column s (names_along input s) (get_or list i d)
  at_first = along.sound i d (omega (arith, within))

  at_second : IsFound input.column s (names_along input s) (get_or list (i + 1) d)
  at_second = along.sound (i + 1) d within

  none_at : (q : Point) → pos 0 <ℤ q.w → point_cmp (spot (get_or list i d)) q ≡ Less → point_cmp q (spot (get_or list (i + 1) d)) ≡ Less
      → (j : ℕ) (z : NamedPlace) → j < length list → get_or list j z ≡ z → IsTrue (same_place q (spot z)) → ⊥
  none_at q hq low high j z l is e = by (cases_lt i j) where
    from_first : point_cmp (spot (get_or list i d)) (spot z) ≡ Less
    from_first = sym (alike_right (spot (get_or list i d)) q (spot z) (spot_positive (get_or list i d)) hq (spot_positive z) e) ∙ low

    to_second : point_cmp (spot z) (spot (get_or list (i + 1) d)) ≡ Less
    to_second = sym (alike_left q (spot z) (spot (get_or list (i + 1) d)) hq (spot_positive z) (spot_positive (get_or list (i + 1) d)) e) ∙ high

    told : z ≡ get_or list j d
    told = get_or_read list j z l (sym is) d

    after_second : (i + 1 ≡ j) ⊎ (i + 1 ≢ j) → i < j → ⊥
    after_second (inl f) h =
        let Q : ℕ → Type 0 = λ n. z ≡ get_or list n d in
        let R : NamedPlace → Type 0 = λ y. point_cmp (spot z) (spot y) ≡ Less in
        not_before_self (spot z) (spot z) (spot_positive z) (spot_positive z) (same_self (spot z)) (subst R (sym (subst Q (sym f) told)) to_second)
    after_second (inr n) h =
        let R : NamedPlace → Type 0 = λ y. point_cmp (spot (get_or list (i + 1) d)) (spot y) ≡ Less in
        not_after_less (spot z) (spot (get_or list (i + 1) d)) (spot_positive z) (spot_positive (get_or list (i + 1) d)) to_second
        (subst R (sym told) (along.ordered (i + 1) j d (omega (arith, n, h)) l))

    to_first : (j ≡ i) ⊎ (j ≢ i) → j ≤ i → ⊥
    to_first (inl f) h =
        let Q : ℕ → Type 0 = λ n. z ≡ get_or list n d in
        let R : NamedPlace → Type 0 = λ y. point_cmp (spot y) (spot z) ≡ Less in
        not_before_self (spot z) (spot z) (spot_positive z) (spot_positive z) (same_self (spot z)) (subst R (sym (subst Q f told)) from_first)
    to_first (inr n) h =
        let R : NamedPlace → Type 0 = λ y. point_cmp (spot y) (spot (get_or list i d)) ≡ Less in
        not_after_less (spot (get_or list i d)) (spot z) (spot_positive (get_or list i d)) (spot_positive z) from_first
        (subst R (sym told) (along.ordered j i d (omega (arith, n, h)) (omega (arith, within))))

    by : (i < j) ⊎ (j ≤ i) → ⊥
    by (inl h) = after_second (cases_eq (i + 1) j) h
    by (inr h) = to_first (cases_eq j i) h

  pub neighbours_piece : IsPiece (input_segments input) (spot (get_or list i d)) (spot (get_or list (i + 1) d))
  neighbours_piece = record {
    support = s;
    among = among;
    from_positive = spot_positive (get_or list i d);
    to_positive = spot_positive (get_or list (i + 1) d);
    from_on = at_first.on_segment;
    to_on = at_second.on_segment;
    from_node = named_is_node input s known (spot (get_or list i d)) (spot_positive (get_or list i d)) at_first.on_segment (get_or list i d).name at_first.offered at_first.stands;
    to_node = named_is_node input s known (spot (get_or list (i + 1) d)) (spot_positive (get_or list (i + 1) d)) at_second.on_segment (get_or list (i + 1) d).name at_second.offered at_second.stands;
    in_order = along.ordered i (i + 1) d (omega arith) within;
    none_between = λ q hq on low high node.
        let there = along.complete q (record {
          positive = hq;
          on_segment = on;
          in_column = closed_between input.column (spot (get_or list i d)) q (spot (get_or list (i + 1) d)) (spot_positive (get_or list i d)) hq (spot_positive (get_or list (i + 1) d)) low high at_first.in_column at_second.in_column;
          node = node;
        }) in
        none_at q hq low high there.0 there.1 there.2 there.3 there.4;
  }

  pub neighbours_support : neighbours_piece.support ≡ s
  unfolding neighbours_piece
  neighbours_support = refl
