-- A piece on a segment that begins in the column is found among its places: its ends are neighbours there.
use Rattle.std.proofs.Common.{◌≡◌, ◌≢◌, ℕ, pos, ◌+◌, ◌<◌, ◌≤◌, ◌-ℤ◌, ◌*ℤ◌, ◌<ℤ◌, ◌≤ℤ◌, ◌⊎◌, inl, inr, int_le, int_lt, List, length, get_or, sym, ◌∙◌, subst, arith}
use Rattle.std.specs.Prelude.{IsTrue, All, Contains, Any}
use Rattle.std.proofs.lemmas.Int.{ints}
use Rattle.std.proofs.lemmas.Bool.{and_parts, and_from, cases_lt, cases_eq}
use Rattle.std.proofs.lemmas.List.{get_or_read}
use Rattle.std.proofs.lemmas.List.Elements.{All-contains, All-map}
use Rattle.std.specs.declared.cmp.Ordering.TheVariants.{Less}
use Rattle.overlay_terms.specs.Plane.{Point, Segment, point_cmp, same_place, is_on}
use Rattle.overlay_terms.specs.Column.{border, is_in_column}
use Rattle.overlay_terms.specs.Layers.{Marked}
use Rattle.overlay_terms.specs.Tiles.{is_node, IsPiece, Input}
use Rattle.overlay_terms.specs.TileLaws.{IsInput, IsProper}
use Rattle.overlay_terms.proofs.InputNumbers.{true_le, lt_true, x_in_order, least_through}
use Rattle.overlay_terms.proofs.InputNodes.{IsIn, is_in, ends_within}
use Rattle.overlay_terms.proofs.Whole.{no_turn}
use Rattle.exact_point.proofs.OnLine.{parallel_from_turn}
use Rattle.exact_point.proofs.PlaceOrder.{same_self, alike_left, alike_right, not_before_self, not_after_less}
use Rattle.exact_point.proofs.Nodes.{left_among, right_among}
use Rattle.arrange.specs.Arrangement.{input_segments, is_in_closed_column}
use Rattle.arrange.specs.NamedPlaces.{spot, AreAlong}
use Rattle.arrange.specs.declared.named_place.NamedPlace.{NamedPlace}
use Rattle.arrange.proofs.NodeSound.{IsKnown, named_is_node}
use Rattle.arrange.proofs.SortedPlaces.{spot_positive}

-- a segment of an input is proper
pub proper_among : (input : Input) (s : Segment) → IsInput input → Contains (input_segments input) s → IsProper s
proper_among input s valid among = All-contains IsProper (input_segments input) s (All-map IsProper (λ (m : Marked). m.segment) input.marked valid.proper) among

-- a segment of an input is known to it
pub known_among : (input : Input) (s : Segment) → IsInput input → Contains (input_segments input) s → IsKnown input s
known_among input s valid among = record {
  holder = s;
  among = among;
  same_way = parallel_from_turn s s (no_turn (s.right.x -ℤ s.left.x) (s.right.y -ℤ s.left.y));
  ahead = (proper_among input s valid among).first;
  holds = λ p h on. on;
  left_end = left_among (input_segments input) s among;
  right_end = right_among (input_segments input) s among;
}

-- a column is part of the closed column
closed_from : (k : ℕ) (p : Point) → IsTrue (is_in_column k p) → IsTrue (is_in_closed_column k p)
closed_from k p c =
    let parts = and_parts (int_le (border k *ℤ p.w) p.x) (int_lt p.x (border (k + 1) *ℤ p.w)) c in
    and_from (int_le (border k *ℤ p.w) p.x) (int_le p.x (border (k + 1) *ℤ p.w)) parts.0
    (true_le p.x (border (k + 1) *ℤ p.w) (at_most (lt_true p.x (border (k + 1) *ℤ p.w) parts.1)))
  where
    at_most : p.x <ℤ (border (k + 1) *ℤ p.w) → p.x ≤ℤ (border (k + 1) *ℤ p.w)
    at_most h = omega (arith, ints)

-- a piece that begins in a column ends in the closed column
closed_end : (k : ℕ) (segments : List Segment) (p r : Point) → All IsProper segments → pos 0 <ℤ p.w → IsTrue (is_in_column k p) → IsPiece segments p r → IsTrue (is_in_closed_column k r)
closed_end k segments p r proper hp begins piece =
    let within : IsIn k p = is_in k p hp begins in
    and_from (int_le (border k *ℤ r.w) r.x) (int_le r.x (border (k + 1) *ℤ r.w))
    (true_le (border k *ℤ r.w) r.x (least_through p r (border k) hp piece.to_positive (x_in_order p r piece.in_order) within.low))
    (true_le r.x (border (k + 1) *ℤ r.w) (ends_within k segments p r proper within piece))

-- two points are at neighbouring places of a list
pub record AreNextTo (list : List NamedPlace) (p r : Point) : Type 0 where
  pub at : ℕ
  pub default : NamedPlace
  pub within : at + 1 < length list
  pub first : IsTrue (same_place p (spot (get_or list at default)))
  pub second : IsTrue (same_place r (spot (get_or list (at + 1) default)))

module _ (input : Input) (s : Segment) (valid : IsInput input) (among : Contains (input_segments input) s) (list : List NamedPlace) (along : AreAlong input s list) (p r : Point) (hp : pos 0 <ℤ p.w) (hr : pos 0 <ℤ r.w)
    (on_p : IsTrue (is_on s p)) (on_r : IsTrue (is_on s r)) (node_p : IsTrue (is_node (input_segments input) p)) (node_r : IsTrue (is_node (input_segments input) r)) (in_order : point_cmp p r ≡ Less)
    (none : (q : Point) → pos 0 <ℤ q.w → IsTrue (is_on s q) → point_cmp p q ≡ Less → point_cmp q r ≡ Less → IsTrue (is_node (input_segments input) q) → ⊥)
    (begins : IsTrue (is_in_column input.column p)) where
  from_there : Any (λ z. IsTrue (same_place p (spot z))) list
  from_there = along.complete p (record { positive = hp; on_segment = on_p; in_column = closed_from input.column p begins; node = node_p })

  to_there : Any (λ z. IsTrue (same_place r (spot z))) list
  to_there = along.complete r (record {
    positive = hr;
    on_segment = on_r;
    in_column = closed_end input.column (input_segments input) p r (All-map IsProper (λ (m : Marked). m.segment) input.marked valid.proper) hp begins (record {
      support = s;
      among = among;
      from_positive = hp;
      to_positive = hr;
      from_on = on_p;
      to_on = on_r;
      from_node = node_p;
      to_node = node_r;
      in_order = in_order;
      none_between = none;
    });
    node = node_r;
  })

  by_places : (i j : ℕ) (a b : NamedPlace) → i < length list → j < length list → get_or list i a ≡ a → get_or list j b ≡ b → IsTrue (same_place p (spot a)) → IsTrue (same_place r (spot b)) → AreNextTo list p r
  by_places i j a b li lj ea eb at_p at_r = by (cases_lt i j) where
    told : b ≡ get_or list j a
    told = get_or_read list j b lj (sym eb) a

    low : point_cmp (spot a) (spot b) ≡ Less
    low =
        sym (alike_left p (spot a) (spot b) hp (spot_positive a) (spot_positive b) at_p)
        ∙ sym (alike_right p r (spot b) hp hr (spot_positive b) at_r) ∙ in_order

    next : (i + 1 ≡ j) ⊎ (i + 1 ≢ j) → i < j → AreNextTo list p r
    next (inl e) h =
        let Q : NamedPlace → Type 0 = λ z. IsTrue (same_place r (spot z)) in
        let R : ℕ → Type 0 = λ n. IsTrue (same_place r (spot (get_or list n a))) in
        let S : NamedPlace → Type 0 = λ z. IsTrue (same_place p (spot z)) in
        record { at = i; default = a; within = omega (arith, e, lj); first = subst S (sym ea) at_p; second = subst R (sym e) (subst Q told at_r) }
    next (inr n) h =
        let q : NamedPlace = get_or list (i + 1) a in
        let mid : i + 1 < j = omega (arith, n, h) in
        let inside : i + 1 < length list = omega (arith, mid, lj) in
        let found = along.sound (i + 1) a inside in
        let F : NamedPlace → Type 0 = λ z. point_cmp (spot z) (spot q) ≡ Less in
        let T : NamedPlace → Type 0 = λ z. point_cmp (spot q) (spot z) ≡ Less in
        let from_a : point_cmp (spot a) (spot q) ≡ Less = subst F ea (along.ordered i (i + 1) a (omega arith) inside) in
        let to_b : point_cmp (spot q) (spot b) ≡ Less = subst T (sym told) (along.ordered (i + 1) j a mid lj) in
        absurd (none (spot q) (spot_positive q) found.on_segment
        (alike_left p (spot a) (spot q) hp (spot_positive a) (spot_positive q) at_p ∙ from_a)
        (alike_right (spot q) r (spot b) (spot_positive q) hr (spot_positive b) at_r ∙ to_b)
        (named_is_node input s (known_among input s valid among) (spot q) (spot_positive q) found.on_segment q.name found.offered found.stands))

    back : (j ≡ i) ⊎ (j ≢ i) → j ≤ i → ⊥
    back (inl e) h =
        let Q : ℕ → Type 0 = λ n. b ≡ get_or list n a in
        let R : NamedPlace → Type 0 = λ z. point_cmp (spot a) (spot z) ≡ Less in
        not_before_self (spot a) (spot a) (spot_positive a) (spot_positive a) (same_self (spot a)) (subst R (subst Q e told ∙ ea) low)
    back (inr n) h =
        let F : NamedPlace → Type 0 = λ z. point_cmp (spot (get_or list j a)) (spot z) ≡ Less in
        let T : NamedPlace → Type 0 = λ z. point_cmp (spot z) (spot a) ≡ Less in
        not_after_less (spot a) (spot b) (spot_positive a) (spot_positive b) low
        (subst T (sym told) (subst F ea (along.ordered j i a (omega (arith, n, h)) li)))

    by : (i < j) ⊎ (j ≤ i) → AreNextTo list p r
    by (inl h) = next (cases_eq (i + 1) j) h
    by (inr h) = absurd (back (cases_eq j i) h)

  pub ends_next : AreNextTo list p r
  ends_next = by_places from_there.0 to_there.0 from_there.1 to_there.1 from_there.2 to_there.2 from_there.3 to_there.3 from_there.4 to_there.4
