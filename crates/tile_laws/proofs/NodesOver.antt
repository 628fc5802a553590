-- The last node on a segment that is not right of an x, and the first that is right of it.
use Rattle.std.specs.Prelude.{◌≡◌, pos, ◌*ℤ◌, ◌≤ℤ◌, ◌<ℤ◌, int_le, int_lt, Bool, true, ◌&&◌, IsTrue, List, Contains}
use Rattle.std.proofs.Common.{sym, ◌∙◌, arith}
use Rattle.std.proofs.lemmas.Int.{ints}
use Rattle.std.proofs.lemmas.Bool.{and_parts, and_from}
use Rattle.std.specs.declared.cmp.Ordering.TheVariants.{Less}
use Rattle.overlay_terms.specs.Plane.{Point, Segment, whole_cmp, point_cmp, same_place, is_on}
use Rattle.overlay_terms.specs.Tiles.{is_node}
use Rattle.overlay_terms.proofs.InputNumbers.{le_true, lt_true, true_le, true_lt}
use Rattle.overlay_terms.proofs.PlaceLemmas.{places_alike}
use Rattle.exact_point.proofs.ByX.{most_after_most, less_before_most}
use Rattle.exact_point.proofs.PlaceOrder.{alike_left, alike_right, on_same}
use Rattle.exact_point.proofs.SameNodes.{node_alike}
use Rattle.tile_laws.proofs.Candidates.{candidates, IsAmong, node_among}
use Rattle.tile_laws.proofs.NextNode.{IsLast, last_of}
use Rattle.tile_laws.proofs.LastPlace.{Rises, Falls, rising, falling}

-- a node on a segment, its denominator positive
pub record IsNodeOn (segments : List Segment) (s : Segment) (c : Point) : Type 0 where
  pub positive : pos 0 <ℤ c.w
  pub on_segment : IsTrue (is_on s c)
  pub node : IsTrue (is_node segments c)

-- the same, as a test
abbrev pub is_node_on : List Segment → Segment → Point → Bool
is_node_on segments s c = int_lt (pos 0) c.w && (is_on s c && is_node segments c)

-- what the test says
pub node_on_from : (segments : List Segment) (s : Segment) (c : Point) → is_node_on segments s c ≡ true → IsNodeOn segments s c
node_on_from segments s c e =
    let parts = and_parts (int_lt (pos 0) c.w) (is_on s c && is_node segments c) e in
    let more = and_parts (is_on s c) (is_node segments c) parts.1 in
    record { positive = lt_true (pos 0) c.w parts.0; on_segment = more.0; node = more.1 }

-- when the test holds
pub node_on_test : (segments : List Segment) (s : Segment) (c : Point) → IsNodeOn segments s c → is_node_on segments s c ≡ true
node_on_test segments s c h =
    and_from (int_lt (pos 0) c.w) (is_on s c && is_node segments c) (true_lt (pos 0) c.w h.positive) (and_from (is_on s c) (is_node segments c) h.on_segment h.node)

-- at the place of a node on a segment is one
pub node_on_same : (segments : List Segment) (s : Segment) (z c : Point) → IsNodeOn segments s z → pos 0 <ℤ c.w → IsTrue (same_place z c) → IsNodeOn segments s c
node_on_same segments s z c h hc e = record {
  positive = hc;
  on_segment = sym (on_same s z c h.positive hc e) ∙ h.on_segment;
  node = sym (node_alike z c h.positive hc e segments) ∙ h.node;
}

-- not right of the x of q
abbrev pub is_up_to : Point → Point → Bool
is_up_to q c = int_le (c.x *ℤ q.w) (q.x *ℤ c.w)

-- right of the x of q
abbrev pub is_past : Point → Point → Bool
is_past q c = int_lt (q.x *ℤ c.w) (c.x *ℤ q.w)

-- the last node not right of the x of q: all nodes not right of it are not after it
pub record IsLastUpTo (segments : List Segment) (s : Segment) (q p : Point) : Type 0 where
  pub here : IsNodeOn segments s p
  pub up_to : (p.x *ℤ q.w) ≤ℤ (q.x *ℤ p.w)
  pub last : (z : Point) → IsNodeOn segments s z → (z.x *ℤ q.w) ≤ℤ (q.x *ℤ z.w) → point_cmp p z ≡ Less → ⊥

-- the first node right of the x of q: all nodes right of it are not before it
pub record IsFirstPast (segments : List Segment) (s : Segment) (q r : Point) : Type 0 where
  pub here : IsNodeOn segments s r
  pub past : (q.x *ℤ r.w) <ℤ (r.x *ℤ q.w)
  pub first : (z : Point) → IsNodeOn segments s z → (q.x *ℤ z.w) <ℤ (z.x *ℤ q.w) → point_cmp z r ≡ Less → ⊥

module _ (segments : List Segment) (s : Segment) (q : Point) (hq : pos 0 <ℤ q.w) (ahead : whole_cmp s.left s.right ≡ Less) (among : Contains segments s) where
  -- the two tests
  abbrev is_left : Point → Bool
  is_left c = is_node_on segments s c && is_up_to q c

  abbrev is_right : Point → Bool
  is_right c = is_node_on segments s c && is_past q c

  left_parts : (c : Point) → is_left c ≡ true → IsNodeOn segments s c × ((c.x *ℤ q.w) ≤ℤ (q.x *ℤ c.w))
  left_parts c e =
      let parts = and_parts (is_node_on segments s c) (is_up_to q c) e in
      (node_on_from segments s c parts.0, le_true (c.x *ℤ q.w) (q.x *ℤ c.w) parts.1)

  right_parts : (c : Point) → is_right c ≡ true → IsNodeOn segments s c × ((q.x *ℤ c.w) <ℤ (c.x *ℤ q.w))
  right_parts c e =
      let parts = and_parts (is_node_on segments s c) (is_past q c) e in
      (node_on_from segments s c parts.0, lt_true (q.x *ℤ c.w) (c.x *ℤ q.w) parts.1)

  -- a candidate at the place of a node
  candidate : (z : Point) → IsNodeOn segments s z → IsAmong (candidates segments s) z
  candidate z h = node_among segments s ahead z h.on_segment h.node

  -- the x of a candidate is that of the node
  x_same : (z c : Point) → pos 0 <ℤ z.w → pos 0 <ℤ c.w → IsTrue (same_place z c) → z.x *ℤ c.w ≡ c.x *ℤ z.w
  x_same z c hz hc e = (places_alike z c hz hc e).x_level

  -- a candidate of a node not right of q passes the first test
  left_passes : (z : Point) (h : IsNodeOn segments s z) → (z.x *ℤ q.w) ≤ℤ (q.x *ℤ z.w) → (c : Point) → pos 0 <ℤ c.w → IsTrue (same_place z c) → is_left c ≡ true
  left_passes z h l c hc e =
      let x : z.x *ℤ c.w ≡ c.x *ℤ z.w = x_same z c h.positive hc e in
      and_from (is_node_on segments s c) (is_up_to q c) (node_on_test segments s c (node_on_same segments s z c h hc e))
      (true_le (c.x *ℤ q.w) (q.x *ℤ c.w) (most_after_most c.x c.w z.x z.w q.x q.w hc h.positive hq (omega (arith, ints)) l))

  -- a candidate of a node right of q passes the second
  right_passes : (z : Point) (h : IsNodeOn segments s z) → (q.x *ℤ z.w) <ℤ (z.x *ℤ q.w) → (c : Point) → pos 0 <ℤ c.w → IsTrue (same_place z c) → is_right c ≡ true
  right_passes z h l c hc e =
      let x : z.x *ℤ c.w ≡ c.x *ℤ z.w = x_same z c h.positive hc e in
      and_from (is_node_on segments s c) (is_past q c) (node_on_test segments s c (node_on_same segments s z c h hc e))
      (true_lt (q.x *ℤ c.w) (c.x *ℤ q.w) (less_before_most q.x q.w z.x z.w c.x c.w hq h.positive hc l (omega (arith, ints))))

  -- from one node not right of q to the last
  pub last_up_to : (z : Point) → IsNodeOn segments s z → (z.x *ℤ q.w) ≤ℤ (q.x *ℤ z.w) → (p : Point) × IsLastUpTo segments s q p
  last_up_to z h l =
      let a = candidate z h in
      let found = last_of is_left Rises (rising is_left (λ c e. (left_parts c e).0.positive)) (candidates segments s) a.point a.among (left_passes z h l a.point a.positive a.at) in
      let p : Point = found.0 in
      let is : IsLast is_left Rises (candidates segments s) p = found.1 in
      let parts = left_parts p is.passes in (
        p,
        record {
          here = parts.0;
          up_to = parts.1;
          last = λ y g m up.
              let b = candidate y g in
              is.none_after b.point b.among (left_passes y g m b.point b.positive b.at) (sym (alike_right p y b.point parts.0.positive g.positive b.positive b.at) ∙ up);
        },
      )

  -- from one node right of q to the first
  pub first_past : (z : Point) → IsNodeOn segments s z → (q.x *ℤ z.w) <ℤ (z.x *ℤ q.w) → (r : Point) × IsFirstPast segments s q r
  first_past z h l =
      let a = candidate z h in
      let found = last_of is_right Falls (falling is_right (λ c e. (right_parts c e).0.positive)) (candidates segments s) a.point a.among (right_passes z h l a.point a.positive a.at) in
      let r : Point = found.0 in
      let is : IsLast is_right Falls (candidates segments s) r = found.1 in
      let parts = right_parts r is.passes in (
        r,
        record {
          here = parts.0;
          past = parts.1;
          first = λ y g m down.
              let b = candidate y g in
              is.none_after b.point b.among (right_passes y g m b.point b.positive b.at) (sym (alike_left y b.point r g.positive b.positive parts.0.positive b.at) ∙ down);
        },
      )
