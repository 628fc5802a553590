-- What makes a place a node, and what a node on a segment is.
use Rattle.std.specs.Prelude.{◌≡◌, ℕ, ℤ, pos, ◌-ℤ◌, ◌*ℤ◌, ◌<ℤ◌, ◌⊎◌, Bool, true, false, not, ◌&&◌, ◌||◌, IsTrue, List, Contains}
use Rattle.std.specs.List.{list_any}
use Rattle.std.specs.Ordering.{int_eq}
use Rattle.std.specs.declared.cmp.Ordering.TheVariants.{Less}
use Rattle.std.proofs.Common.{inl, inr, refl, ap, ◌∙◌, arith}
use Rattle.std.proofs.lemmas.Int.{ints}
use Rattle.std.proofs.lemmas.Bool.{or_cases, or_left, or_right, and_parts, and_from, not-true, not_from_false, both_ways}
use Rattle.std.proofs.lemmas.Bool.Decides.{Decides-int_eq}
use Rattle.std.proofs.lemmas.List.Folds.{Any-from_list_any}
use Rattle.std.proofs.Math.IntN.{*ℤ_comm, zero-*ℤ}
use Rattle.overlay_terms.specs.Plane.{Point, Segment, whole, whole_cmp, same_place, is_on}
use Rattle.overlay_terms.specs.Column.{border, columns}
use Rattle.overlay_terms.specs.Tiles.{is_parallel, is_vertical, is_end, is_crossing, is_on_border, is_node}
use Rattle.overlay_terms.proofs.InputLists.{any_from_Contains}
use Rattle.overlay_terms.proofs.Lists.{any_contains}
use Rattle.exact_point.specs.Crossing.{turn_of}
use Rattle.exact_point.proofs.Signs.{zero_factor}
use Rattle.exact_point.proofs.Lexical.{Forward}
use Rattle.exact_point.proofs.OnSegment.{leads}
use Rattle.exact_point.proofs.PlaceOrder.{level_from, same_self}
use Rattle.exact_point.proofs.OnLine.{parallel_through, turn_from_parallel}

-- ---- what makes a place a node
-- an end
pub node_at_end : (segments : List Segment) (p : Point) → IsTrue (is_end segments p) → IsTrue (is_node segments p)
node_at_end segments p e = or_left (is_end segments p || is_crossing segments p) (is_on_border segments p) (or_left (is_end segments p) (is_crossing segments p) e)

module _ (segments : List Segment) (s : Segment) (among : Contains segments s) where
  -- the place of an end of a segment is an end
  pub end_among : (p : Point) → (same_place p (whole s.left) || same_place p (whole s.right)) ≡ true → IsTrue (is_end segments p)
  end_among p = any_from_Contains (λ t. same_place p (whole t.left) || same_place p (whole t.right)) segments s among

  -- the left end is an end
  pub left_among : IsTrue (is_end segments (whole s.left))
  left_among = end_among (whole s.left) (or_left (same_place (whole s.left) (whole s.left)) (same_place (whole s.left) (whole s.right)) (same_self (whole s.left)))

  -- the right end is an end
  pub right_among : IsTrue (is_end segments (whole s.right))
  right_among = end_among (whole s.right) (or_right (same_place (whole s.right) (whole s.left)) (same_place (whole s.right) (whole s.right)) (same_self (whole s.right)))

  -- the left end is a node
  pub left_node : IsTrue (is_node segments (whole s.left))
  left_node = node_at_end segments (whole s.left) left_among

  -- the right end is a node
  pub right_node : IsTrue (is_node segments (whole s.right))
  right_node = node_at_end segments (whole s.right) right_among

-- a point on two segments that are not parallel is a node
pub crossing_is_node : (segments : List Segment) (s t : Segment) (p : Point) → Contains segments s → Contains segments t → IsTrue (is_on s p) → IsTrue (is_on t p) → is_parallel s t ≡ false → IsTrue (is_node segments p)
crossing_is_node segments s t p among_s among_t on_s on_t crossed =
    let other : list_any (λ u. is_on u p && not (is_parallel s u)) segments ≡ true =
    any_from_Contains (λ u. is_on u p && not (is_parallel s u)) segments t among_t (and_from (is_on t p) (not (is_parallel s t)) on_t (not_from_false (is_parallel s t) crossed)) in
    or_left (is_end segments p || is_crossing segments p) (is_on_border segments p)
    (or_right (is_end segments p) (is_crossing segments p)
    (any_from_Contains (λ (m : Segment). is_on m p && list_any (λ (n : Segment). is_on n p && not (is_parallel m n)) segments) segments s among_s
    (and_from (is_on s p) (list_any (λ (n : Segment). is_on n p && not (is_parallel s n)) segments) on_s other)))

-- ---- what a node on a segment is
-- a segment in the direction of one that is not vertical is not vertical
pub wide_too : (s t : Segment) → whole_cmp s.left s.right ≡ Less → turn_of s t ≡ pos 0 → is_vertical t ≡ false → s.left.x <ℤ s.right.x
wide_too s t h e v = by (leads s h) where
  by : Forward (s.right.x -ℤ s.left.x) (s.right.y -ℤ s.left.y) → s.left.x <ℤ s.right.x
  by (inl w) = omega (arith, ints)
  by (inr (z, up)) =
      let dx : ℤ = s.right.x -ℤ s.left.x in
      let dy : ℤ = s.right.y -ℤ s.left.y in
      let tx : ℤ = t.right.x -ℤ t.left.x in
      let ty : ℤ = t.right.y -ℤ t.left.y in
      let none : dx *ℤ ty ≡ pos 0 = ap (λ n. n *ℤ ty) z ∙ zero-*ℤ ty in
      let level : tx *ℤ dy ≡ pos 0 = *ℤ_comm tx dy ∙ omega (arith, ints, e, none) in
      let flat : tx ≡ pos 0 = zero_factor tx dy up level in
      let same_x : t.left.x ≡ t.right.x = omega (arith, ints, flat) in
      absurd (both_ways _ v ((Decides-int_eq t.left.x t.right.x).1 same_x))

-- why a point of s is a node: it is an end of a segment, another segment crosses s there, or a border does
pub data NodeCause (segments : List Segment) (s : Segment) (p : Point) : Type 0 where
  at_left : (t : Segment) → Contains segments t → IsTrue (same_place p (whole t.left)) → NodeCause segments s p
  at_right : (t : Segment) → Contains segments t → IsTrue (same_place p (whole t.right)) → NodeCause segments s p
  across : (t : Segment) → Contains segments t → is_parallel s t ≡ false → IsTrue (is_on t p) → NodeCause segments s p
  over_border : (j : ℕ) → Contains columns j → p.x ≡ border j *ℤ p.w → s.left.x <ℤ s.right.x → NodeCause segments s p

module _ (segments : List Segment) (s : Segment) (ahead : whole_cmp s.left s.right ≡ Less) (p : Point) where
  -- at an end
  from_either : (t : Segment) → Contains segments t → (same_place p (whole t.left) || same_place p (whole t.right)) ≡ true → NodeCause segments s p
  from_either t c e = by (or_cases (same_place p (whole t.left)) (same_place p (whole t.right)) e) where
    by : (same_place p (whole t.left) ≡ true) ⊎ (same_place p (whole t.right) ≡ true) → NodeCause segments s p
    by (inl l) = at_left t c l
    by (inr r) = at_right t c r

  -- at the end of some segment
  from_end : is_end segments p ≡ true → NodeCause segments s p
  from_end e =
      let which = Any-from_list_any (λ t. same_place p (whole t.left) || same_place p (whole t.right)) segments e in
      from_either which.1 (any_contains (λ t. IsTrue (same_place p (whole t.left) || same_place p (whole t.right))) segments which) which.4

  -- on two segments that are not parallel
  from_two : (t u : Segment) → Contains segments t → Contains segments u → IsTrue (is_on t p) → IsTrue (is_on u p) → is_parallel t u ≡ false → NodeCause segments s p
  from_two t u c d on_t on_u np = by (is_parallel s t) refl (is_parallel s u) refl where
    by : (b : Bool) → is_parallel s t ≡ b → (b' : Bool) → is_parallel s u ≡ b' → NodeCause segments s p
    by false e b' f = across t c e on_t
    by true e false f = across u d f on_u
    by true e true f = absurd (both_ways (is_parallel t u) np (parallel_through s t u ahead e f))

  -- where some segments cross
  from_crossing : is_crossing segments p ≡ true → NodeCause segments s p
  from_crossing e =
      let first = Any-from_list_any (λ t. is_on t p && list_any (λ u. is_on u p && not (is_parallel t u)) segments) segments e in
      let tests = and_parts (is_on first.1 p) (list_any (λ u. is_on u p && not (is_parallel first.1 u)) segments) first.4 in
      let second = Any-from_list_any (λ u. is_on u p && not (is_parallel first.1 u)) segments tests.1 in
      let more = and_parts (is_on second.1 p) (not (is_parallel first.1 second.1)) second.4 in
      from_two first.1 second.1 (any_contains (λ t. IsTrue (is_on t p && list_any (λ u. is_on u p && not (is_parallel t u)) segments)) segments first)
      (any_contains (λ u. IsTrue (is_on u p && not (is_parallel first.1 u))) segments second) tests.0 more.0 (not-true _ more.1)

  -- over some border, on a segment that is not vertical
  from_border : is_on_border segments p ≡ true → NodeCause segments s p
  from_border e =
      let parts = and_parts (list_any (λ k. int_eq p.x (border k *ℤ p.w)) columns) (list_any (λ t. is_on t p && not (is_vertical t)) segments) e in
      let which = Any-from_list_any (λ k. int_eq p.x (border k *ℤ p.w)) columns parts.0 in
      let other = Any-from_list_any (λ t. is_on t p && not (is_vertical t)) segments parts.1 in
      let tests = and_parts (is_on other.1 p) (not (is_vertical other.1)) other.4 in
      by which.1 (any_contains (λ k. IsTrue (int_eq p.x (border k *ℤ p.w))) columns which) (level_from p.x (border which.1 *ℤ p.w) which.4) other.1
      (any_contains (λ t. IsTrue (is_on t p && not (is_vertical t))) segments other) tests.0 (not-true _ tests.1) (is_parallel s other.1) refl
    where
      by : (j : ℕ) → Contains columns j → p.x ≡ border j *ℤ p.w → (t : Segment) → Contains segments t → IsTrue (is_on t p) → is_vertical t ≡ false → (b : Bool) → is_parallel s t ≡ b → NodeCause segments s p
      by j known e t c on v false f = across t c f on
      by j known e t c on v true f = over_border j known e (wide_too s t ahead (turn_from_parallel s t f) v)

  -- each node on the segment has a cause
  pub node_cause : IsTrue (is_node segments p) → NodeCause segments s p
  node_cause node = by (or_cases (is_end segments p || is_crossing segments p) (is_on_border segments p) node) where
    by_two : (is_end segments p ≡ true) ⊎ (is_crossing segments p ≡ true) → NodeCause segments s p
    by_two (inl f) = from_end f
    by_two (inr f) = from_crossing f

    by : ((is_end segments p || is_crossing segments p) ≡ true) ⊎ (is_on_border segments p ≡ true) → NodeCause segments s p
    by (inl e) = by_two (or_cases (is_end segments p) (is_crossing segments p) e)
    by (inr e) = from_border e
