-- The places that the names along a known segment stand for are nodes.
use Rattle.std.proofs.Common.{◌≡◌, ℕ, ℤ, pos, ◌+◌, ◌-ℤ◌, ◌*ℤ◌, ◌<ℤ◌, true, false, ◌&&◌, ◌||◌, ◌⊎◌, inl, inr, List, [], ◌∷◌, map, get_or, ap, sym, ◌∙◌, subst, arith}
use Rattle.std.specs.Prelude.{IsTrue, Bool, filter, All, Any, Contains, flat_map}
use Rattle.std.specs.List.{AllPairs}
use Rattle.std.proofs.lemmas.Int.{ints}
use Rattle.std.proofs.lemmas.Bool.{or_cases, or_left, or_right, and_parts, false_from_ne_true, both_ways}
use Rattle.std.proofs.lemmas.List.Elements.{Contains-append_cases, All-contains, All-filter, All-map, All-weaker, filter_passes}
use Rattle.std.proofs.lemmas.List.Kept.{AllPairs-filter}
use Rattle.overlay_terms.proofs.Lists.{any_from, any_contains, Contains-cons_cases, from_flat_map, contains_map}
use Rattle.overlay_terms.proofs.InputLists.{Contains-filter}
use Rattle.overlay_terms.proofs.PointOrder.{same_points}
use Rattle.overlay_terms.proofs.InputNodes.{border_node}
use Rattle.exact_point.specs.PlaceOf.{place_of}
use Rattle.exact_point.proofs.OnLine.{parallel_through, parallel_line, between_on, after_left, before_right, on_line, left_on_line, turn_from_parallel, no_turn_back}
use Rattle.exact_point.proofs.PlaceOrder.{one_positive, same_turned, same_through, level_from, same_self}
use Rattle.exact_point.proofs.SameNodes.{node_alike}
use Rattle.exact_point.proofs.Nodes.{wide_too, node_at_end, end_among, crossing_is_node}
use Rattle.arrange.proofs.SortedPlaces.{spot_positive}
use Rattle.std.proofs.lemmas.List.Folds.{Any-from_list_any, list_any-from_Any}
use Rattle.std.specs.declared.cmp.Ordering.TheVariants.{Less}
use Rattle.overlay_terms.specs.Plane.{WholePoint, Point, Segment, whole, whole_cmp, point_cmp, same_place, same_whole, height_over, is_on}
use Rattle.overlay_terms.specs.Column.{border}
use Rattle.overlay_terms.specs.Layers.{Marked}
use Rattle.overlay_terms.specs.Tiles.{is_node, is_end, is_parallel, is_vertical, Input}
use Rattle.overlay_terms.proofs.Difference.{split, differences, same}
use Rattle.overlay_terms.proofs.Pairs.{pairs_map}
use Rattle.exact_point.specs.Crossing.{turn_of, IsCrossingOf}
use Rattle.exact_point.specs.PointName.{HasPlace, IsPlaceOf, IsCutOf}
use Rattle.exact_point.specs.declared.point_name.PointName.{PointName}
use Rattle.exact_point.specs.declared.point_name.PointName.TheVariants.{Vertex, Cross, Border}
use Rattle.arrange.specs.Units.{is_end_along, is_collinear}
use Rattle.arrange.specs.Arrangement.{input_segments, IsNodeOn, AreNodesOn}
use Rattle.arrange.specs.NamedPlaces.{spot, own_names, names_with, names_along, IsFound, AreAlong}
use Rattle.arrange.specs.declared.named_place.NamedPlace.{NamedPlace}

-- a segment of the input holds s, whose ends are ends of segments of the input
pub record IsKnown (input : Input) (s : Segment) : Type 0 where
  pub holder : Segment
  pub among : Contains (input_segments input) holder
  pub same_way : is_parallel holder s ≡ true
  pub ahead : whole_cmp holder.left holder.right ≡ Less
  pub holds : (p : Point) → pos 0 <ℤ p.w → IsTrue (is_on s p) → IsTrue (is_on holder p)
  pub left_end : IsTrue (is_end (input_segments input) (whole s.left))
  pub right_end : IsTrue (is_end (input_segments input) (whole s.right))

-- a point at the place of an end is at an end
pub end_same : (segments : List Segment) (v : WholePoint) (p : Point) → pos 0 <ℤ p.w → IsTrue (same_place (whole v) p) → IsTrue (is_end segments (whole v)) → IsTrue (is_end segments p)
end_same segments v p h e ends =
    let which = Any-from_list_any (λ s. same_place (whole v) (whole s.left) || same_place (whole v) (whole s.right)) segments ends in
    list_any-from_Any (λ s. same_place p (whole s.left) || same_place p (whole s.right)) segments
    (any_from (λ s. (same_place p (whole s.left) || same_place p (whole s.right)) ≡ true) segments which.1
    (any_contains (λ s. (same_place (whole v) (whole s.left) || same_place (whole v) (whole s.right)) ≡ true) segments which)
    (by which.1 (or_cases (same_place (whole v) (whole which.1.left)) (same_place (whole v) (whole which.1.right)) which.4)))
  where
    back : (w : WholePoint) → same_place (whole v) (whole w) ≡ true → same_place p (whole w) ≡ true
    back w f = same_through p (whole v) (whole w) h one_positive one_positive (same_turned (whole v) p e) f

    by : (s : Segment) → (same_place (whole v) (whole s.left) ≡ true) ⊎ (same_place (whole v) (whole s.right) ≡ true) → (same_place p (whole s.left) || same_place p (whole s.right)) ≡ true
    by s (inl l) = or_left _ _ (back s.left l)
    by s (inr r) = or_right (same_place p (whole s.left)) (same_place p (whole s.right)) (back s.right r)

module _ (input : Input) (s : Segment) (known : IsKnown input s) (p : Point) (hp : pos 0 <ℤ p.w) (on_s : IsTrue (is_on s p)) where
  abbrev Node : Type 0
  Node = IsTrue (is_node (input_segments input) p)

  at_cut : (j : ℕ) → IsCutOf s j p → Node
  at_cut j cut =
      border_node (input_segments input) known.holder j p cut.cut.known_column cut.on_border (known.holds p hp on_s)
      (wide_too known.holder s known.ahead (turn_from_parallel known.holder s known.same_way) standing) known.among
    where
      narrow : (a b : ℤ) → a <ℤ (border j) → (border j) <ℤ b → a ≡ b → ⊥
      narrow a b l m e = omega (arith, ints)

      standing : is_vertical s ≡ false
      standing = false_from_ne_true _ (λ w. absurd (narrow s.left.x s.right.x cut.cut.after_left cut.cut.before_right (level_from s.left.x s.right.x w)))

  at_cross : (t : Segment) → Contains (input_segments input) t → IsCrossingOf s t p → Node
  at_cross t c k =
      crossing_is_node (input_segments input) known.holder t p known.among c (known.holds p hp on_s) k.on_second
      (false_from_ne_true _ (λ e. both_ways _ k.not_parallel (parallel_through known.holder s t known.ahead known.same_way e)))

  own_node : (name : PointName) → Contains (own_names s input.column) name → IsPlaceOf name p → Node
  own_node name c st = first (Contains-cons_cases (Vertex s.left) (Vertex s.right ∷ Border s input.column ∷ Border s (input.column + 1) ∷ []) name c) where
    last : (Border s (input.column + 1) ≡ name) ⊎ Contains [] name → Node
    last (inl e) = let Q : PointName → Type 0 = λ n. IsPlaceOf n p in at_cut (input.column + 1) (subst Q (sym e) st)
    last (inr d) = absurd (omega (arith, d.1))

    third : (Border s input.column ≡ name) ⊎ Contains (Border s (input.column + 1) ∷ []) name → Node
    third (inl e) = let Q : PointName → Type 0 = λ n. IsPlaceOf n p in at_cut input.column (subst Q (sym e) st)
    third (inr d) = last (Contains-cons_cases (Border s (input.column + 1)) [] name d)

    second : (Vertex s.right ≡ name) ⊎ Contains (Border s input.column ∷ Border s (input.column + 1) ∷ []) name → Node
    second (inl e) =
        let Q : PointName → Type 0 = λ n. IsPlaceOf n p in
        node_at_end (input_segments input) p (end_same (input_segments input) s.right p hp (subst Q (sym e) st) known.right_end)
    second (inr d) = third (Contains-cons_cases (Border s input.column) (Border s (input.column + 1) ∷ []) name d)

    first : (Vertex s.left ≡ name) ⊎ Contains (Vertex s.right ∷ Border s input.column ∷ Border s (input.column + 1) ∷ []) name → Node
    first (inl e) =
        let Q : PointName → Type 0 = λ n. IsPlaceOf n p in
        node_at_end (input_segments input) p (end_same (input_segments input) s.left p hp (subst Q (sym e) st) known.left_end)
    first (inr d) = second (Contains-cons_cases (Vertex s.right) (Border s input.column ∷ Border s (input.column + 1) ∷ []) name d)

  with_node : (t : Segment) → Contains (input_segments input) t → (name : PointName) → Contains (names_with s t) name → IsPlaceOf name p → Node
  with_node t m name c st = first (Contains-cons_cases (Vertex t.left) (Vertex t.right ∷ Cross s t ∷ []) name c) where
    third : (Cross s t ≡ name) ⊎ Contains [] name → Node
    third (inl e) = let Q : PointName → Type 0 = λ n. IsPlaceOf n p in at_cross t m (subst Q (sym e) st)
    third (inr d) = absurd (omega (arith, d.1))

    second : (Vertex t.right ≡ name) ⊎ Contains (Cross s t ∷ []) name → Node
    second (inl e) = let Q : PointName → Type 0 = λ n. IsPlaceOf n p in node_at_end (input_segments input) p (end_among (input_segments input) t m p (or_right (same_place p (whole t.left)) (same_place p (whole t.right)) (same_turned (whole t.right) p (subst Q (sym e) st))))
    second (inr d) = third (Contains-cons_cases (Cross s t) [] name d)

    first : (Vertex t.left ≡ name) ⊎ Contains (Vertex t.right ∷ Cross s t ∷ []) name → Node
    first (inl e) = let Q : PointName → Type 0 = λ n. IsPlaceOf n p in node_at_end (input_segments input) p (end_among (input_segments input) t m p (or_left (same_place p (whole t.left)) (same_place p (whole t.right)) (same_turned (whole t.left) p (subst Q (sym e) st))))
    first (inr d) = second (Contains-cons_cases (Vertex t.right) (Cross s t ∷ []) name d)

  -- what a name along a known segment stands for on it is a node
  pub named_is_node : (name : PointName) → Contains (names_along input s) name → IsPlaceOf name p → Node
  named_is_node name c st = by (Contains-append_cases (own_names s input.column) (flat_map (names_with s) (input_segments input)) name c) where
    by : Contains (own_names s input.column) name ⊎ Contains (flat_map (names_with s) (input_segments input)) name → Node
    by (inl d) = own_node name d st
    by (inr d) = let r = from_flat_map (names_with s) (input_segments input) name d in with_node r.0 r.1 name r.2 st

-- ---- the units
-- equal whole points are at one place
same_as_points : (v w : WholePoint) → same_whole v w ≡ true → IsTrue (same_place (whole v) (whole w))
same_as_points v w e = subst (λ (u : WholePoint). IsTrue (same_place (whole v) (whole u))) (same_points v w e) (same_self (whole v))

-- an end along a line is an end
pub end_from_along : (marked : List Marked) (s : Segment) (v : WholePoint) → IsTrue (is_end_along marked s v) → IsTrue (is_end (map (λ m. m.segment) marked) (whole v))
end_from_along marked s v e =
    let which = Any-from_list_any (λ m. is_collinear s m.segment && (same_whole v m.segment.left || same_whole v m.segment.right)) marked e in
    let tests = and_parts (is_collinear s which.1.segment) (same_whole v which.1.segment.left || same_whole v which.1.segment.right) which.4 in
    let there = contains_map (λ (m : Marked). m.segment) marked which.1 (any_contains (λ m. (is_collinear s m.segment && (same_whole v m.segment.left || same_whole v m.segment.right)) ≡ true) marked which) in
    by which.1.segment there (or_cases (same_whole v which.1.segment.left) (same_whole v which.1.segment.right) tests.1)
  where
    by : (t : Segment) → Contains (map (λ m. m.segment) marked) t → (same_whole v t.left ≡ true) ⊎ (same_whole v t.right ≡ true) → IsTrue (is_end (map (λ m. m.segment) marked) (whole v))
    by t c (inl f) = end_among (map (λ m. m.segment) marked) t c (whole v) (or_left _ _ (same_as_points v t.left f))
    by t c (inr f) = end_among (map (λ m. m.segment) marked) t c (whole v) (or_right (same_place (whole v) (whole t.left)) _ (same_as_points v t.right f))

way_turn : (a b l m x y u v : ℤ) → ((a *ℤ (v -ℤ (m *ℤ pos 1))) -ℤ (b *ℤ (u -ℤ (l *ℤ pos 1)))) -ℤ ((a *ℤ (y -ℤ (m *ℤ pos 1))) -ℤ (b *ℤ (x -ℤ (l *ℤ pos 1)))) ≡ (a *ℤ (v -ℤ y)) -ℤ (b *ℤ (u -ℤ x))
way_turn a b l m x y u v = rw (split a, split b, split l, split m, split x, split y, split u, split v) (simp differences (same _ _ _ _ (omega arith)))

-- the segment that covers a stretch holds it
pub covering_turn : (t s : Segment) → IsTrue (is_on t (whole s.left)) → IsTrue (is_on t (whole s.right)) → turn_of t s ≡ pos 0
covering_turn t s on_left on_right =
    sym (way_turn (t.right.x -ℤ t.left.x) (t.right.y -ℤ t.left.y) t.left.x t.left.y s.left.x s.left.y s.right.x s.right.y)
    ∙ ap (λ z. z -ℤ height_over t (whole s.left)) (on_line t (whole s.right) on_right) ∙ ap (λ z. pos 0 -ℤ z) (on_line t (whole s.left) on_left) ∙ nothing
  where
    nothing : pos 0 -ℤ pos 0 ≡ pos 0
    nothing = omega (arith, ints)

pub covering_holds : (t s : Segment) → whole_cmp s.left s.right ≡ Less → IsTrue (is_on t (whole s.left)) → IsTrue (is_on t (whole s.right)) → (p : Point) → pos 0 <ℤ p.w → IsTrue (is_on s p) → IsTrue (is_on t p)
covering_holds t s ahead on_left on_right p hp on_s =
    let turn = no_turn_back t s (covering_turn t s on_left on_right) in
    let level = parallel_line s t (whole s.left) p ahead turn one_positive (left_on_line s) (on_line t (whole s.left) on_left) (on_line s p on_s) in
    between_on t (whole s.left) p (whole s.right) one_positive hp one_positive on_left on_right level (after_left s p on_s) (before_right s p hp on_s)

-- ---- all of them
-- the order of the spots is that of the places of the names
pairs_told : (k : ℕ) (s : Segment) (names : List PointName) (xs : List NamedPlace) → All (IsFound k s names) xs → AllPairs (λ a b. point_cmp (spot a) (spot b) ≡ Less) xs
    → AllPairs (λ a b. point_cmp (place_of a.name) (place_of b.name) ≡ Less) xs
pairs_told k s names xs sound up = λ i j d l m.
    ap (λ p. point_cmp p (place_of (get_or xs j d).name)) (sym (sound i d (omega (arith, l, m))).told)
    ∙ ap (λ p. point_cmp (spot (get_or xs i d)) p) (sym (sound j d m).told) ∙ up i j d l m

pub nodes_from_along : (input : Input) (s : Segment) (list : List NamedPlace) → AreAlong input s list → AreNodesOn input s (map (λ (z : NamedPlace). z.name) (filter (λ (z : NamedPlace). is_node (input_segments input) (spot z)) list))
nodes_from_along input s list along =
    record {
      named = All-map HasPlace name kept (All-weaker Found (λ z. HasPlace z.name) (λ z f. f.named) kept found);
      sound = All-map (λ n. IsNodeOn input s (place_of n)) name kept (λ i d l. node (get_or kept i d) (found i d l) (passing i d l));
      ordered = pairs_map (λ a b. point_cmp (place_of a) (place_of b) ≡ Less) name kept (pairs_told input.column s names kept found (AllPairs-filter (λ a b. point_cmp (spot a) (spot b) ≡ Less) is_one list along.ordered));
      complete = λ p n. told p n (along.complete p n);
    }
  where
    names : List PointName
    names = names_along input s

    name : NamedPlace → PointName
    name z = z.name

    is_one : NamedPlace → Bool
    is_one z = is_node (input_segments input) (spot z)

    kept : List NamedPlace
    kept = filter is_one list

    Found : NamedPlace → Type 0
    Found = IsFound input.column s names

    found : All Found kept
    found = All-filter is_one Found list along.sound

    passing : All (λ z. is_one z ≡ true) kept
    passing = filter_passes is_one list

    node : (z : NamedPlace) → Found z → is_one z ≡ true → IsNodeOn input s (place_of z.name)
    node z f one =
        let Q : Point → Type 0 = λ p. IsNodeOn input s p in
        subst Q f.told (record { positive = spot_positive z; on_segment = f.on_segment; in_column = f.in_column; node = one })

    told : (p : Point) → IsNodeOn input s p → Any (λ z. IsTrue (same_place p (spot z))) list → Any (λ n. IsTrue (same_place p (place_of n))) (map name kept)
    told p n a =
        let there = any_contains (λ z. IsTrue (same_place p (spot z))) list a in
        let f = All-contains Found list a.1 along.sound there in
        let one : is_one a.1 ≡ true = sym (node_alike p (spot a.1) n.positive (spot_positive a.1) a.4 (input_segments input)) ∙ n.node in
        let Q : Point → Type 0 = λ q. IsTrue (same_place p q) in
        any_from (λ n. IsTrue (same_place p (place_of n))) (map name kept) a.1.name (contains_map name kept a.1 (Contains-filter is_one list a.1 there one)) (subst Q f.told a.4)
