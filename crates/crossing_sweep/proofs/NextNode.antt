-- The next node after a place: the first of a finite list that has the place of each node.
use Rattle.std.proofs.Common.{◌≡◌, ℕ, ℤ, pos, ◌<◌, ◌≤◌, length, ◌^◌, ◌*ℤ◌, ◌<ℤ◌, ◌≤ℤ◌, neg_ℤ, inl, inr, ◌⊎◌, true, false, List, [], ◌∷◌, ap, sym, ◌∙◌, arith, get_or}
use Rattle.std.specs.Prelude.{Bool, IsTrue, All, Contains, int_lt, ◌&&◌, ◌||◌, not, map, flat_map, count_by, if◌then◌else◌}
use Rattle.std.specs.List.{list_any}
use Rattle.std.specs.Ordering.{is_lt, int_eq}
use Rattle.std.specs.declared.cmp.Ordering.TheVariants.{Less}
use Rattle.std.proofs.lemmas.Int.{ints}
use Rattle.std.proofs.lemmas.Bool.{and_parts, and_from, or_cases, false_from_ne_true}
use Rattle.std.proofs.lemmas.List.Elements.{All-nil, All-cons, All-head, All-tail, All-append, All-map, All-contains}
use Rattle.std.proofs.lemmas.List.Folds.{Any-from_list_any}
use Rattle.std.proofs.lemmas.List.Sums.{count_by-le-length}
use Rattle.overlay_terms.specs.Within.{IsWithin}
use Rattle.overlay_terms.specs.Plane.{Point, Segment, whole, point_cmp, same_place, is_on, coordinate_max}
use Rattle.overlay_terms.specs.Column.{border, columns}
use Rattle.overlay_terms.specs.Tiles.{is_parallel, is_vertical, is_end, is_crossing, is_on_border, is_node}
use Rattle.overlay_terms.specs.TileLaws.{IsProper}
use Rattle.overlay_terms.proofs.Lists.{any_contains, in_flat_map}
use Rattle.overlay_terms.proofs.InputNumbers.{lt_true, true_lt}
use Rattle.overlay_terms.proofs.Tests.{less_told}
use Rattle.exact_point.specs.Crossing.{turn_of, lead_of}
use Rattle.exact_point.specs.PlaceOf.{part_way, crossing_place, cut_place}
use Rattle.exact_point.proofs.Lines.{width}
use Rattle.exact_point.proofs.OnLine.{within_on, left_on_line, right_on_line}
use Rattle.exact_point.proofs.PlaceOrder.{one_positive, on_same, same_self, less_through, alike_left, alike_right, not_before_self, not_after_less}
use Rattle.tile_laws.proofs.Candidates.{candidates, candidates_with, IsAmong, node_among}
use Rattle.tile_laws.proofs.Counts.{count_less}
use Rattle.tile_laws.proofs.LastPlace.{Falls, falling}
use Rattle.tile_laws.proofs.NextNode.{IsLast, last_of}
use Rattle.exact_point.proofs.SameNodes.{node_alike}
use Rattle.crossing_sweep.specs.Leaning.{IsSmall}
use Rattle.crossing_sweep.specs.NextNode.{IsNextNode, EachHasNext, NodesRunOut}
use Rattle.crossing_sweep.proofs.StretchLemmas.{ends_in_order}
use Rattle.crossing_sweep.proofs.Inputs.{width_within, turn_within}
use Rattle.crossing_sweep.proofs.OnProper.{HasYFrom, y_on_proper}

-- ---- each node lies on a segment
-- the ends of a proper segment lie on it
pub left_on : (s : Segment) → IsProper s → IsTrue (is_on s (whole s.left))
left_on s proper =
    within_on s (whole s.left) one_positive (left_on_line s) (not_before_self (whole s.left) (whole s.left) one_positive one_positive (same_self (whole s.left)))
    (not_after_less (whole s.left) (whole s.right) one_positive one_positive (ends_in_order s proper.first))

pub right_on : (s : Segment) → IsProper s → IsTrue (is_on s (whole s.right))
right_on s proper =
    within_on s (whole s.right) one_positive (right_on_line s) (not_after_less (whole s.left) (whole s.right) one_positive one_positive (ends_in_order s proper.first))
    (not_before_self (whole s.right) (whole s.right) one_positive one_positive (same_self (whole s.right)))

-- a segment among some that holds a place
pub record LiesOn (segments : List Segment) (p : Point) : Type 0 where
  pub segment : Segment
  pub among : Contains segments segment
  pub on : IsTrue (is_on segment p)

module _ (segments : List Segment) (proper : All IsProper segments) where
  module _ (p : Point) (hp : pos 0 <ℤ p.w) where
    at_end : (s : Segment) → Contains segments s → (same_place p (whole s.left) ≡ true) ⊎ (same_place p (whole s.right) ≡ true) → LiesOn segments p
    at_end s c (inl e) = record { segment = s; among = c; on = on_same s p (whole s.left) hp one_positive e ∙ left_on s (All-contains IsProper segments s proper c) }
    at_end s c (inr e) = record { segment = s; among = c; on = on_same s p (whole s.right) hp one_positive e ∙ right_on s (All-contains IsProper segments s proper c) }

    from_end : is_end segments p ≡ true → LiesOn segments p
    from_end e =
        let which = Any-from_list_any (λ s. same_place p (whole s.left) || same_place p (whole s.right)) segments e in
        at_end which.1 (any_contains (λ s. IsTrue (same_place p (whole s.left) || same_place p (whole s.right))) segments which) (or_cases (same_place p (whole which.1.left)) (same_place p (whole which.1.right)) which.4)

    from_crossing : is_crossing segments p ≡ true → LiesOn segments p
    from_crossing e =
        let which = Any-from_list_any (λ s. is_on s p && list_any (λ t. is_on t p && not (is_parallel s t)) segments) segments e in
        let tests = and_parts (is_on which.1 p) (list_any (λ t. is_on t p && not (is_parallel which.1 t)) segments) which.4 in
        record { segment = which.1; among = any_contains (λ s. IsTrue (is_on s p && list_any (λ t. is_on t p && not (is_parallel s t)) segments)) segments which; on = tests.0 }

    from_border : is_on_border segments p ≡ true → LiesOn segments p
    from_border e =
        let parts = and_parts (list_any (λ k. int_eq p.x (border k *ℤ p.w)) columns) (list_any (λ s. is_on s p && not (is_vertical s)) segments) e in
        let which = Any-from_list_any (λ s. is_on s p && not (is_vertical s)) segments parts.1 in
        let tests = and_parts (is_on which.1 p) (not (is_vertical which.1)) which.4 in
        record { segment = which.1; among = any_contains (λ s. IsTrue (is_on s p && not (is_vertical s))) segments which; on = tests.0 }

    pub lies_on : IsTrue (is_node segments p) → LiesOn segments p
    lies_on node = by (or_cases (is_end segments p || is_crossing segments p) (is_on_border segments p) node) where
      by_two : (is_end segments p ≡ true) ⊎ (is_crossing segments p ≡ true) → LiesOn segments p
      by_two (inl f) = from_end f
      by_two (inr f) = from_crossing f

      by : ((is_end segments p || is_crossing segments p) ≡ true) ⊎ (is_on_border segments p ≡ true) → LiesOn segments p
      by (inl e) = by_two (or_cases (is_end segments p) (is_crossing segments p) e)
      by (inr e) = from_border e

  -- ---- a finite list with the place of each node
  abbrev pub places : List Point
  places = flat_map (candidates segments) segments

  pub node_place : (p : Point) → pos 0 <ℤ p.w → IsTrue (is_node segments p) → IsAmong places p
  node_place p hp node =
      let there : LiesOn segments p = lies_on p hp node in
      let c : IsAmong (candidates segments there.segment) p = node_among segments there.segment (All-contains IsProper segments there.segment proper there.among).first p there.on node in
      record { point = c.point; among = in_flat_map (candidates segments) segments there.segment c.point there.among c.among; positive = c.positive; at = c.at }

  -- their denominators are small
  abbrev pub IsFew : Point → Type 0
  IsFew c = c.w ≤ℤ pos (2 ^ 43)

  few_by : (z : ℤ) → IsWithin (2 ^ 43) z → z ≤ℤ pos (2 ^ 43)
  few_by z h = omega (arith, ints, h.high)

  few_width : (z : ℤ) → IsWithin (2 ^ 21) z → z ≤ℤ pos (2 ^ 43)
  few_width z h = omega (arith, ints, h.high)

  few_one : pos 1 ≤ℤ pos (2 ^ 43)
  few_one = omega (arith, ints)

  few_crossing : (s t : Segment) → IsProper s → IsProper t → IsFew (crossing_place s t)
  few_crossing s t ps pt = by (int_lt (pos 0) (turn_of s t)) where
    by : (b : Bool) → IsFew (if b then part_way s (lead_of s t t) (turn_of s t) else part_way t (lead_of t s s) (turn_of t s))
    by true = few_by (turn_of s t) (turn_within s t ps pt)
    by false = few_by (turn_of t s) (turn_within t s pt ps)

  all_flat_map : (f : Segment → List Point) (xs : List Segment) → All (λ s. All IsFew (f s)) xs → All IsFew (flat_map f xs)
  all_flat_map f [] h = All-nil IsFew
  all_flat_map f (x ∷ xs) h = All-append IsFew (f x) (flat_map f xs) (All-head (λ s. All IsFew (f s)) x xs h) (all_flat_map f xs (All-tail (λ s. All IsFew (f s)) x xs h))

  few_with : (s t : Segment) → IsProper s → IsProper t → All IsFew (candidates_with s t)
  few_with s t ps pt =
      All-cons IsFew (whole t.left) (whole t.right ∷ crossing_place s t ∷ []) few_one
      (All-cons IsFew (whole t.right) (crossing_place s t ∷ []) few_one (All-cons IsFew (crossing_place s t) [] (few_crossing s t ps pt) (All-nil IsFew)))

  pub few_places : All IsFew places
  few_places =
      all_flat_map (candidates segments) segments
      (λ i d l. let s = get_or segments i d in
      All-append IsFew (flat_map (candidates_with s) segments) (map (cut_place s) columns)
      (all_flat_map (candidates_with s) segments (λ j e m. few_with s (get_or segments j e) (proper i d l) (proper j e m)))
      (All-map IsFew (cut_place s) columns (λ j e m. few_width (width s) (width_within s (proper i d l)))))

  -- ---- the first of those after a place
  module _ (q : Point) (hq : pos 0 <ℤ q.w) where
    abbrev pub is_after : Point → Bool
    is_after c = int_lt (pos 0) c.w && is_lt (point_cmp q c)

    abbrev is_good : Point → Bool
    is_good c = is_after c && is_node segments c

    pub after_positive : (c : Point) → is_after c ≡ true → pos 0 <ℤ c.w
    after_positive c h = lt_true (pos 0) c.w (and_parts (int_lt (pos 0) c.w) (is_lt (point_cmp q c)) h).0

    pub after_less : (c : Point) → is_after c ≡ true → point_cmp q c ≡ Less
    after_less c h = less_told (point_cmp q c) (and_parts (int_lt (pos 0) c.w) (is_lt (point_cmp q c)) h).1

    pub after_test : (c : Point) → pos 0 <ℤ c.w → point_cmp q c ≡ Less → is_after c ≡ true
    after_test c hc less = and_from (int_lt (pos 0) c.w) (is_lt (point_cmp q c)) (true_lt (pos 0) c.w hc) (ap is_lt less)

    good_positive : (c : Point) → is_good c ≡ true → pos 0 <ℤ c.w
    good_positive c h = after_positive c (and_parts (is_after c) (is_node segments c) h).0

    -- the list's place of a node after q
    good_place : (z : Point) → (hz : pos 0 <ℤ z.w) (node : IsTrue (is_node segments z)) → point_cmp q z ≡ Less → is_good (node_place z hz node).point ≡ true
    good_place z hz node less =
        let c : IsAmong places z = node_place z hz node in
        and_from (is_after c.point) (is_node segments c.point)
        (after_test c.point c.positive (sym (alike_right q z c.point hq hz c.positive c.at) ∙ less))
        (sym (node_alike z c.point hz c.positive c.at segments) ∙ node)

    module _ (z : Point) (hz : pos 0 <ℤ z.w) (node : IsTrue (is_node segments z)) (less : point_cmp q z ≡ Less) where
      first : (r : Point) × IsLast is_good Falls places r
      first = last_of is_good Falls (falling is_good good_positive) places (node_place z hz node).point (node_place z hz node).among (good_place z hz node less)

      abbrev r : Point
      r = first.0

      hr : pos 0 <ℤ first.0.w
      hr = good_positive first.0 first.1.passes

      r_parts : (is_after first.0 ≡ true) × (is_node segments first.0 ≡ true)
      r_parts = and_parts (is_after first.0) (is_node segments first.0) first.1.passes

      -- no node after q is before it
      none_before : (p : Point) → pos 0 <ℤ p.w → IsTrue (is_node segments p) → point_cmp q p ≡ Less → point_cmp p first.0 ≡ Less → ⊥
      none_before p hp n after before =
          let c : IsAmong places p = node_place p hp n in
          first.1.none_after c.point c.among (good_place p hp n after) (sym (alike_left p c.point first.0 hp c.positive hr c.at) ∙ before)

      small : IsSmall first.0
      small =
          let there : LiesOn segments first.0 = lies_on first.0 hr r_parts.1 in
          let y : HasYFrom (neg_ℤ (pos coordinate_max)) (pos coordinate_max) first.0 = y_on_proper there.segment first.0 (All-contains IsProper segments there.segment proper there.among) hr there.on in
          record { positive = hr; few = most_few first.0.w (All-contains IsFew places first.0 few_places first.1.among); low = low_of first.0.w first.0.y hr y.low; high = high_of first.0.w first.0.y hr y.high }
        where
          most_few : (w : ℤ) → w ≤ℤ pos (2 ^ 43) → w ≤ℤ pos (2 ^ 87)
          most_few w h = omega (arith, ints, h)

          low_of : (w y : ℤ) → pos 0 <ℤ w → (neg_ℤ (pos coordinate_max) *ℤ w) ≤ℤ y → neg_ℤ (pos 2097152 *ℤ w) ≤ℤ y
          low_of w y k h = omega (arith, ints, h, k)

          high_of : (w y : ℤ) → pos 0 <ℤ w → y ≤ℤ (pos coordinate_max *ℤ w) → y ≤ℤ (pos 2097152 *ℤ w)
          high_of w y k h = omega (arith, ints, h, k)

      pub next : (r : Point) × IsNextNode segments q r × (point_cmp z r ≡ Less → ⊥)
      next = (first.0, record { small = small; node = r_parts.1; after = after_less first.0 r_parts.0; clear = none_before }, λ h. none_before z hz node less h)

  -- ---- how many of them come after a place
  pub rest_of : Point → ℕ
  rest_of q = count_by (λ c. int_lt (pos 0) c.w && is_lt (point_cmp q c)) places

  -- as many as there are places, at most
  pub few_rest : (q : Point) → rest_of q ≤ length places
  unfolding rest_of
  few_rest q = count_by-le-length (λ c. int_lt (pos 0) c.w && is_lt (point_cmp q c)) places

  pub fewer : (q r : Point) → pos 0 <ℤ q.w → pos 0 <ℤ r.w → IsTrue (is_node segments r) → point_cmp q r ≡ Less → rest_of r < rest_of q
  unfolding rest_of
  fewer q r hq hr node less =
      let c : IsAmong places r = node_place r hr node in
      count_less (λ c. int_lt (pos 0) c.w && is_lt (point_cmp r c)) (λ c. int_lt (pos 0) c.w && is_lt (point_cmp q c)) places c.point c.among
      (λ i d l h. let e = get_or places i d in
      after_test q hq e (after_positive r hr e h) (less_through q r e hq hr (after_positive r hr e h) less (after_less r hr e h)))
      (false_from_ne_true (int_lt (pos 0) c.point.w && is_lt (point_cmp r c.point)) (λ h. not_before_self r c.point hr c.positive c.at (after_less r hr c.point h)))
      (after_test q hq c.point c.positive (sym (alike_right q r c.point hq hr c.positive c.at) ∙ less))

pub each_has_next : EachHasNext
each_has_next segments q z proper hq hz node less = next segments proper q hq z hz node less

pub nodes_run_out : NodesRunOut
nodes_run_out segments proper = (rest_of segments proper, fewer segments proper)
