-- The places that some names stand for, and those that are known before a pass.
use Rattle.std.proofs.Common.{◌≡◌, ℕ, ℤ, pos, ◌+◌, ◌-◌, ◌<◌, ◌≤◌, ◌*ℤ◌, ◌<ℤ◌, ◌≤ℤ◌, ◌-ℤ◌, ◌^◌, neg_ℤ, int_le, inl, inr, ◌⊎◌, true, false, List, [], ◌∷◌, ◌++◌, map, take, length, get_or, ap, sym, subst, ◌∙◌, append-nil, arith}
use Rattle.std.specs.Prelude.{IsTrue, All, Any, Contains, Option, Some, None, flat_map, ◌||◌, ◌&&◌, not}
use Rattle.std.specs.List.{list_any, range_with_len}
use Rattle.std.specs.Ordering.{int_eq}
use Rattle.std.proofs.lemmas.Int.{ints, by_lt_z}
use Rattle.std.proofs.lemmas.Bool.{both_ways, and_parts, and_from, or_cases, or_left, or_right, not-true}
use Rattle.std.proofs.lemmas.List.Elements.{All-contains, All-map, Contains-append_left, Contains-append_right, Contains-append_cases}
use Rattle.std.proofs.lemmas.List.Folds.{Any-from_list_any}
use Rattle.overlay_terms.specs.Plane.{Point, Segment, whole, same_place, is_on, coordinate_max, denominator_max}
use Rattle.overlay_terms.specs.Column.{border, columns, column_count}
use Rattle.overlay_terms.specs.Tiles.{is_end, is_crossing, is_on_border, is_node, is_vertical}
use Rattle.overlay_terms.specs.TileLaws.{IsProper}
use Rattle.overlay_terms.proofs.InputNumbers.{border_found, false_eq, le_true, true_le, most_back, most_times, last_turned, between_from_on, times_one}
use Rattle.overlay_terms.proofs.InputLists.{any_from_Contains}
use Rattle.overlay_terms.proofs.Lists.{any_from, any_contains, Contains-cons_cases, none_in_empty, contains_map, contains_first, contains_rest, from_map, in_flat_map, from_flat_map}
use Rattle.exact_point.specs.Place.{place}
use Rattle.exact_point.specs.PlaceOf.{place_of}
use Rattle.exact_point.specs.PointName.{HasPlace, IsPlaceOf, IsOnlyPlaceOf, IsCutOf}
use Rattle.exact_point.specs.declared.point.HPoint.{HPoint}
use Rattle.exact_point.specs.declared.point_name.PointName.{PointName}
use Rattle.exact_point.specs.declared.point_name.PointName.TheVariants.{Vertex, Border}
use Rattle.exact_point.proofs.BorderLemmas.{one_over_x}
use Rattle.exact_point.proofs.Nodes.{node_at_end, end_among}
use Rattle.exact_point.proofs.OnSegment.{leads}
use Rattle.exact_point.proofs.Lexical.{Forward}
use Rattle.std.proofs.lemmas.List.FromFn.{get_or-range_with_len, length-range_with_len, get_or-map-range_with_len, length-map-range_with_len}
use Rattle.overlay_terms.specs.Layers.{Marked}
use Rattle.overlay_terms.proofs.Tests.{same_tests}
use Rattle.overlay_terms.proofs.Whole.{less_by, same_most}
use Rattle.exact_point.proofs.OnLine.{on_line, left_on_line, right_on_line}
use Rattle.exact_point.proofs.PlaceOrder.{same_turned, same_through, level_from, level_test}
use Rattle.arrange.specs.declared.marked_seg.MarkedSeg.{MarkedSeg}
use Rattle.arrange.proofs.FoundLemmas.{place_positive}
use Rattle.std.proofs.lemmas.List.{take_more, map-append}
use Rattle.std.proofs.lemmas.Grind.{flat_map-append}
use Rattle.crossing_sweep.specs.StripInput.{StripInput, IsStripInput, segments_in, is_in_closed_strip, Span}
use Rattle.crossing_sweep.specs.Leaning.{IsSmall}
use Rattle.crossing_sweep.specs.Queue.{IsUpTo, IsQueued}
use Rattle.crossing_sweep.specs.Ahead.{points_of, cut_names, known_names, HasAdded, HasEnds, IsOffered, AreOffered, AreKnownPlaces}
use Rattle.crossing_sweep.proofs.PassLemmas.{all_of}

-- ---- one more name
module _ (strip : Span) (names : List PointName) (name : PointName) (old : List (HPoint × PointName)) (are : AreOffered strip names old) where
  abbrev IsAt : Point → HPoint × PointName → Type 0
  IsAt p e = IsTrue (same_place p (place e.0))

  more_offered : (e : HPoint × PointName) → IsOffered strip names e → IsOffered strip (names ++ name ∷ []) e
  more_offered e is = record { named = is.named; told = is.told; stands = is.stands; in_strip = is.in_strip; offered = Contains-append_left names (name ∷ []) e.1 is.offered }

  one : (other : PointName) → Contains (name ∷ []) other → name ≡ other
  one other c = by (Contains-cons_cases name [] other c)
    where
      by : (name ≡ other) ⊎ Contains [] other → name ≡ other
      by (inl e) = e
      by (inr h) = absurd (none_in_empty other h)

  -- it stands for a place that has been added
  pub offered_added : (at : HPoint) (new : List (HPoint × PointName)) → IsOffered strip (names ++ name ∷ []) (at, name) → IsOnlyPlaceOf name (place at) → HasAdded old at name new → AreOffered strip (names ++ name ∷ []) new
  offered_added at new is only added = record {
    sound = all_of (IsOffered strip (names ++ name ∷ [])) new (λ e c. sound e (added.only e c));
    complete = λ other p c hp stands within. complete other p (Contains-append_cases names (name ∷ []) other c) hp stands within;
  }
    where
      sound : (e : HPoint × PointName) → Contains old e ⊎ ((at, name) ≡ e) → IsOffered strip (names ++ name ∷ []) e
      sound e (inl c) = more_offered e (All-contains (IsOffered strip names) old e are.sound c)
      sound e (inr f) = subst (λ (e : HPoint × PointName). IsOffered strip (names ++ name ∷ []) e) f is

      complete : (other : PointName) (p : Point) → Contains names other ⊎ Contains (name ∷ []) other → pos 0 <ℤ p.w → IsPlaceOf other p → IsTrue (is_in_closed_strip strip p) → Any (IsAt p) new
      complete other p (inl c) hp stands within =
          let a = are.complete other p c hp stands within in
          any_from (IsAt p) new a.1 (added.kept a.1 (any_contains (IsAt p) old a)) a.4
      complete other p (inr c) hp stands within =
          let same : IsTrue (same_place (place at) p) = only p hp (subst (λ n. IsPlaceOf n p) (sym (one other c)) stands) in
          let a = added.there in
          any_from (IsAt p) new a.1 (any_contains (λ e. IsTrue (same_place (place at) (place e.0))) new a)
          (same_through p (place at) (place a.1.0) hp (place_positive at) (place_positive a.1.0) (same_turned (place at) p same) a.4)

  -- or for none in the closed strip
  pub offered_nowhere : ((p : Point) → pos 0 <ℤ p.w → IsPlaceOf name p → IsTrue (is_in_closed_strip strip p) → ⊥) → AreOffered strip (names ++ name ∷ []) old
  offered_nowhere nowhere = record {
    sound = all_of (IsOffered strip (names ++ name ∷ [])) old (λ e c. more_offered e (All-contains (IsOffered strip names) old e are.sound c));
    complete = λ other p c hp stands within. complete other p (Contains-append_cases names (name ∷ []) other c) hp stands within;
  }
    where
      complete : (other : PointName) (p : Point) → Contains names other ⊎ Contains (name ∷ []) other → pos 0 <ℤ p.w → IsPlaceOf other p → IsTrue (is_in_closed_strip strip p) → Any (IsAt p) old
      complete other p (inl c) hp stands within = are.complete other p c hp stands within
      complete other p (inr c) hp stands within = absurd (nowhere p hp (subst (λ n. IsPlaceOf n p) (sym (one other c)) stands) within)

  -- it is one of them
  pub offered_again : Contains names name → AreOffered strip (names ++ name ∷ []) old
  offered_again there = record {
    sound = all_of (IsOffered strip (names ++ name ∷ [])) old (λ e c. more_offered e (All-contains (IsOffered strip names) old e are.sound c));
    complete = λ other p c hp stands within. complete other p (Contains-append_cases names (name ∷ []) other c) hp stands within;
  }
    where
      complete : (other : PointName) (p : Point) → Contains names other ⊎ Contains (name ∷ []) other → pos 0 <ℤ p.w → IsPlaceOf other p → IsTrue (is_in_closed_strip strip p) → Any (IsAt p) old
      complete other p (inl c) hp stands within = are.complete other p c hp stands within
      complete other p (inr c) hp stands within = are.complete other p (subst (λ n. Contains names n) (one other c) there) hp stands within

-- the ends of the segment before
pub more_ends : (names more : List PointName) (before : Option Segment) → HasEnds names before → HasEnds (names ++ more) before
more_ends names more None h = h
more_ends names more (Some s) h = (Contains-append_left names more (Vertex s.left) h.0, Contains-append_left names more (Vertex s.right) h.1)

pub own_ends : (k : Span) (names : List PointName) (s : Segment) → HasEnds (names ++ known_names s k) (Some s)
own_ends k names s = (
  Contains-append_right names (known_names s k) (Vertex s.left) (contains_first (Vertex s.left) (Vertex s.right ∷ cut_names s k)),
  Contains-append_right names (known_names s k) (Vertex s.right) (contains_rest (Vertex s.left) (Vertex s.right ∷ cut_names s k) (Vertex s.right) (contains_first (Vertex s.right) (cut_names s k))),
)

most_alike : (b x w y v : ℤ) → pos 0 <ℤ w → pos 0 <ℤ v → x *ℤ v ≡ y *ℤ w → (b *ℤ w) ≤ℤ x → (b *ℤ v) ≤ℤ y
most_alike b x w y v hw hv e h = most_back (b *ℤ v) y w hw (omega (arith, ints, e, most_times (b *ℤ w) x v hv h, last_turned b w v))

least_alike : (b x w y v : ℤ) → pos 0 <ℤ w → pos 0 <ℤ v → x *ℤ v ≡ y *ℤ w → x ≤ℤ (b *ℤ w) → y ≤ℤ (b *ℤ v)
least_alike b x w y v hw hv e h = most_back y (b *ℤ v) w hw (omega (arith, ints, e, most_times x (b *ℤ w) v hv h, last_turned b w v))

pub within_alike : (strip : Span) (p z : Point) → pos 0 <ℤ p.w → pos 0 <ℤ z.w → IsTrue (same_place p z) → is_in_closed_strip strip p ≡ is_in_closed_strip strip z
within_alike strip p z hp hz same = same_tests (is_in_closed_strip strip p) (is_in_closed_strip strip z) (through p z hp hz same) (through z p hz hp (same_turned p z same))
  where
    through : (p z : Point) → pos 0 <ℤ p.w → pos 0 <ℤ z.w → IsTrue (same_place p z) → is_in_closed_strip strip p ≡ true → is_in_closed_strip strip z ≡ true
    through p z hp hz same h =
        let parts = and_parts (int_le (border strip.first *ℤ p.w) p.x) (int_le p.x (border (strip.last + 1) *ℤ p.w)) h in
        let one = level_from (p.x *ℤ z.w) (z.x *ℤ p.w) (and_parts (int_eq (p.x *ℤ z.w) (z.x *ℤ p.w)) (int_eq (p.y *ℤ z.w) (z.y *ℤ p.w)) same).0 in
        and_from (int_le (border strip.first *ℤ z.w) z.x) (int_le z.x (border (strip.last + 1) *ℤ z.w))
        (true_le (border strip.first *ℤ z.w) z.x (most_alike (border strip.first) p.x p.w z.x z.w hp hz one (le_true (border strip.first *ℤ p.w) p.x parts.0)))
        (true_le z.x (border (strip.last + 1) *ℤ z.w) (least_alike (border (strip.last + 1)) p.x p.w z.x z.w hp hz one (le_true p.x (border (strip.last + 1) *ℤ p.w) parts.1)))

-- one more segment offers its names
pub own_more : (k : Span) (items : List MarkedSeg) (i : ℕ) (x : MarkedSeg) → i < length items → x ≡ get_or items i x
    → flat_map (λ s. known_names s k) (map (λ (m : MarkedSeg). m.seg) (take i items)) ++ known_names x.seg k ≡ flat_map (λ s. known_names s k) (map (λ (m : MarkedSeg). m.seg) (take (i + 1) items))
own_more k items i x h e =
    let seg : MarkedSeg → Segment = λ m. m.seg in
    let own : Segment → List PointName = λ s. known_names s k in
    sym (
    ap (λ xs. flat_map own (map seg xs)) (take_more items i x h)
    ∙ ap (flat_map own) (map-append seg (take i items) (get_or items i x ∷ []))
    ∙ flat_map-append own (map seg (take i items)) (seg (get_or items i x) ∷ [])
    ∙ ap (λ (l : List PointName). flat_map own (map seg (take i items)) ++ l) (append-nil (own (seg (get_or items i x))))
    ∙ ap (λ y. flat_map own (map seg (take i items)) ++ own (seg y)) (sym e))

-- ---- what is known before a pass
pub point_small : (p : HPoint) → IsSmall (place p)
point_small p = record { positive = place_positive p; few = few p.w p.w_high; low = low p.w p.y (place_positive p) p.y_low; high = high p.w p.y (place_positive p) p.y_high }
  where
    few : (w : ℤ) → w ≤ℤ pos denominator_max → w ≤ℤ pos (2 ^ 87)
    few w h = omega (arith, ints, h)

    low : (w y : ℤ) → pos 0 <ℤ w → neg_ℤ (pos coordinate_max *ℤ w) ≤ℤ y → neg_ℤ (pos 2097152 *ℤ w) ≤ℤ y
    low w y h k = omega (arith, ints, h, k)

    high : (w y : ℤ) → pos 0 <ℤ w → y ≤ℤ (pos coordinate_max *ℤ w) → y ≤ℤ (pos 2097152 *ℤ w)
    high w y h k = omega (arith, ints, h, k)

in_columns : (j : ℕ) → Contains columns j → j < column_count
in_columns j c = omega (arith, c.1, length-range_with_len 0 column_count, sym (get_or-range_with_len 0 column_count c.0 j (omega (arith, c.1, length-range_with_len 0 column_count))) ∙ c.2)

-- a segment that is not vertical leads right
wide_of : (s : Segment) → IsProper s → is_vertical s ≡ false → s.left.x <ℤ s.right.x
wide_of s proper slanted = by (leads s proper.first)
  where
    same : (l r : ℤ) → r -ℤ l ≡ pos 0 → l ≡ r
    same l r h = omega (arith, ints, h)

    by : Forward (s.right.x -ℤ s.left.x) (s.right.y -ℤ s.left.y) → s.left.x <ℤ s.right.x
    by (inl h) = less_by s.left.x s.right.x h
    by (inr h) = absurd (both_ways (is_vertical s) slanted (level_test s.left.x s.right.x (same s.left.x s.right.x h.0)))

-- borders are in the order of their numbers
border_back : (j k : ℕ) → border j ≤ℤ border k → j ≤ k
border_back j k h = omega (arith, ints, h)

-- each border of a strip is among those that may cut a segment
cut_there : (s : Segment) (strip : Span) (j : ℕ) → strip.first ≤ j → j ≤ strip.last + 1 → Contains (cut_names s strip) (Border s j)
cut_there s strip j from to =
    let inside : j - strip.first < strip.last + 2 - strip.first = omega (arith, from, to) in
    let back : strip.first + (j - strip.first) ≡ j = omega (arith, from) in (
      j - strip.first,
      omega (arith, length-map-range_with_len (λ (k : ℕ). Border s k) strip.first (strip.last + 2 - strip.first), inside),
      get_or-map-range_with_len (λ (k : ℕ). Border s k) strip.first (strip.last + 2 - strip.first) (j - strip.first) j (Border s j) inside back,
    )

module _ (input : StripInput) (is : IsStripInput input) (found : List (HPoint × PointName)) (are : AreOffered input.strip (flat_map (λ s. known_names s input.strip) (segments_in input)) found) where
  abbrev segments : List Segment
  segments = segments_in input

  abbrev own : Segment → List PointName
  own s = known_names s input.strip

  entry : (e : HPoint × PointName) → Contains found e → IsOffered input.strip (flat_map own segments) e
  entry e c = All-contains (IsOffered input.strip (flat_map own segments)) found e are.sound c

  proper : (s : Segment) → Contains segments s → IsProper s
  proper s c = All-contains IsProper segments s (All-map IsProper (λ (m : Marked). m.segment) input.marked is.proper) c

  -- ---- each of them is an end or lies on a border
  fixed_of : (s : Segment) → Contains segments s → (name : PointName) → Contains (own s) name → (z : Point) → pos 0 <ℤ z.w → IsPlaceOf name z → IsTrue (is_end segments z || is_on_border segments z)
  fixed_of s among name c z hz stands = first (Contains-cons_cases (Vertex s.left) (Vertex s.right ∷ cut_names s input.strip) name c)
    where
      at_end : IsTrue (is_end segments z) → IsTrue (is_end segments z || is_on_border segments z)
      at_end e = or_left (is_end segments z) (is_on_border segments z) e

      at_cut : (j : ℕ) → IsCutOf s j z → IsTrue (is_end segments z || is_on_border segments z)
      at_cut j cut =
          or_right (is_end segments z) (is_on_border segments z)
          (and_from _ _ (border_found j z cut.cut.known_column cut.on_border)
          (any_from_Contains (λ t. is_on t z && not (is_vertical t)) segments s among
          (and_from _ _ cut.on_segment (false_eq s.left.x s.right.x (wide s.left.x (border j) s.right.x cut.cut.after_left cut.cut.before_right)))))
        where
          wide : (l b r : ℤ) → l <ℤ b → b <ℤ r → l <ℤ r
          wide l b r h k = omega (arith, ints, h, k)

      third : Contains (cut_names s input.strip) name → IsTrue (is_end segments z || is_on_border segments z)
      third h =
          let d = from_map (λ (k : ℕ). Border s k) (range_with_len input.strip.first (input.strip.last + 2 - input.strip.first)) name h in
          at_cut d.0 (subst (λ n. IsPlaceOf n z) (sym d.2) stands)

      second : (Vertex s.right ≡ name) ⊎ Contains (cut_names s input.strip) name → IsTrue (is_end segments z || is_on_border segments z)
      second (inl e) =
          at_end (end_among segments s among z
          (or_right (same_place z (whole s.left)) (same_place z (whole s.right)) (same_turned (whole s.right) z (subst (λ n. IsPlaceOf n z) (sym e) stands))))
      second (inr h) = third h

      first : (Vertex s.left ≡ name) ⊎ Contains (Vertex s.right ∷ cut_names s input.strip) name → IsTrue (is_end segments z || is_on_border segments z)
      first (inl e) =
          at_end (end_among segments s among z
          (or_left (same_place z (whole s.left)) (same_place z (whole s.right)) (same_turned (whole s.left) z (subst (λ n. IsPlaceOf n z) (sym e) stands))))
      first (inr h) = second (Contains-cons_cases (Vertex s.right) (cut_names s input.strip) name h)

  is_fixed : (e : HPoint × PointName) → Contains found e → IsTrue (is_end segments (place e.0) || is_on_border segments (place e.0))
  is_fixed e c =
      let offered = from_flat_map own segments e.1 (entry e c).offered in
      fixed_of offered.0 offered.1 e.1 offered.2 (place e.0) (place_positive e.0) (entry e c).stands

  -- so it is a node
  node : (e : HPoint × PointName) → Contains found e → IsTrue (is_node segments (place e.0))
  node e c = by (or_cases (is_end segments (place e.0)) (is_on_border segments (place e.0)) (is_fixed e c))
    where
      by : (is_end segments (place e.0) ≡ true) ⊎ (is_on_border segments (place e.0) ≡ true) → IsTrue (is_node segments (place e.0))
      by (inl h) = node_at_end segments (place e.0) h
      by (inr h) = or_right (is_end segments (place e.0) || is_crossing segments (place e.0)) (is_on_border segments (place e.0)) h

  -- ---- all ends and border places are among them
  module _ (p : Point) (hp : pos 0 <ℤ p.w) (from : (border input.strip.first *ℤ p.w) ≤ℤ p.x) (up_to : IsUpTo input.strip p) where
    within : IsTrue (is_in_closed_strip input.strip p)
    within =
        and_from (int_le (border input.strip.first *ℤ p.w) p.x) (int_le p.x (border (input.strip.last + 1) *ℤ p.w)) (true_le (border input.strip.first *ℤ p.w) p.x from)
        (true_le p.x (border (input.strip.last + 1) *ℤ p.w) up_to)

    there : (s : Segment) (name : PointName) → Contains segments s → Contains (own s) name → IsPlaceOf name p → IsQueued (points_of found) p
    there s name among c stands =
        let a = are.complete name p (in_flat_map own segments s name among c) hp stands within in
        any_from (λ z. IsTrue (same_place p z)) (points_of found) (place a.1.0) (contains_map (λ (e : HPoint × PointName). place e.0) found a.1 (any_contains (λ e. IsTrue (same_place p (place e.0))) found a)) a.4

    at_left_end : (s : Segment) → Contains segments s → IsTrue (same_place p (whole s.left)) → IsQueued (points_of found) p
    at_left_end s among e = there s (Vertex s.left) among (contains_first (Vertex s.left) (Vertex s.right ∷ cut_names s input.strip)) (same_turned p (whole s.left) e)

    at_right_end : (s : Segment) → Contains segments s → IsTrue (same_place p (whole s.right)) → IsQueued (points_of found) p
    at_right_end s among e = there s (Vertex s.right) among (contains_rest (Vertex s.left) (Vertex s.right ∷ cut_names s input.strip) (Vertex s.right) (contains_first (Vertex s.right) (cut_names s input.strip))) (same_turned p (whole s.right) e)

    by_end : is_end segments p ≡ true → IsQueued (points_of found) p
    by_end h =
        let which = Any-from_list_any (λ s. same_place p (whole s.left) || same_place p (whole s.right)) segments h in
        by which.1 (any_contains (λ s. IsTrue (same_place p (whole s.left) || same_place p (whole s.right))) segments which) (or_cases (same_place p (whole which.1.left)) (same_place p (whole which.1.right)) which.4)
      where
        by : (s : Segment) → Contains segments s → (same_place p (whole s.left) ≡ true) ⊎ (same_place p (whole s.right) ≡ true) → IsQueued (points_of found) p
        by s among (inl e) = at_left_end s among e
        by s among (inr e) = at_right_end s among e

    -- on a border, of a segment that is not vertical
    module _ (s : Segment) (among : Contains segments s) (on : IsTrue (is_on s p)) (wide : s.left.x <ℤ s.right.x) (j : ℕ) (known : j < column_count) (over : p.x ≡ border j *ℤ p.w) where
      over_left : border j ≡ s.left.x → IsQueued (points_of found) p
      over_left e =
          at_left_end s among
          (same_turned (whole s.left) p (one_over_x s (whole s.left) p wide (left_on_line s) (on_line s p on) (sym (over ∙ ap (λ z. z *ℤ p.w) e) ∙ sym (times_one p.x))))

      over_right : border j ≡ s.right.x → IsQueued (points_of found) p
      over_right e =
          at_right_end s among
          (same_turned (whole s.right) p (one_over_x s (whole s.right) p wide (right_on_line s) (on_line s p on) (sym (over ∙ ap (λ z. z *ℤ p.w) e) ∙ sym (times_one p.x))))

      over_cut : s.left.x <ℤ border j → border j <ℤ s.right.x → IsQueued (points_of found) p
      over_cut low high =
          there s (Border s j) among
          (contains_rest (Vertex s.left) (Vertex s.right ∷ cut_names s input.strip) (Border s j) (contains_rest (Vertex s.right) (cut_names s input.strip) (Border s j)
          (cut_there s input.strip j (border_back input.strip.first j (most_back (border input.strip.first) (border j) p.w hp (rw (← over) from))) (border_back j (input.strip.last + 1) (most_back (border j) (border (input.strip.last + 1)) p.w hp (rw (← over) up_to))))))
          (record { cut = record { known_column = known; after_left = low; before_right = high }; on_segment = on; on_border = over })

      at_border : IsQueued (points_of found) p
      at_border =
          by_lt_z s.left.x (border j)
          (λ low. by_lt_z (border j) s.right.x (over_cut low) (λ high. over_right (same_most (border j) s.right.x (most_back (border j) s.right.x p.w hp (rw (← over) (between_from_on s p on).to_right)) high)))
          (λ low. over_left (sym (same_most s.left.x (border j) (most_back s.left.x (border j) p.w hp (rw (← over) (between_from_on s p on).from_left)) low)))

    by_border : is_on_border segments p ≡ true → IsQueued (points_of found) p
    by_border h =
        let parts = and_parts (list_any (λ k. int_eq p.x (border k *ℤ p.w)) columns) (list_any (λ s. is_on s p && not (is_vertical s)) segments) h in
        let border_there = Any-from_list_any (λ k. int_eq p.x (border k *ℤ p.w)) columns parts.0 in
        let held = Any-from_list_any (λ s. is_on s p && not (is_vertical s)) segments parts.1 in
        let tests = and_parts (is_on held.1 p) (not (is_vertical held.1)) held.4 in
        let among = any_contains (λ s. IsTrue (is_on s p && not (is_vertical s))) segments held in
        at_border held.1 among tests.0 (wide_of held.1 (proper held.1 among) (not-true (is_vertical held.1) tests.1)) border_there.1
        (in_columns border_there.1 (any_contains (λ k. IsTrue (int_eq p.x (border k *ℤ p.w))) columns border_there)) (level_from p.x (border border_there.1 *ℤ p.w) border_there.4)

    fixed : IsTrue (is_end segments p || is_on_border segments p) → IsQueued (points_of found) p
    fixed h = by (or_cases (is_end segments p) (is_on_border segments p) h)
      where
        by : (is_end segments p ≡ true) ⊎ (is_on_border segments p ≡ true) → IsQueued (points_of found) p
        by (inl e) = by_end e
        by (inr e) = by_border e

  in_strip : (e : HPoint × PointName) → Contains found e → ((border input.strip.first *ℤ e.0.w) ≤ℤ e.0.x) × (e.0.x ≤ℤ (border (input.strip.last + 1) *ℤ e.0.w))
  in_strip e c =
      let parts = and_parts (int_le (border input.strip.first *ℤ e.0.w) e.0.x) (int_le e.0.x (border (input.strip.last + 1) *ℤ e.0.w)) (entry e c).in_strip in
      (le_true (border input.strip.first *ℤ e.0.w) e.0.x parts.0, le_true e.0.x (border (input.strip.last + 1) *ℤ e.0.w) parts.1)

  all_points : (P : Point → Type 0) → ((e : HPoint × PointName) → Contains found e → P (place e.0)) → All P (points_of found)
  all_points P h = All-map P (λ (e : HPoint × PointName). place e.0) found (all_of (λ (e : HPoint × PointName). P (place e.0)) found h)

  pub known_places : AreKnownPlaces input found
  known_places = record {
    points = record {
      small = all_points IsSmall (λ e c. point_small e.0);
      nodes = all_points (λ z. IsTrue (is_node segments z)) node;
      from = all_points (λ z. (border input.strip.first *ℤ z.w) ≤ℤ z.x) (λ e c. (in_strip e c).0);
      up_to = all_points (IsUpTo input.strip) (λ e c. (in_strip e c).1);
      fixed = λ p hp h from up_to. fixed p hp from up_to h;
    };
    named = all_of (λ (e : HPoint × PointName). HasPlace e.1 × (place e.0 ≡ place_of e.1)) found (λ e c. ((entry e c).named, (entry e c).told));
    fixed = all_of (λ (e : HPoint × PointName). IsTrue (is_end segments (place e.0) || is_on_border segments (place e.0))) found is_fixed;
  }
