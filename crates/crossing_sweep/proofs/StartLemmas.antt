-- Where a pass over a strip meets a unit first, and the order of those that wait at the left border.
use Rattle.std.proofs.Common.{◌≡◌, ℕ, ℤ, pos, ◌+◌, ◌<◌, ◌*ℤ◌, ◌<ℤ◌, ◌≤ℤ◌, neg_ℤ, int_le, inl, inr, ◌⊎◌, true, false, Bool, cond, List, [], ◌∷◌, ◌++◌, map, take, length, get_or, ap, sym, subst, ◌∙◌, arith}
use Rattle.std.specs.Prelude.{IsTrue, All, Contains, filter}
use Rattle.std.specs.List.{AllPairs, IsDistinct}
use Rattle.std.specs.List.Sorted.{IsPermutation, IsSorted}
use Rattle.std.specs.Ordering.{is_lt, int_cmp, ordering_then}
use Rattle.std.specs.Cmp.{int_cmp_is}
use Rattle.std.proofs.lemmas.List.{map-append, append-nil}
use Rattle.std.proofs.lemmas.List.Elements.{All-map, All-contains, Contains-get_or, filter_more}
use Rattle.std.proofs.lemmas.List.Kept.{AllPairs-filter}
use Rattle.std.proofs.lemmas.List.Sorted.{Contains-permutation, IsPermutation-sym, sorted_far, ranks_by}
use Rattle.std.proofs.lemmas.Map.Keys.{IsDistinct-IsPermutation, IsDistinct-from_apart, apart_from_distinct}
use Rattle.overlay_terms.specs.SameInput.{same_segment, same_segment-Decides}
use Rattle.overlay_terms.proofs.Lists.{contains_map, from_map}
use Rattle.exact_point.specs.Crossing.{turn_of}
use Rattle.exact_point.specs.Place.{place}
use Rattle.exact_point.proofs.Lines.{width, rise}
use Rattle.arrange.specs.declared.unit.Unit.{Unit}
use Rattle.crossing_sweep.specs.StripInput.{StripInput, Span}
use Rattle.crossing_sweep.specs.declared.start.Start.{Start}
use Rattle.crossing_sweep.specs.Queue.{IsUpTo}
use Rattle.crossing_sweep.specs.Beginning.{IsMetBefore}
use Rattle.overlay_terms.proofs.Pairs.{pairs_map, pairs_from_map}
use Rattle.crossing_sweep.proofs.PassLemmas.{all_of, filter_contains, contains_filter}
use Rattle.crossing_sweep.proofs.KnownLemmas.{point_small}
use Rattle.std.proofs.lemmas.Int.{ints, by_lt_z}
use Rattle.std.proofs.lemmas.Bool.{both_ways, and_parts, and_from, false_from_ne_true}
use Rattle.std.specs.declared.cmp.Ordering.TheVariants.{Less}
use Rattle.overlay_terms.specs.Plane.{Point, Segment, whole, whole_cmp, point_cmp, same_place, is_on, height_over}
use Rattle.overlay_terms.specs.Column.{border}
use Rattle.overlay_terms.specs.Tiles.{is_parallel}
use Rattle.overlay_terms.specs.Layers.{Marked}
use Rattle.overlay_terms.proofs.InputNumbers.{lt_true, true_lt, le_true, true_le, less_times, in_order_by_x}
use Rattle.overlay_terms.proofs.Whole.{turn_back}
use Rattle.overlay_terms.proofs.Tests.{same_tests}
use Rattle.exact_point.proofs.OnLine.{on_line, left_on_line, right_on_line, within_on, parallel_line, turn_from_parallel, no_turn_back, parallel_from_turn, before_right}
use Rattle.exact_point.proofs.PlaceOrder.{on_same, equal_from_same, same_turned, Way, before, at, after, way_of, one_positive, less_through, not_before_self, same_self, alike_right, not_after_less}
use Rattle.arrange.specs.Units.{IsUnit, AreUnits}
use Rattle.arrange.proofs.UnitCover.{one_point}
use Rattle.arrange.proofs.UnitMeeting.{not_parallel}
use Rattle.arrange.proofs.FoundLemmas.{place_positive}
use Rattle.crossing_sweep.specs.Passing.{begins_left, IsEntry}
use Rattle.crossing_sweep.specs.Start.{is_met, start_cmp, start_total, AreStarts}
use Rattle.crossing_sweep.proofs.StretchLemmas.{ends_in_order}

pub left_held : (s : Segment) → whole_cmp s.left s.right ≡ Less → IsTrue (is_on s (whole s.left))
left_held s ahead =
    within_on s (whole s.left) one_positive (left_on_line s) (not_before_self (whole s.left) (whole s.left) one_positive one_positive (same_self (whole s.left)))
    (not_after_less (whole s.left) (whole s.right) one_positive one_positive (ends_in_order s ahead))

pub right_held : (s : Segment) → whole_cmp s.left s.right ≡ Less → IsTrue (is_on s (whole s.right))
right_held s ahead =
    within_on s (whole s.right) one_positive (right_on_line s) (not_after_less (whole s.left) (whole s.right) one_positive one_positive (ends_in_order s ahead))
    (not_before_self (whole s.right) (whole s.right) one_positive one_positive (same_self (whole s.right)))

module _ (strip : Span) (s : Segment) (ahead : whole_cmp s.left s.right ≡ Less) where
  -- one that does not begin left of the strip is met at its left end
  pub entry_left : border strip.first ≤ℤ s.left.x → IsEntry strip s (whole s.left)
  entry_left h = record {
    positive = one_positive;
    on = left_held s ahead;
    cut = λ e. absurd (not_left (border strip.first) s.left.x h (lt_true s.left.x (border strip.first) e));
    left = λ e. same_self (whole s.left);
  }
    where
      not_left : (b l : ℤ) → b ≤ℤ l → l <ℤ b → ⊥
      not_left b l h k = omega (arith, ints, h, k)

  -- one that ends on the left border is met there
  pub entry_right : s.left.x <ℤ border strip.first → s.right.x ≤ℤ border strip.first → IsTrue (is_met strip s) → IsEntry strip s (whole s.right)
  entry_right h k met = record {
    positive = one_positive;
    on = right_held s ahead;
    cut = λ e. level s.right.x (border strip.first) k (le_true (border strip.first) s.right.x (and_parts (int_le s.left.x (border (strip.last + 1))) (int_le (border strip.first) s.right.x) met).1);
    left = λ e. absurd (both_ways (begins_left strip s) e (true_lt s.left.x (border strip.first) h));
  }
    where
      level : (r b : ℤ) → r ≤ℤ b → b ≤ℤ r → r ≡ b *ℤ pos 1
      level r b h k = omega (arith, ints, h, k)

-- ---- two units that begin left of one place that both hold
module _ (marked : List Marked) (a b : Segment) (is_a : IsUnit marked a) (is_b : IsUnit marked b) (apart : a ≡ b → ⊥) where
  flipped : is_parallel b a ≡ false → is_parallel a b ≡ true → ⊥
  flipped f e = both_ways (is_parallel b a) f (parallel_from_turn b a (no_turn_back a b (turn_from_parallel a b e)))

  apart_back : b ≡ a → ⊥
  apart_back e = apart (sym e)

  -- a place of both strictly inside the first, or inside the second
  inside_first : (p : Point) → pos 0 <ℤ p.w → IsTrue (is_on a p) → IsTrue (is_on b p) → point_cmp (whole a.left) p ≡ Less → point_cmp p (whole a.right) ≡ Less → is_parallel a b ≡ true → ⊥
  inside_first p hp on_a on_b low high e = both_ways (is_parallel a b) (not_parallel marked a b is_a is_b apart p hp on_a on_b low high) e

  inside_second : (p : Point) → pos 0 <ℤ p.w → IsTrue (is_on a p) → IsTrue (is_on b p) → point_cmp (whole b.left) p ≡ Less → point_cmp p (whole b.right) ≡ Less → is_parallel a b ≡ true → ⊥
  inside_second p hp on_a on_b low high e = flipped (not_parallel marked b a is_b is_a apart_back p hp on_b on_a low high) e

  -- so they are not parallel
  pub not_along : (z : Point) → pos 0 <ℤ z.w → IsTrue (is_on a z) → IsTrue (is_on b z) → point_cmp (whole a.left) z ≡ Less → point_cmp (whole b.left) z ≡ Less → is_parallel a b ≡ true → ⊥
  not_along z hz on_a on_b later_a later_b e = by (way_of (whole a.left) (whole b.left) one_positive one_positive)
    where
      -- what one line holds the other holds
      level_b : (p : Point) → height_over a p ≡ pos 0 → height_over b p ≡ pos 0
      level_b p h = parallel_line a b z p is_a.forward (turn_from_parallel a b e) hz (on_line a z on_a) (on_line b z on_b) h

      level_a : (p : Point) → height_over b p ≡ pos 0 → height_over a p ≡ pos 0
      level_a p h = parallel_line b a z p is_b.forward (no_turn_back a b (turn_from_parallel a b e)) hz (on_line b z on_b) (on_line a z on_a) h

      up_to_right : (s : Segment) (p : Point) → pos 0 <ℤ p.w → IsTrue (is_on s z) → point_cmp p z ≡ Less → point_cmp p (whole s.right) ≡ Less
      up_to_right s p hp on less = by_right (way_of z (whole s.right) hz one_positive)
        where
          by_right : Way z (whole s.right) → point_cmp p (whole s.right) ≡ Less
          by_right (before f) = less_through p z (whole s.right) hp hz one_positive less f
          by_right (at f) = sym (alike_right p z (whole s.right) hp hz one_positive f) ∙ less
          by_right (after f) = absurd (before_right s z hz on f)

      by_rights : a.left ≡ b.left → Way (whole a.right) (whole b.right) → ⊥
      by_rights f (before g) =
          let low : point_cmp (whole b.left) (whole a.right) ≡ Less = subst (λ v. point_cmp (whole v) (whole a.right) ≡ Less) f (ends_in_order a is_a.forward) in
          inside_second (whole a.right) one_positive (right_held a is_a.forward)
          (within_on b (whole a.right) one_positive (level_b (whole a.right) (right_on_line a)) (not_after_less (whole b.left) (whole a.right) one_positive one_positive low) (not_after_less (whole a.right) (whole b.right) one_positive one_positive g))
          low g e
      by_rights f (at g) = apart (λ i. record { left = f i; right = one_point a.right b.right g i })
      by_rights f (after g) =
          let low : point_cmp (whole a.left) (whole b.right) ≡ Less = subst (λ v. point_cmp (whole v) (whole b.right) ≡ Less) (sym f) (ends_in_order b is_b.forward) in
          inside_first (whole b.right) one_positive
          (within_on a (whole b.right) one_positive (level_a (whole b.right) (right_on_line b)) (not_after_less (whole a.left) (whole b.right) one_positive one_positive low) (not_after_less (whole b.right) (whole a.right) one_positive one_positive g))
          (right_held b is_b.forward) low g e

      by : Way (whole a.left) (whole b.left) → ⊥
      by (before f) =
          let high = up_to_right a (whole b.left) one_positive on_a later_b in
          inside_first (whole b.left) one_positive
          (within_on a (whole b.left) one_positive (level_a (whole b.left) (left_on_line b)) (not_after_less (whole a.left) (whole b.left) one_positive one_positive f) (not_after_less (whole b.left) (whole a.right) one_positive one_positive high))
          (left_held b is_b.forward) f high e
      by (at f) = by_rights (one_point a.left b.left f) (way_of (whole a.right) (whole b.right) one_positive one_positive)
      by (after f) =
          let high = up_to_right b (whole a.left) one_positive on_b later_a in
          inside_second (whole a.left) one_positive (left_held a is_a.forward)
          (within_on b (whole a.left) one_positive (level_b (whole a.left) (left_on_line a)) (not_after_less (whole b.left) (whole a.left) one_positive one_positive f) (not_after_less (whole a.left) (whole b.right) one_positive one_positive high))
          f high e

-- ---- lists
pub grown : (p : Unit → Bool) (items : List Unit) (i : ℕ) (x : Unit) → i < length items → x ≡ get_or items i x → (old new : List Start) (s : Start) → map (λ (s : Start). s.unit) old ≡ filter p (take i items)
    → p x ≡ true → s.unit ≡ x → new ≡ old ++ s ∷ [] → map (λ (s : Start). s.unit) new ≡ filter p (take (i + 1) items)
grown p items i x l e old new s inv passes su eq =
    let unit : Start → Unit = λ s. s.unit in
    ap (map unit) eq ∙ map-append unit old (s ∷ []) ∙ ap (λ us. us ++ s.unit ∷ []) inv ∙ ap (λ u. filter p (take i items) ++ u ∷ []) (su ∙ e)
    ∙ sym (filter_more p items i x l ∙ ap (λ b. filter p (take i items) ++ cond b (get_or items i x ∷ []) []) (ap p (sym e) ∙ passes))

pub left_out : (p : Unit → Bool) (items : List Unit) (i : ℕ) (x : Unit) → i < length items → x ≡ get_or items i x → (old new : List Start) → map (λ (s : Start). s.unit) old ≡ filter p (take i items)
    → p x ≡ false → new ≡ old → map (λ (s : Start). s.unit) new ≡ filter p (take (i + 1) items)
left_out p items i x l e old new inv out eq =
    ap (map (λ (s : Start). s.unit)) eq ∙ inv
    ∙ sym (filter_more p items i x l ∙ ap (λ b. filter p (take i items) ++ cond b (get_or items i x ∷ []) []) (ap p (sym e) ∙ out) ∙ append-nil (filter p (take i items)))

-- ---- the units of a strip, in order
module _ (input : StripInput) (units : List Unit) (are : AreUnits input.marked units) (old new : List Start) (listed : map (λ (s : Start). s.unit) old ≡ filter (λ (u : Unit). is_met input.strip u.seg) units)
    (entries : All (λ s. IsEntry input.strip s.unit.seg (place s.at)) old) (moved : IsPermutation old new) (sorted : IsSorted start_cmp new) where
  abbrev met_unit : Unit → Bool
  met_unit u = is_met input.strip u.seg

  abbrev seg_of : Start → Segment
  seg_of s = s.unit.seg

  in_old : (s : Start) → Contains new s → Contains old s
  in_old s c = Contains-permutation new old s (IsPermutation-sym old new moved) c

  in_new : (s : Start) → Contains old s → Contains new s
  in_new s c = Contains-permutation old new s moved c

  entry : (s : Start) → Contains new s → IsEntry input.strip s.unit.seg (place s.at)
  entry s c = All-contains (λ s. IsEntry input.strip s.unit.seg (place s.at)) old s entries (in_old s c)

  unit_met : (s : Start) → Contains new s → Contains units s.unit × (met_unit s.unit ≡ true)
  unit_met s c = filter_contains met_unit units s.unit (subst (λ (us : List Unit). Contains us s.unit) listed (contains_map (λ (s : Start). s.unit) old s (in_old s c)))

  is_unit : (s : Start) → Contains new s → IsUnit input.marked s.unit.seg
  is_unit s c = All-contains (λ (u : Unit). IsUnit input.marked u.seg) units s.unit are.sound (unit_met s c).0

  complete : (u : Segment) → Contains (map (λ (u : Unit). u.seg) units) u → IsUpTo input.strip (whole u.left) → border input.strip.first ≤ℤ u.right.x → Contains (map seg_of new) u
  complete u c up_to reach =
      let v = from_map (λ (u : Unit). u.seg) units u c in
      let yes : met_unit v.0 ≡ true = subst (λ (s : Segment). is_met input.strip s ≡ true) (sym v.2) (met u up_to reach) in
      let s = from_map (λ (s : Start). s.unit) old v.0 (subst (λ (us : List Unit). Contains us v.0) (sym listed) (contains_filter met_unit units v.0 v.1 yes)) in
      subst (λ (w : Segment). Contains (map seg_of new) w) (ap (λ (u : Unit). u.seg) s.2 ∙ v.2) (contains_map seg_of new s.0 (in_new s.0 s.1))
    where
      once : (x b : ℤ) → x ≤ℤ (b *ℤ pos 1) → x ≤ℤ b
      once x b h = omega (arith, ints, h)

      met : (u : Segment) → IsUpTo input.strip (whole u.left) → border input.strip.first ≤ℤ u.right.x → is_met input.strip u ≡ true
      met u h k =
          and_from (int_le u.left.x (border (input.strip.last + 1))) (int_le (border input.strip.first) u.right.x) (true_le u.left.x (border (input.strip.last + 1)) (once u.left.x (border (input.strip.last + 1)) h))
          (true_le (border input.strip.first) u.right.x k)

  -- ---- no unit stands there twice
  abbrev same : Start → Start → Bool
  same s t = same_segment s.unit.seg t.unit.seg

  same_back : (s t : Start) → same s t ≡ same t s
  same_back s t =
      same_tests (same s t) (same t s) (λ h. (same_segment-Decides t.unit.seg s.unit.seg).1 (sym ((same_segment-Decides s.unit.seg t.unit.seg).0 h)))
      (λ h. (same_segment-Decides s.unit.seg t.unit.seg).1 (sym ((same_segment-Decides t.unit.seg s.unit.seg).0 h)))

  apart_old : AllPairs (λ (s t : Start). s.unit.seg ≡ t.unit.seg → ⊥) old
  apart_old =
      pairs_from_map (λ (u v : Unit). u.seg ≡ v.seg → ⊥) (λ (s : Start). s.unit) old
      (subst (λ (us : List Unit). AllPairs (λ (u v : Unit). u.seg ≡ v.seg → ⊥) us) (sym listed) (AllPairs-filter (λ (u v : Unit). u.seg ≡ v.seg → ⊥) met_unit units are.once))

  distinct : IsDistinct same new
  distinct =
      IsDistinct-IsPermutation same same_back old new moved
      (IsDistinct-from_apart same old
      (λ i j d l m. false_from_ne_true (same (get_or old i d) (get_or old j d)) (λ h. apart_old i j d l m ((same_segment-Decides (get_or old i d).unit.seg (get_or old j d).unit.seg).0 h))))

  apart : (i j : ℕ) (d : Start) → i < j → j < length new → (get_or new i d).unit.seg ≡ (get_or new j d).unit.seg → ⊥
  apart i j d l m e =
      both_ways (same (get_or new i d) (get_or new j d)) (apart_from_distinct same new i j d distinct l m)
      ((same_segment-Decides (get_or new i d).unit.seg (get_or new j d).unit.seg).1 e)

  -- ---- one that is met before another
  module _ (s t : Start) (among_s : Contains new s) (among_t : Contains new t) (apart_st : s.unit.seg ≡ t.unit.seg → ⊥) (not_back : is_lt (start_cmp t s) ≡ false) (left_s : begins_left input.strip s.unit.seg ≡ true)
      (left_t : begins_left input.strip t.unit.seg ≡ true) where
    abbrev p : Point
    p = place s.at

    abbrev r : Point
    r = place t.at

    later_than : (u : Segment) (z : Point) → IsEntry input.strip u z → begins_left input.strip u ≡ true → point_cmp (whole u.left) z ≡ Less
    later_than u z is left = in_order_by_x (whole u.left) z (right_of u.left.x (border input.strip.first) z.x z.w is.positive (lt_true u.left.x (border input.strip.first) left) (is.cut left))
      where
        right_of : (l b x w : ℤ) → pos 0 <ℤ w → l <ℤ b → x ≡ b *ℤ w → (l *ℤ w) <ℤ (x *ℤ pos 1)
        right_of l b x w hw h e = omega (arith, ints, less_times l b w hw h, e)

    turns : IsTrue (same_place p r) → pos 0 <ℤ turn_of t.unit.seg s.unit.seg
    turns e = by_lt_z (turn_of s.unit.seg t.unit.seg) (pos 0) right (λ h. absurd (not_left h))
      where
        hp : pos 0 <ℤ p.w
        hp = place_positive s.at

        hr : pos 0 <ℤ r.w
        hr = place_positive t.at

        back : turn_of t.unit.seg s.unit.seg ≡ neg_ℤ (turn_of s.unit.seg t.unit.seg)
        back = turn_back (width s.unit.seg) (rise s.unit.seg) (width t.unit.seg) (rise t.unit.seg)

        more : (a b : ℤ) → b ≡ neg_ℤ a → a <ℤ pos 0 → pos 0 <ℤ b
        more a b f h = omega (arith, ints, f, h)

        right : turn_of s.unit.seg t.unit.seg <ℤ pos 0 → pos 0 <ℤ turn_of t.unit.seg s.unit.seg
        right h = more (turn_of s.unit.seg t.unit.seg) (turn_of t.unit.seg s.unit.seg) back h

        by_turn : is_lt (int_cmp (pos 0) (turn_of s.unit.seg t.unit.seg)) ≡ false
        by_turn = sym (ap (λ o. is_lt (ordering_then o (int_cmp (pos 0) (turn_of s.unit.seg t.unit.seg)))) (equal_from_same r p hr hp (same_turned p r e))) ∙ not_back

        no_less : (z : ℤ) → is_lt (int_cmp (pos 0) z) ≡ false → pos 0 <ℤ z → ⊥
        no_less z f h = both_ways (is_lt (int_cmp (pos 0) z)) f (ap is_lt (sym (int_cmp_is (pos 0) z Less h)))

        none_of : (z : ℤ) → pos 0 ≤ℤ z → (pos 0 <ℤ z → ⊥) → z ≡ pos 0
        none_of z h f = by_lt_z (pos 0) z (λ k. absurd (f k)) (λ k. omega (arith, ints, h, k))

        not_left : pos 0 ≤ℤ turn_of s.unit.seg t.unit.seg → ⊥
        not_left h =
            not_along input.marked s.unit.seg t.unit.seg (is_unit s among_s) (is_unit t among_t) apart_st p hp (entry s among_s).on (on_same t.unit.seg p r hp hr e ∙ (entry t among_t).on)
            (later_than s.unit.seg p (entry s among_s) left_s)
            (sym (alike_right (whole t.unit.seg.left) r p one_positive hr hp (same_turned p r e)) ∙ later_than t.unit.seg r (entry t among_t) left_t)
            (parallel_from_turn s.unit.seg t.unit.seg (none_of (turn_of s.unit.seg t.unit.seg) h (no_less (turn_of s.unit.seg t.unit.seg) by_turn)))

    met_before : IsMetBefore input.strip s.unit.seg t.unit.seg
    met_before = record {
      first = p;
      second = r;
      small = point_small s.at;
      at_first = entry s among_s;
      at_second = entry t among_t;
      in_order = by (way_of p r (place_positive s.at) (place_positive t.at));
    }
      where
        by : Way p r → (point_cmp p r ≡ Less) ⊎ (IsTrue (same_place p r) × (pos 0 <ℤ turn_of t.unit.seg s.unit.seg))
        by (before e) = inl e
        by (at e) = inr (e, turns e)
        by (after e) = absurd (both_ways (is_lt (start_cmp t s)) not_back (ap (λ o. is_lt (ordering_then o (int_cmp (pos 0) (turn_of s.unit.seg t.unit.seg)))) e))

  ordered : AllPairs (λ a b. begins_left input.strip a ≡ true → begins_left input.strip b ≡ true → IsMetBefore input.strip a b) (map seg_of new)
  ordered =
      pairs_map (λ a b. begins_left input.strip a ≡ true → begins_left input.strip b ≡ true → IsMetBefore input.strip a b) seg_of new
      (λ i j d l m.
      met_before (get_or new i d) (get_or new j d) (Contains-get_or new i d (omega (arith, l, m))) (Contains-get_or new j d m) (apart i j d l m)
      (sorted_far (λ x y. is_lt (start_cmp x y)) (ranks_by start_total (λ (s : Start). s)) new sorted i j d (omega (arith, l)) m))

  places_ordered : AllPairs (λ s t. ¬ (point_cmp (place t.at) (place s.at) ≡ Less)) new
  places_ordered i j d l m e =
      both_ways (is_lt (start_cmp (get_or new j d) (get_or new i d))) (sorted_far (λ x y. is_lt (start_cmp x y)) (ranks_by start_total (λ (s : Start). s)) new sorted i j d (omega (arith, l)) m)
      (ap (λ o. is_lt (ordering_then o (int_cmp (pos 0) (turn_of (get_or new i d).unit.seg (get_or new j d).unit.seg)))) e)

  pub starts_from : AreStarts input new
  starts_from = record {
    units = units;
    are = are;
    among = all_of (λ s. Contains units s.unit) new (λ s c. (unit_met s c).0);
    entries = all_of (λ s. IsEntry input.strip s.unit.seg (place s.at)) new entry;
    met = record {
      among = All-map (Contains (map (λ (u : Unit). u.seg) units)) seg_of new
          (all_of (λ s. Contains (map (λ (u : Unit). u.seg) units) s.unit.seg) new (λ s c. contains_map (λ (u : Unit). u.seg) units s.unit (unit_met s c).0));
      entries = All-map (λ u. (z : Point) × IsEntry input.strip u z) seg_of new (all_of (λ s. (z : Point) × IsEntry input.strip s.unit.seg z) new (λ s c. (place s.at, entry s c)));
      complete = complete;
      ordered = ordered;
    };
    once = apart;
    ordered = places_ordered;
  }
