-- Neighbouring ends along one line: which segments cover the stretch between them, and what is counted of the ends up to there.
use Rattle.std.proofs.Common.{◌≡◌, ℕ, pos, ◌+◌, ◌%◌, ◌<◌, ◌≤◌, ◌==◌, Bool, true, false, not, ◌&&◌, ◌⊎◌, inl, inr, List, [], ◌∷◌, length, get_or, take, refl, ap, sym, ◌∙◌, cond, arith}
use Rattle.std.specs.Prelude.{IsTrue, Contains, count_by}
use Rattle.std.specs.List.{list_any}
use Rattle.std.specs.List.Sorted.{IsPermutation}
use Rattle.std.specs.Ordering.{is_lt, ordering_reverse}
use Rattle.std.proofs.lemmas.Bool.{and_from, both_ways, false_from_ne_true, cases_lt}
use Rattle.std.proofs.lemmas.List.Elements.{Contains-get_or}
use Rattle.std.proofs.lemmas.List.{get_or_read, get_or_default}
use Rattle.std.proofs.lemmas.List.Sorted.{sorted_far, ranks_by, Contains-permutation, IsPermutation-sym, sum_by-IsPermutation}
use Rattle.std.specs.declared.cmp.Ordering.{Ordering}
use Rattle.std.specs.declared.cmp.Ordering.TheVariants.{Less, Equal, Greater}
use Rattle.overlay_terms.specs.Plane.{WholePoint, Segment, whole, whole_cmp, height_over, is_on}
use Rattle.overlay_terms.specs.Trees.{mask_bits}
use Rattle.overlay_terms.specs.Layers.{Marked}
use Rattle.overlay_terms.proofs.Lists.{Contains-cons_cases, in_flat_map, from_flat_map, contains_first, contains_rest, none_in_empty}
use Rattle.overlay_terms.proofs.PointOrder.{whole_cmp_total}
use Rattle.overlay_terms.proofs.Tests.{less_told}
use Rattle.exact_point.proofs.OnLine.{within_on, after_left, before_right}
use Rattle.exact_point.proofs.PlaceOrder.{one_positive}
use Rattle.arrange.specs.LineEnds.{left_end, right_end, both_ends, AreInOrder, IsCounted}
use Rattle.arrange.specs.Units.{covers, cover_bits, is_collinear, is_end_along}
use Rattle.arrange.specs.declared.line_end.LineEnd.{LineEnd}
use Rattle.arrange.specs.declared.passed_ends.PassedEnds.{PassedEnds}
use Rattle.arrange.proofs.EndCounts.{count_first, ends_counted, opened_counted, any_counted, counted_any}
use Rattle.arrange.proofs.UnitLineLemmas.{whole_order, is_end_of, end_level}
use Rattle.arrange.proofs.UnitParts.{none_counted}

-- ---- the order of whole points
not_back : (a b : WholePoint) → whole_cmp a b ≡ Less → whole_cmp b a ≡ Less → ⊥
not_back a b h e = above (sym (whole_cmp_total.antisymm b a ∙ ap ordering_reverse h) ∙ e) where
  above : ordering_reverse Less ≡ Less → ⊥
  above e = cc

-- a place not after another comes before what comes after that
up_to_less : (a b c : WholePoint) → (whole_cmp b a ≡ Less → ⊥) → whole_cmp b c ≡ Less → whole_cmp a c ≡ Less
up_to_less a b c h less = by (whole_cmp a b) refl where
  by : (o : Ordering) → whole_cmp a b ≡ o → whole_cmp a c ≡ Less
  by Less e = whole_cmp_total.trans a b c e less
  by Equal e = whole_cmp_total.congr a b c e ∙ less
  by Greater e = absurd (h (whole_cmp_total.antisymm b a ∙ ap ordering_reverse e))

both_off : (a b : Bool) → (a ≡ true → b ≡ true → ⊥) → (a && b) ≡ false
both_off true b h = false_from_ne_true b (λ e. h refl e)
both_off false b h = refl

-- the ends of segments on one line, each with its left end first
pub record AreEndsAlong (marked : List Marked) (ends : List LineEnd) : Type 0 where
  pub ahead : (m : Marked) → Contains marked m → whole_cmp m.segment.left m.segment.right ≡ Less
  pub one_line : (m n : Marked) → Contains marked m → Contains marked n → is_collinear m.segment n.segment ≡ true
  pub moved : IsPermutation (both_ends marked) ends
  pub in_order : AreInOrder ends

-- the stretch from an end to the next
abbrev pub stretch_at : List LineEnd → LineEnd → ℕ → Segment
stretch_at ends d i = record { left = (get_or ends i d).at; right = (get_or ends (i + 1) d).at }

module _ (marked : List Marked) (ends : List LineEnd) (along : AreEndsAlong marked ends) (d : LineEnd) where
  abbrev place_at : ℕ → WholePoint
  place_at i = (get_or ends i d).at

  pub in_turn : (i j : ℕ) → i ≤ j → j < length ends → whole_cmp (place_at j) (place_at i) ≡ Less → ⊥
  in_turn i j le h e =
      both_ways (is_lt (whole_cmp (place_at j) (place_at i)))
      (sorted_far (λ x y. is_lt (whole_cmp x.at y.at)) (ranks_by whole_cmp_total (λ (x : LineEnd). x.at)) ends along.in_order i j d le h) (ap is_lt e)

  -- an end of a segment is among the ends
  stands : (m : Marked) → Contains marked m → (x : LineEnd) → Contains (left_end m ∷ right_end m ∷ []) x → (v : WholePoint) → v ≡ x.at → (j : ℕ) × (j < length ends) × (place_at j ≡ v)
  stands m c x one v is =
      let there = Contains-permutation (both_ends marked) ends x along.moved (in_flat_map (λ n. left_end n ∷ right_end n ∷ []) marked m x c one) in
      (there.0, there.1, ap (λ (y : LineEnd). y.at) (sym (get_or_read ends there.0 x there.1 (sym there.2) d)) ∙ sym is)

  pub place_of : (m : Marked) → Contains marked m → (v : WholePoint) → (v ≡ m.segment.left) ⊎ (v ≡ m.segment.right) → (j : ℕ) × (j < length ends) × (place_at j ≡ v)
  place_of m c v (inl e) = stands m c (left_end m) (contains_first (left_end m) (right_end m ∷ [])) v e
  place_of m c v (inr e) = stands m c (right_end m) (contains_rest (left_end m) (right_end m ∷ []) (right_end m) (contains_first (right_end m) [])) v e

  -- each of them is an end along any of the segments
  pub end_along : (m : Marked) → Contains marked m → (j : ℕ) → j < length ends → IsTrue (is_end_along marked m.segment (place_at j))
  end_along m c j h = by (from_flat_map (λ n. left_end n ∷ right_end n ∷ []) marked x (Contains-permutation ends (both_ends marked) x (IsPermutation-sym (both_ends marked) ends along.moved) (Contains-get_or ends j d h))) where
    x : LineEnd
    x = get_or ends j d

    which : (n : Marked) → (left_end n ≡ x) ⊎ Contains (right_end n ∷ []) x → (x.at ≡ n.segment.left) ⊎ (x.at ≡ n.segment.right)
    which n (inl e) = inl (ap (λ (y : LineEnd). y.at) (sym e))
    which n (inr e) = last (Contains-cons_cases (right_end n) [] x e) where
      last : (right_end n ≡ x) ⊎ Contains [] x → (x.at ≡ n.segment.left) ⊎ (x.at ≡ n.segment.right)
      last (inl e) = inr (ap (λ (y : LineEnd). y.at) (sym e))
      last (inr e) = absurd (none_in_empty x e)

    by : (n : Marked) × Contains marked n × Contains (left_end n ∷ right_end n ∷ []) x → IsTrue (is_end_along marked m.segment (place_at j))
    by (n, among, there) =
        is_end_of marked m.segment (place_at j)
        (record { of = n; among = among; collinear = along.one_line m n c among; is = which n (Contains-cons_cases (left_end n) (right_end n ∷ []) x there) })

  -- no end of a segment is strictly between two neighbouring ends
  pub none_between : (n : ℕ) → n + 1 < length ends → (m : Marked) → Contains marked m → (v : WholePoint) → (v ≡ m.segment.left) ⊎ (v ≡ m.segment.right)
      → whole_cmp (place_at n) v ≡ Less → whole_cmp v (place_at (n + 1)) ≡ Less → ⊥
  none_between n within m c v is low high = by (place_of m c v is) where
    by : (j : ℕ) × (j < length ends) × (place_at j ≡ v) → ⊥
    by (j, h, e) = side (cases_lt j (n + 1)) where
      side : (j < n + 1) ⊎ (n + 1 ≤ j) → ⊥
      side (inl l) = in_turn j n (omega (arith, l)) (omega (arith, within)) (ap (λ w. whole_cmp (place_at n) w) e ∙ low)
      side (inr l) = in_turn (n + 1) j l h (ap (λ w. whole_cmp w (place_at (n + 1))) e ∙ high)

  module _ (n : ℕ) (within : n + 1 < length ends) (apart : whole_cmp (place_at n) (place_at (n + 1)) ≡ Less) where
    abbrev before : WholePoint → Bool
    before v = is_lt (whole_cmp v (place_at (n + 1)))

    -- up to the first end all come before the second, and none after it
    passed_before : (k : ℕ) → k < n + 1 → whole_cmp (place_at k) (place_at (n + 1)) ≡ Less
    passed_before k h = up_to_less (place_at k) (place_at n) (place_at (n + 1)) (in_turn k n (omega (arith, h)) (omega (arith, within))) apart

    -- a segment covers the stretch where it has opened and not closed
    covers_told : (m : Marked) → Contains marked m → covers m.segment (stretch_at ends d n) ≡ (before m.segment.left && not (before m.segment.right))
    covers_told m c = by (before m.segment.left) (before m.segment.right) refl refl where
      level : (j : ℕ) → j < length ends → height_over m.segment (whole (place_at j)) ≡ pos 0
      level j h = end_level marked m.segment (place_at j) (end_along m c j h)

      by : (a b : Bool) → before m.segment.left ≡ a → before m.segment.right ≡ b → covers m.segment (stretch_at ends d n) ≡ (a && not b)
      by true true e f =
          both_off (is_on m.segment (whole (place_at n))) (is_on m.segment (whole (place_at (n + 1))))
          (λ on_p on_q. before_right m.segment (whole (place_at (n + 1))) one_positive on_q (sym (whole_order m.segment.right (place_at (n + 1))) ∙ less_told (whole_cmp m.segment.right (place_at (n + 1))) f))
      by true false e f =
          and_from (is_on m.segment (whole (place_at n))) (is_on m.segment (whole (place_at (n + 1))))
          (within_on m.segment (whole (place_at n)) one_positive (level n (omega (arith, within)))
          (λ l. none_between n within m c m.segment.left (inl refl) (whole_order (place_at n) m.segment.left ∙ l) (less_told (whole_cmp m.segment.left (place_at (n + 1))) e))
          (λ l. not_closed (whole_cmp_total.trans m.segment.right (place_at n) (place_at (n + 1)) (whole_order m.segment.right (place_at n) ∙ l) apart)))
          (within_on m.segment (whole (place_at (n + 1))) one_positive (level (n + 1) within)
          (λ l. not_back m.segment.left (place_at (n + 1)) (less_told (whole_cmp m.segment.left (place_at (n + 1))) e) (whole_order (place_at (n + 1)) m.segment.left ∙ l))
          (λ l. not_closed (whole_order m.segment.right (place_at (n + 1)) ∙ l)))
        where
          not_closed : whole_cmp m.segment.right (place_at (n + 1)) ≡ Less → ⊥
          not_closed l = both_ways (before m.segment.right) f (ap is_lt l)
      by false b e f =
          both_off (is_on m.segment (whole (place_at n))) (is_on m.segment (whole (place_at (n + 1))))
          (λ on_p on_q. both_ways (before m.segment.left) e
          (ap is_lt (up_to_less m.segment.left (place_at n) (place_at (n + 1)) (λ l. after_left m.segment (whole (place_at n)) on_p (sym (whole_order (place_at n) m.segment.left) ∙ l)) apart)))

    -- one that has closed has opened
    opened_first : (m : Marked) → Contains marked m → before m.segment.right ≡ true → before m.segment.left ≡ true
    opened_first m c e =
        ap is_lt (whole_cmp_total.trans m.segment.left m.segment.right (place_at (n + 1)) (along.ahead m c) (less_told (whole_cmp m.segment.right (place_at (n + 1))) e))

    -- the ends up to the first are those before the second
    first_ends : (f : LineEnd → Bool) → count_by f (take (n + 1) ends) ≡ count_by (λ m. f (left_end m) && before m.segment.left) marked + count_by (λ m. f (right_end m) && before m.segment.right) marked
    first_ends f =
        count_first f (λ (x : LineEnd). before x.at) (n + 1) ends
        (λ k e h l. ap (λ (x : LineEnd). before x.at) (defaults k e l) ∙ ap is_lt (passed_before k h))
        (λ k e h l. ap (λ (x : LineEnd). before x.at) (defaults k e l) ∙ false_from_ne_true (before (place_at k)) (λ b. in_turn (n + 1) k h l (less_told (whole_cmp (place_at k) (place_at (n + 1))) b)))
        ∙ sum_by-IsPermutation (λ (x : LineEnd). cond (f x && before x.at) 1 0) (both_ends marked) ends along.moved
        ∙ ends_counted (λ (x : LineEnd). f x && before x.at) marked
      where
        defaults : (k : ℕ) (e : LineEnd) → k < length ends → get_or ends k e ≡ get_or ends k d
        defaults k e l = get_or_default ends k e d l

    module _ (passed : PassedEnds) (counted : IsCounted (take (n + 1) ends) passed) where
      none_more : (m n : ℕ) → n ≡ 0 → m + n ≡ m
      none_more m n e = omega (arith, e)

      none_before : (m n : ℕ) → m ≡ 0 → m + n ≡ n
      none_before m n e = omega (arith, e)

      abbrev over : ℕ
      over = count_by (λ (m : Marked). covers m.segment (stretch_at ends d n)) marked

      begun_is : passed.begun ≡ over + passed.ended
      begun_is =
          counted.begun ∙ first_ends (λ e. e.opens)
          ∙ none_more (count_by (λ (m : Marked). before m.segment.left) marked) (count_by (λ (m : Marked). false) marked) (none_counted (λ m. false) marked (λ m c. refl))
          ∙ opened_counted (λ m. true) (λ m. before m.segment.left) (λ m. before m.segment.right) (λ m. covers m.segment (stretch_at ends d n)) marked covers_told opened_first
          ∙ ap (λ k. over + k)
          (sym (none_before (count_by (λ (m : Marked). false) marked) (count_by (λ (m : Marked). before m.segment.right) marked) (none_counted (λ m. false) marked (λ m c. refl)))
          ∙ sym (counted.ended ∙ first_ends (λ e. not e.opens)))

      -- more have begun than have ended where a segment covers the stretch
      pub covered_by_count : passed.ended < passed.begun → list_any (λ (m : Marked). covers m.segment (stretch_at ends d n)) marked ≡ true
      covered_by_count h = any_counted (λ m. covers m.segment (stretch_at ends d n)) marked (omega (arith, begun_is, h))

      pub count_by_covered : list_any (λ (m : Marked). covers m.segment (stretch_at ends d n)) marked ≡ true → passed.ended < passed.begun
      count_by_covered e = let some = counted_any (λ m. covers m.segment (stretch_at ends d n)) marked e in omega (arith, begun_is, some)

      -- the mask is that of the stretch
      pub mask_is : (k : ℕ) → k < 32 → mask_bits passed.mask k ≡ cover_bits marked (stretch_at ends d n) k
      mask_is k few =
          counted.mask k few
          ∙ ap (λ z. z % 2 == 1) (first_ends (λ e. e.layer == k))
          ∙ ap (λ z. z == 1) (even_rest (count_by (λ (m : Marked). (m.layer == k) && before m.segment.left) marked) (count_by (λ (m : Marked). (m.layer == k) && covers m.segment (stretch_at ends d n)) marked)
          (count_by (λ (m : Marked). (m.layer == k) && before m.segment.right) marked)
          (opened_counted (λ m. m.layer == k) (λ m. before m.segment.left) (λ m. before m.segment.right) (λ m. covers m.segment (stretch_at ends d n)) marked covers_told opened_first))
        where
          even_rest : (a c b : ℕ) → a ≡ c + b → (a + b) % 2 ≡ c % 2
          even_rest a c b e = omega (arith, e)
