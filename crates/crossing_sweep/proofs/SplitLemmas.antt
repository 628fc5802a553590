-- A status falls into three parts at a place: the members under it, those that hold it, and those over it.
use Rattle.std.proofs.Common.{◌≡◌, ℕ, ℤ, pos, ◌<◌, ◌≤◌, ◌<ℤ◌, ◌≤ℤ◌, ◌+◌, ◌-◌, ◌++◌, ◌∙◌, Bool, inl, inr, ◌⊎◌, true, false, List, length, get_or, take, drop, ap, sym, subst, arith}
use Rattle.std.specs.Prelude.{All, IsTrue, ◌≢◌}
use Rattle.std.specs.List.{AllPairs, prefix_len, slice_range}
use Rattle.std.specs.List.Sorted.{IsPartitionedBy, IsPartitionPoint}
use Rattle.std.specs.Cmp.{int_cmp_is, int_ranks}
use Rattle.std.specs.Ordering.{int_cmp, is_gt, is_ge, MatchOrdering}
use Rattle.std.specs.declared.cmp.Ordering.{Ordering}
use Rattle.std.specs.declared.cmp.Ordering.TheVariants.{Less, Equal, Greater}
use Rattle.std.proofs.lemmas.Int.{ints, by_lt_z}
use Rattle.std.proofs.lemmas.Bool.{false≢true, cases_eq, cases_lt}
use Rattle.std.proofs.lemmas.List.{get_or-take, get_or-drop, get_or_read, length-take-le, length-drop, take-append-drop, drop-drop, map-append}
use Rattle.std.proofs.lemmas.List.Elements.{All-take, All-map}
use Rattle.std.proofs.lemmas.List.Sums.{prefix_len_passes, prefix_len_stops}
use Rattle.overlay_terms.specs.Plane.{Point, height_over, side_of, is_on}
use Rattle.tile_laws.proofs.Ranks.{Told, yes, no, told}
use Rattle.crossing_sweep.specs.Status.{SidesFallAlong}
use Rattle.crossing_sweep.specs.Step.{IsSplitAt}
use Rattle.crossing_sweep.specs.Member.{seg_of, segs_of}
use Rattle.crossing_sweep.specs.declared.member.Member.{Member}
use Rattle.overlay_terms.proofs.Pairs.{all_first, all_second, pairs_first, pairs_second, pairs_from_map}

-- ---- tests of a height
gt_by : (h : ℤ) (o : Ordering) → MatchOrdering o (h <ℤ pos 0) (h ≡ pos 0) (pos 0 <ℤ h) → is_gt o ≡ true → pos 0 <ℤ h
gt_by h Less m e = absurd (false≢true e)
gt_by h Equal m e = absurd (false≢true e)
gt_by h Greater m e = m

not_gt_by : (h : ℤ) (o : Ordering) → MatchOrdering o (h <ℤ pos 0) (h ≡ pos 0) (pos 0 <ℤ h) → is_gt o ≡ false → h ≤ℤ pos 0
not_gt_by h Less m e = omega (arith, ints, m)
not_gt_by h Equal m e = omega (arith, ints, m)
not_gt_by h Greater m e = absurd (false≢true (sym e))

ge_by : (h : ℤ) (o : Ordering) → MatchOrdering o (h <ℤ pos 0) (h ≡ pos 0) (pos 0 <ℤ h) → is_ge o ≡ true → pos 0 ≤ℤ h
ge_by h Less m e = absurd (false≢true e)
ge_by h Equal m e = omega (arith, ints, m)
ge_by h Greater m e = omega (arith, ints, m)

not_ge_by : (h : ℤ) (o : Ordering) → MatchOrdering o (h <ℤ pos 0) (h ≡ pos 0) (pos 0 <ℤ h) → is_ge o ≡ false → h <ℤ pos 0
not_ge_by h Less m e = m
not_ge_by h Equal m e = absurd (false≢true (sym e))
not_ge_by h Greater m e = absurd (false≢true (sym e))

ge_from : (h : ℤ) (o : Ordering) → MatchOrdering o (h <ℤ pos 0) (h ≡ pos 0) (pos 0 <ℤ h) → pos 0 ≤ℤ h → is_ge o ≡ true
ge_from h Less m k = absurd (no_way h m k)
  where
    no_way : (h : ℤ) → h <ℤ pos 0 → pos 0 ≤ℤ h → ⊥
    no_way h m k = omega (arith, ints, m, k)
ge_from h Equal m k = search
ge_from h Greater m k = search

gt_from : (h : ℤ) → pos 0 <ℤ h → is_gt (int_cmp h (pos 0)) ≡ true
gt_from h k = ap is_gt (sym (int_cmp_is h (pos 0) Greater k))

module _ (r : Point) where
  -- a member passes under the place
  abbrev pub is_under : Member → Bool
  is_under m = is_gt (side_of m.unit.seg r)

  -- under it or through it
  abbrev pub is_up_to : Member → Bool
  is_up_to m = is_ge (side_of m.unit.seg r)

  abbrev height : Member → ℤ
  height m = height_over m.unit.seg r

  under_height : (m : Member) → is_under m ≡ true → pos 0 <ℤ height m
  under_height m e = gt_by (height m) (int_cmp (height m) (pos 0)) (int_ranks (height m) (pos 0)) e

  not_under_height : (m : Member) → is_under m ≡ false → height m ≤ℤ pos 0
  not_under_height m e = not_gt_by (height m) (int_cmp (height m) (pos 0)) (int_ranks (height m) (pos 0)) e

  up_to_height : (m : Member) → is_up_to m ≡ true → pos 0 ≤ℤ height m
  up_to_height m e = ge_by (height m) (int_cmp (height m) (pos 0)) (int_ranks (height m) (pos 0)) e

  over_height : (m : Member) → is_up_to m ≡ false → height m <ℤ pos 0
  over_height m e = not_ge_by (height m) (int_cmp (height m) (pos 0)) (int_ranks (height m) (pos 0)) e

  -- of two in order, what passes the test for the later passes it for the earlier
  same_or_before : (P : ℕ → Type 0) (i j : ℕ) → i ≤ j → P j → (i < j → P i) → P i
  same_or_before P i j l e f = by (cases_eq i j)
    where
      by : (i ≡ j) ⊎ (i ≢ j) → P i
      by (inl g) = subst P (sym g) e
      by (inr n) = f (omega (arith, l, n))

  module _ (ms : List Member) (falls : SidesFallAlong r (segs_of ms)) where
    not_above : AllPairs (λ a b. height a ≤ℤ pos 0 → height b ≤ℤ pos 0) ms
    not_above = pairs_from_map (λ a b. height_over a r ≤ℤ pos 0 → height_over b r ≤ℤ pos 0) seg_of ms falls.not_above

    below : AllPairs (λ a b. height a <ℤ pos 0 → height b <ℤ pos 0) ms
    below = pairs_from_map (λ a b. height_over a r <ℤ pos 0 → height_over b r <ℤ pos 0) seg_of ms falls.below

    no_both : (h : ℤ) → pos 0 <ℤ h → h ≤ℤ pos 0 → ⊥
    no_both h k l = omega (arith, ints, k, l)

    no_low : (h : ℤ) → pos 0 ≤ℤ h → h <ℤ pos 0 → ⊥
    no_low h k l = omega (arith, ints, k, l)

    pub under_falls : IsPartitionedBy is_under ms
    under_falls i j d l m e = same_or_before (λ k. is_under (get_or ms k d) ≡ true) i j l e earlier
      where
        earlier : i < j → is_under (get_or ms i d) ≡ true
        earlier k =
            by_lt_z (pos 0) (height (get_or ms i d)) (gt_from (height (get_or ms i d)))
            (λ low. absurd (no_both (height (get_or ms j d)) (under_height (get_or ms j d) e) (not_above i j d k m low)))

    pub up_to_falls : IsPartitionedBy is_up_to ms
    up_to_falls i j d l m e = same_or_before (λ k. is_up_to (get_or ms k d) ≡ true) i j l e earlier
      where
        earlier : i < j → is_up_to (get_or ms i d) ≡ true
        earlier k =
            by_lt_z (height (get_or ms i d)) (pos 0) (λ low. absurd (no_low (height (get_or ms j d)) (up_to_height (get_or ms j d) e) (below i j d k m low)))
            (λ high. ge_from (height (get_or ms i d)) (int_cmp (height (get_or ms i d)) (pos 0)) (int_ranks (height (get_or ms i d)) (pos 0)) high)

-- ---- the two parts at a partition point
-- what passes a test up to some element comes first: as many as pass it from the first one on
pub prefix_parts : {X : Type 0} (p : X → Bool) (xs : List X) → IsPartitionedBy p xs → IsPartitionPoint (λ x. p x ≡ true) (λ x. p x ≡ false) xs (prefix_len p xs)
prefix_parts {X} p xs falls = (λ i d l m. prefix_len_passes p xs i d m, λ i d l m. fails i d l m (told (p (get_or xs i d))))
  where
    fails : (i : ℕ) (d : X) → prefix_len p xs ≤ i → i < length xs → Told (p (get_or xs i d)) → p (get_or xs i d) ≡ false
    fails i d l m (yes e) = absurd (false≢true (sym (prefix_len_stops p xs d (omega (arith, l, m))) ∙ falls (prefix_len p xs) i d l m e))
    fails i d l m (no e) = e

module _ {X : Type 0} (P Q : X → Type 0) (xs : List X) (k : ℕ) (few : k ≤ length xs) (at : IsPartitionPoint P Q xs k) where
  pub first_part : All P (take k xs)
  first_part i d l = let inside : i < k = omega (arith, l, length-take-le k xs few) in subst P (sym (get_or-take k xs i d inside)) (at.0 i d (omega arith) inside)

  pub second_part : All Q (drop k xs)
  second_part i d l = subst Q (sym (get_or-drop k xs i d)) (at.1 (k + i) d (omega arith) (omega (arith, l, length-drop k xs, few)))

module _ (r : Point) (ms : List Member) (k : ℕ) (few : k ≤ length ms) (falls : SidesFallAlong r (segs_of ms)) where
  pub all_under : IsPartitionPoint (λ m. is_under r m ≡ true) (λ m. is_under r m ≡ false) ms k → All (λ m. pos 0 <ℤ height_over m.unit.seg r) (take k ms)
  all_under at i d l = under_height r (get_or (take k ms) i d) (first_part (λ m. is_under r m ≡ true) (λ m. is_under r m ≡ false) ms k few at i d l)

  pub none_under : IsPartitionPoint (λ m. is_under r m ≡ true) (λ m. is_under r m ≡ false) ms k → All (λ m. height_over m.unit.seg r ≤ℤ pos 0) (drop k ms)
  none_under at i d l = not_under_height r (get_or (drop k ms) i d) (second_part (λ m. is_under r m ≡ true) (λ m. is_under r m ≡ false) ms k few at i d l)

  pub all_hold : IsPartitionPoint (λ m. is_up_to r m ≡ true) (λ m. is_up_to r m ≡ false) ms k → All (λ m. height_over m.unit.seg r ≤ℤ pos 0) ms
      → All (λ m. height_over m.unit.seg r ≡ pos 0) (take k ms)
  all_hold at most i d l =
      level (height_over (get_or (take k ms) i d).unit.seg r) (All-take (λ m. height_over m.unit.seg r ≤ℤ pos 0) k ms most i d l)
      (up_to_height r (get_or (take k ms) i d) (first_part (λ m. is_up_to r m ≡ true) (λ m. is_up_to r m ≡ false) ms k few at i d l))
    where
      level : (h : ℤ) → h ≤ℤ pos 0 → pos 0 ≤ℤ h → h ≡ pos 0
      level h a b = omega (arith, ints, a, b)

  pub all_over : IsPartitionPoint (λ m. is_up_to r m ≡ true) (λ m. is_up_to r m ≡ false) ms k → All (λ m. height_over m.unit.seg r <ℤ pos 0) (drop k ms)
  all_over at i d l = over_height r (get_or (drop k ms) i d) (second_part (λ m. is_up_to r m ≡ true) (λ m. is_up_to r m ≡ false) ms k few at i d l)

-- ---- the three parts
module _ (r : Point) (ms : List Member) (low count : ℕ) (falls : SidesFallAlong r (segs_of ms)) where
  segs_split : segs_of ms ≡ segs_of (take low ms) ++ segs_of (drop low ms)
  segs_split = ap segs_of (sym (take-append-drop low ms)) ∙ map-append seg_of (take low ms) (drop low ms)

  -- those that are not under the place fall along it, too
  pub rest_falls : SidesFallAlong r (segs_of (drop low ms))
  rest_falls = record {
    not_above = pairs_second (λ a b. height_over a r ≤ℤ pos 0 → height_over b r ≤ℤ pos 0) (segs_of (take low ms)) (segs_of (drop low ms)) all.not_above;
    below = pairs_second (λ a b. height_over a r <ℤ pos 0 → height_over b r <ℤ pos 0) (segs_of (take low ms)) (segs_of (drop low ms)) all.below;
    held = all_second (λ a. height_over a r ≡ pos 0 → IsTrue (is_on a r)) (segs_of (take low ms)) (segs_of (drop low ms)) all.held;
  }
    where
      all : SidesFallAlong r (segs_of (take low ms) ++ segs_of (drop low ms))
      all = subst (λ us. SidesFallAlong r us) segs_split falls

  pub split_parts : All (λ m. pos 0 <ℤ height_over m.unit.seg r) (take low ms) → All (λ m. height_over m.unit.seg r ≡ pos 0) (take count (drop low ms))
      → All (λ m. height_over m.unit.seg r <ℤ pos 0) (drop count (drop low ms)) → IsSplitAt r (segs_of (take low ms)) (segs_of (slice_range ms low (low + count))) (segs_of (drop (low + count) ms))
  split_parts under hold over = record {
    passes_under = All-map (λ u. pos 0 <ℤ height_over u r) seg_of (take low ms) under;
    hold = subst (λ xs. All (λ u. height_over u r ≡ pos 0) (segs_of xs)) middle (All-map (λ u. height_over u r ≡ pos 0) seg_of (take count (drop low ms)) hold);
    passes_over = subst (λ xs. All (λ u. height_over u r <ℤ pos 0) (segs_of xs)) (drop-drop count low ms) (All-map (λ u. height_over u r <ℤ pos 0) seg_of (drop count (drop low ms)) over);
  }
    where
      middle : take count (drop low ms) ≡ slice_range ms low (low + count)
      middle = ap (λ k. take k (drop low ms)) (size low count)
        where
          size : (a b : ℕ) → b ≡ a + b - a
          size a b = omega arith

-- ---- a range that holds the end of those under a place
module _ (r : Point) (ms : List Member) (falls : SidesFallAlong r (segs_of ms)) (k : ℕ) (x : Member) (few : k < length ms) (is : x ≡ get_or ms k x) where
  told_there : (b : Bool) → is_under r x ≡ b → (d : Member) → is_under r (get_or ms k d) ≡ b
  told_there b e d = subst (λ m. is_under r m ≡ b) (get_or_read ms k x few is d) e

  -- a member under the place, and those before it
  pub under_up_to : is_under r x ≡ true → All (λ m. pos 0 <ℤ height_over m.unit.seg r) (take (k + 1) ms)
  under_up_to under i d l =
      let up : i < k + 1 = omega (arith, l, length-take-le (k + 1) ms (omega (arith, few))) in
      subst (λ m. pos 0 <ℤ height_over m.unit.seg r) (sym (get_or-take (k + 1) ms i d up)) (under_height r (get_or ms i d) (under_falls r ms falls i k d (omega (arith, up)) few (told_there true under d)))

  -- a member that is not under the place, and those after it
  pub not_under_from : is_under r x ≡ false → All (λ m. height_over m.unit.seg r ≤ℤ pos 0) (drop k ms)
  not_under_from over i d l =
      let inside : k + i < length ms = omega (arith, l, length-drop k ms, few) in
      subst (λ m. height_over m.unit.seg r ≤ℤ pos 0) (sym (get_or-drop k ms i d)) (not_under_height r (get_or ms (k + i) d) (by inside (told (is_under r (get_or ms (k + i) d)))))
    where
      by : k + i < length ms → Told (is_under r (get_or ms (k + i) d)) → is_under r (get_or ms (k + i) d) ≡ false
      by inside (yes e) = absurd (false≢true (sym (told_there false over d) ∙ under_falls r ms falls k (k + i) d (omega arith) inside e))
      by inside (no e) = e

-- the first members of a status end where those under the place do, and so do the first of the others: together they end there, too
module _ (r : Point) (ms : List Member) (low high count : ℕ) (order : low ≤ high) (few : high ≤ length ms) (part : count ≤ length (slice_range ms low high)) where
  size : length (slice_range ms low high) ≡ high - low
  size = length-take-le (high - low) (drop low ms) (omega (arith, few, order, length-drop low ms))

  inner : (i : ℕ) (d : Member) → i < high - low → get_or (slice_range ms low high) i d ≡ get_or ms (low + i) d
  inner i d l = get_or-take (high - low) (drop low ms) i d l ∙ get_or-drop low ms i d

  module _ (P : Member → Type 0) where
    pub joined_first : All P (take low ms) → All P (take count (slice_range ms low high)) → All P (take (low + count) ms)
    joined_first first more i d l = by (cases_lt i low)
      where
        up : i < low + count
        up = omega (arith, l, length-take-le (low + count) ms (omega (arith, part, size, few, order)))

        by : (i < low) ⊎ (low ≤ i) → P (get_or (take (low + count) ms) i d)
        by (inl h) = subst P (get_or-take low ms i d h ∙ sym (get_or-take (low + count) ms i d up)) (first i d (omega (arith, h, length-take-le low ms (omega (arith, few, order)))))
        by (inr h) =
            let k : ℕ = i - low in
            let inside : k < count = omega (arith, h, up) in
            let there : low + k ≡ i = omega (arith, h) in
            subst P (get_or-take count (slice_range ms low high) k d inside ∙ inner k d (omega (arith, inside, part, size)) ∙ ap (λ n. get_or ms n d) there ∙ sym (get_or-take (low + count) ms i d up))
            (more k d (omega (arith, inside, part, length-take-le count (slice_range ms low high) part)))

    pub joined_last : All P (drop count (slice_range ms low high)) → All P (drop high ms) → All P (drop (low + count) ms)
    joined_last more last i d l = by (cases_lt (low + count + i) high)
      where
        inside : low + count + i < length ms
        inside = omega (arith, l, length-drop (low + count) ms, part, size, few, order)

        by : (low + count + i < high) ⊎ (high ≤ low + count + i) → P (get_or (drop (low + count) ms) i d)
        by (inl h) =
            let there : low + (count + i) ≡ low + count + i = omega arith in
            subst P (get_or-drop count (slice_range ms low high) i d ∙ inner (count + i) d (omega (arith, h)) ∙ ap (λ n. get_or ms n d) there ∙ sym (get_or-drop (low + count) ms i d))
            (more i d (omega (arith, h, size, part, length-drop count (slice_range ms low high))))
        by (inr h) =
            let k : ℕ = low + count + i - high in
            let there : high + k ≡ low + count + i = omega (arith, h) in
            subst P (get_or-drop high ms k d ∙ ap (λ n. get_or ms n d) there ∙ sym (get_or-drop (low + count) ms i d)) (last k d (omega (arith, h, inside, length-drop high ms)))

-- the members of a range fall along the place, too
pub range_falls : (r : Point) (ms : List Member) (low high : ℕ) → SidesFallAlong r (segs_of ms) → SidesFallAlong r (segs_of (slice_range ms low high))
range_falls r ms low high falls = record {
  not_above = pairs_first (λ a b. height_over a r ≤ℤ pos 0 → height_over b r ≤ℤ pos 0) (segs_of (slice_range ms low high)) (segs_of later) all.not_above;
  below = pairs_first (λ a b. height_over a r <ℤ pos 0 → height_over b r <ℤ pos 0) (segs_of (slice_range ms low high)) (segs_of later) all.below;
  held = all_first (λ a. height_over a r ≡ pos 0 → IsTrue (is_on a r)) (segs_of (slice_range ms low high)) (segs_of later) all.held;
}
  where
    rest : List Member
    rest = drop low ms

    later : List Member
    later = drop (high - low) rest

    all : SidesFallAlong r (segs_of (slice_range ms low high) ++ segs_of later)
    all = subst (λ us. SidesFallAlong r us) (ap segs_of (sym (take-append-drop (high - low) rest)) ∙ map-append seg_of (take (high - low) rest) later) (rest_falls r ms low 0 falls)
