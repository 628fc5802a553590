-- On the right border of a strip a pass only closes pieces: its members are those of a full status that begin in the strip, which goes on as at any node, but for members that pass under all places ahead.
use Rattle.std.proofs.Common.{◌≡◌, ℕ, ℤ, pos, ◌+◌, ◌-ℤ◌, ◌+ℤ◌, ◌*ℤ◌, ◌<◌, ◌≤◌, ◌<ℤ◌, ◌≤ℤ◌, int_lt, int_le, append_assoc, inl, inr, ◌⊎◌, Bool, true, false, cond, List, [], ◌∷◌, ◌++◌, map, take, drop, length, get_or, refl, ap, sym, subst, ◌∙◌, arith}
use Rattle.std.specs.Prelude.{IsTrue, All, Contains, filter, not}
use Rattle.std.specs.Int.RustNames.{bit_xor}
use Rattle.std.specs.Cmp.{IsStrictWeakOrder}
use Rattle.std.specs.Ordering.{is_lt}
use Rattle.std.specs.List.{AllPairs, prefix_len, slice_range}
use Rattle.std.specs.List.Sorted.{IsPermutation, IsSorted, IsPartitionPoint}
use Rattle.std.proofs.lemmas.Int.{ints, by_lt_z}
use Rattle.std.proofs.lemmas.Bool.{and_parts, both_ways, cases_lt}
use Rattle.std.proofs.lemmas.List.{map-append, take-append-drop, length-map, length-drop, append-nil}
use Rattle.std.proofs.lemmas.List.Folds.{drop_split}
use Rattle.std.proofs.lemmas.List.Kept.{AllPairs-cons, AllPairs-filter}
use Rattle.std.proofs.lemmas.List.Sums.{prefix_len-le-length}
use Rattle.std.proofs.lemmas.List.Elements.{All-nil, All-cons, All-head, All-tail, All-map, All-append, All-filter, All-contains, filter-append, filter_passes}
use Rattle.std.proofs.lemmas.List.Sorted.{IsPermutation-refl, IsPermutation-cons, IsPermutation-middle, IsPermutation-trans, IsPermutation-map, All-permutation, ranks_by}
use Rattle.std.proofs.Math.ListN.{length-append}
use Rattle.std.specs.declared.cmp.Ordering.TheVariants.{Less}
use Rattle.overlay_terms.specs.Plane.{Point, Segment, point_cmp, height_over, is_on}
use Rattle.overlay_terms.specs.Column.{border}
use Rattle.overlay_terms.specs.Trees.{Steps, steps_value}
use Rattle.overlay_terms.proofs.InputNumbers.{le_true, lt_true, true_le, true_lt, left_most, most_back, less_back, less_times, last_turned}
use Rattle.overlay_terms.proofs.Lists.{contains_map, contains_rest}
use Rattle.exact_point.specs.Crossing.{turn_of}
use Rattle.exact_point.specs.Place.{place, same_hpoint}
use Rattle.exact_point.specs.PlaceOf.{place_of}
use Rattle.exact_point.specs.declared.point.HPoint.{HPoint}
use Rattle.exact_point.specs.declared.point_name.PointName.{PointName}
use Rattle.arrange.specs.declared.unit.Unit.{Unit}
use Rattle.arrange.proofs.FoundLemmas.{place_positive}
use Rattle.tile_laws.proofs.Ranks.{Told, yes, no, told}
use Rattle.crossing_sweep.specs.StripInput.{StripInput, IsStripInput, is_in_strip, segments_in}
use Rattle.crossing_sweep.specs.Status.{SidesFallAlong}
use Rattle.crossing_sweep.specs.Step.{IsSplitAt}
use Rattle.crossing_sweep.specs.NextNode.{IsNextNode}
use Rattle.crossing_sweep.specs.Ahead.{points_of}
use Rattle.crossing_sweep.specs.Member.{seg_of, units_of, segs_of, member_cmp, member_total, ends_after}
use Rattle.crossing_sweep.specs.Rows.{place_at, layer_bits, AreBegun, IsCarried, mask_over, rows_of, row_to, sides_differ}
use Rattle.crossing_sweep.specs.Stepping.{segs_to_come, IsStepped}
use Rattle.crossing_sweep.specs.Amid.{IsClosedAt, IsAmid, PassesUnder, begins_within}
use Rattle.crossing_sweep.specs.Testing.{AreSeamsTested, seams_at}
use Rattle.crossing_sweep.specs.UnderWay.{IsUnderWay, IsKey}
use Rattle.crossing_sweep.specs.declared.member.Member.{Member}
use Rattle.crossing_sweep.specs.declared.start.Start.{Start}
use Rattle.crossing_sweep.specs.declared.row.Row.{Row}
use Rattle.crossing_sweep.specs.declared.search.Search.{Search}
use Rattle.exact_point.proofs.Lexical.{Forward, NotBack}
use Rattle.exact_point.proofs.OnLine.{forward_from_less}
use Rattle.exact_point.proofs.OnSegment.{reached}
use Rattle.exact_point.proofs.Signs.{not_negative_times, not_positive_times}
use Rattle.std.proofs.Math.IntN.{*ℤ-zero, *ℤ_comm}
use Rattle.overlay_terms.proofs.Difference.{split, differences, same as alike_differences}
use Rattle.crossing_sweep.proofs.RightBorder.{not_left, on_border as on_right}
use Rattle.overlay_terms.proofs.Pairs.{pairs_rest, pairs_head, pairs_second, all_pairs_append, all_first, all_second, pairs_map, pairs_from_map, all_from_map}
use Rattle.overlay_terms.proofs.Whole.{more_none, same_most}
use Rattle.crossing_sweep.specs.Passing.{IsAhead}
use Rattle.crossing_sweep.proofs.Labels.{before_in_strip}
use Rattle.crossing_sweep.proofs.Passed.{still_at, last_at, not_after_before}
use Rattle.crossing_sweep.proofs.TurnedLemmas.{unit_after, all_turned, units_filter}
use Rattle.crossing_sweep.proofs.SplitLemmas.{is_under, is_up_to, under_falls, up_to_falls, prefix_parts, all_under, none_under, all_hold, all_over, rest_falls, split_parts}
use Rattle.crossing_sweep.proofs.SeamLemmas.{no_seams}
use Rattle.crossing_sweep.proofs.ComingLemmas.{falls}
use Rattle.crossing_sweep.proofs.PassLemmas.{first_is_node, all_of}
use Rattle.crossing_sweep.proofs.UnitStretchLemmas.{units_are_stretches}
use Rattle.crossing_sweep.proofs.TakenLemmas.{stepped}
use Rattle.crossing_sweep.proofs.UnderWay.{goes_way, proper_segments}

-- ---- filters
module _ {X : Type 0} where
  pub filter_all : (p : X → Bool) (xs : List X) → All (λ x. p x ≡ true) xs → filter p xs ≡ xs
  filter_all p [] h = refl
  filter_all p (x ∷ xs) h = rw (All-head (λ x. p x ≡ true) x xs h) (ap (λ ys. x ∷ ys) (filter_all p xs (All-tail (λ x. p x ≡ true) x xs h)))

  pub filter_none : (p : X → Bool) (xs : List X) → All (λ x. p x ≡ false) xs → filter p xs ≡ []
  filter_none p [] h = refl
  filter_none p (x ∷ xs) h = rw (All-head (λ x. p x ≡ false) x xs h) (filter_none p xs (All-tail (λ x. p x ≡ false) x xs h))

  pub filter_alike : (p q : X → Bool) (xs : List X) → All (λ x. p x ≡ q x) xs → filter p xs ≡ filter q xs
  filter_alike p q [] h = refl
  filter_alike p q (x ∷ xs) h = rw (All-head (λ x. p x ≡ q x) x xs h) (ap (λ ys. cond (q x) (x ∷ ys) ys) (filter_alike p q xs (All-tail (λ x. p x ≡ q x) x xs h)))

  -- what passes the second test passes the first
  pub filter_twice : (p q : X → Bool) (xs : List X) → All (λ x. q x ≡ true → p x ≡ true) xs → filter q (filter p xs) ≡ filter q xs
  filter_twice p q [] h = refl
  filter_twice p q (x ∷ xs) h = by (filter_twice p q xs (All-tail (λ x. q x ≡ true → p x ≡ true) x xs h)) (All-head (λ x. q x ≡ true → p x ≡ true) x xs h) (told (p x)) (told (q x))
    where
      by : filter q (filter p xs) ≡ filter q xs → (q x ≡ true → p x ≡ true) → Told (p x) → Told (q x) → filter q (filter p (x ∷ xs)) ≡ filter q (x ∷ xs)
      by more both (yes e) (yes f) = rw e (rw f (ap (λ ys. x ∷ ys) more))
      by more both (yes e) (no f) = rw e (rw f more)
      by more both (no e) (yes f) = absurd (both_ways (p x) e (both f))
      by more both (no e) (no f) = rw e (rw f more)

  -- ---- two parts, whose elements a test separates
  first_of : (p : X → Bool) (xs ys : List X) → All (λ x. p x ≡ true) xs → All (λ x. p x ≡ false) ys → filter p (xs ++ ys) ≡ xs
  first_of p xs ys h l = filter-append p xs ys ∙ ap (λ zs. zs ++ filter p ys) (filter_all p xs h) ∙ ap (λ zs. xs ++ zs) (filter_none p ys l) ∙ append-nil xs

  second_of : (p : X → Bool) (xs ys : List X) → All (λ x. p x ≡ true) xs → All (λ x. p x ≡ false) ys → filter (λ x. not (p x)) (xs ++ ys) ≡ ys
  second_of p xs ys h l =
      filter-append (λ x. not (p x)) xs ys ∙ ap (λ zs. zs ++ filter (λ x. not (p x)) ys) (filter_none (λ x. not (p x)) xs (λ i d m. ap not (h i d m))) ∙ filter_all (λ x. not (p x)) ys (λ i d m. ap not (l i d m))

  module _ (p : X → Bool) (xs ys us vs : List X) (one : All (λ x. p x ≡ true) xs) (two : All (λ x. p x ≡ false) ys) (three : All (λ x. p x ≡ true) us) (four : All (λ x. p x ≡ false) vs) (same : xs ++ ys ≡ us ++ vs) where
    pub same_first : xs ≡ us
    same_first = sym (first_of p xs ys one two) ∙ ap (filter p) same ∙ first_of p us vs three four

    pub same_second : ys ≡ vs
    same_second = sym (second_of p xs ys one two) ∙ ap (filter (λ x. not (p x))) same ∙ second_of p us vs three four

-- ---- the second of two parts alone
module _ {X : Type 0} (p : X → Bool) where
  fails_alone : (xs ys : List X) → All (λ x. p x ≡ true) xs → filter (λ x. not (p x)) (xs ++ ys) ≡ filter (λ x. not (p x)) ys
  fails_alone xs ys h = filter-append (λ x. not (p x)) xs ys ∙ ap (λ zs. zs ++ filter (λ x. not (p x)) ys) (filter_none (λ x. not (p x)) xs (λ i d m. ap not (h i d m)))

  all_fail : (ys : List X) → All (λ y. p y ≡ false) ys → filter (λ x. not (p x)) ys ≡ ys
  all_fail ys l = filter_all (λ x. not (p x)) ys (λ i d m. ap not (l i d m))

-- ---- an order
module _ {X : Type 0} (lt : X → X → Bool) where
  abbrev put : X → List X → List X
  put x [] = x ∷ []
  put x (y ∷ ys) = cond (lt y x) (y ∷ put x ys) (x ∷ y ∷ ys)

  abbrev pub in_order : List X → List X
  in_order [] = []
  in_order (x ∷ xs) = put x (in_order xs)

  put_moves : (x : X) (ys : List X) → IsPermutation (x ∷ ys) (put x ys)
  put_moves x [] = IsPermutation-refl (x ∷ [])
  put_moves x (y ∷ ys) = by (put_moves x ys) (told (lt y x))
    where
      by : IsPermutation (x ∷ ys) (put x ys) → Told (lt y x) → IsPermutation (x ∷ (y ∷ ys)) (put x (y ∷ ys))
      by more (yes e) = rw e (IsPermutation-trans (x ∷ (y ∷ ys)) (y ∷ (x ∷ ys)) (y ∷ put x ys) (IsPermutation-middle (x ∷ []) y ys) (IsPermutation-cons y (x ∷ ys) (put x ys) more))
      by more (no e) = rw e (IsPermutation-refl (x ∷ (y ∷ ys)))

  pub order_moves : (xs : List X) → IsPermutation xs (in_order xs)
  order_moves [] = IsPermutation-refl []
  order_moves (x ∷ xs) = IsPermutation-trans (x ∷ xs) (x ∷ in_order xs) (put x (in_order xs)) (IsPermutation-cons x xs (in_order xs) (order_moves xs)) (put_moves x (in_order xs))

  module _ (o : IsStrictWeakOrder lt) where
    abbrev NotBefore : X → X → Type 0
    NotBefore a b = lt b a ≡ false

    put_pairs : (x : X) (ys : List X) → AllPairs (λ a b. lt b a ≡ false) ys → AllPairs (λ a b. lt b a ≡ false) (put x ys)
    put_pairs x [] h = λ i j d l m. absurd (omega (arith, l, m))
    put_pairs x (y ∷ ys) h = by (put_pairs x ys (pairs_rest (λ a b. lt b a ≡ false) y ys h)) (pairs_head (λ a b. lt b a ≡ false) y ys h) (told (lt y x))
      where
        by : AllPairs (λ a b. lt b a ≡ false) (put x ys) → All (λ z. lt z y ≡ false) ys → Told (lt y x) → AllPairs (λ a b. lt b a ≡ false) (put x (y ∷ ys))
        by more rest (yes e) =
            rw e (AllPairs-cons (λ a b. lt b a ≡ false) y (put x ys) (All-permutation (λ z. lt z y ≡ false) (x ∷ ys) (put x ys) (put_moves x ys) (All-cons (λ z. lt z y ≡ false) x ys (o.one_way y x e) rest)) more)
        by more rest (no e) =
            rw e (AllPairs-cons (λ a b. lt b a ≡ false) x (y ∷ ys) (All-cons (λ z. lt z x ≡ false) y ys e (λ i d l. o.chain (get_or ys i d) y x (rest i d l) e)) h)

    pub order_pairs : (xs : List X) → AllPairs (λ a b. lt b a ≡ false) (in_order xs)
    order_pairs [] = λ i j d l m. absurd (omega (arith, l, m))
    order_pairs (x ∷ xs) = put_pairs x (in_order xs) (order_pairs xs)

-- members in the order of their directions
abbrev turn_before : Member → Member → Bool
turn_before a b = is_lt (member_cmp a b)

pub turned_order : (ms : List Member) → AllPairs (λ a b. pos 0 ≤ℤ turn_of a b) (segs_of (in_order turn_before ms))
turned_order ms =
    let pairs = order_pairs turn_before (ranks_by member_total (λ (m : Member). m)) ms in
    let sorted : IsSorted member_cmp (in_order turn_before ms) = λ k d low m. pairs k (k + 1) d (omega arith) m in
    all_turned (in_order turn_before ms) sorted

-- ---- members that begin at a node on the right border
module _ (begin : ℕ) where
  abbrev member_of : Start → Member
  member_of s = record { unit = s.unit; begin = begin; over = 0; value = false; differs = false; ahead = s.ahead }

  units_entered : (ss : List Start) → units_of (map member_of ss) ≡ map (λ (s : Start). s.unit) ss
  units_entered [] = refl
  units_entered (s ∷ ss) = ap (λ us. s.unit ∷ us) (units_entered ss)

  abbrev relabel : Steps → ℕ → List Member → List Member
  relabel steps mask [] = []
  relabel steps mask (m ∷ ms) =
      (record { unit = m.unit; begin = begin; over = bit_xor mask m.unit.mask; value = steps_value steps (layer_bits (bit_xor mask m.unit.mask)); differs = false; ahead = m.ahead }) ∷ relabel steps (bit_xor mask m.unit.mask) ms

  relabel_units : (steps : Steps) (mask : ℕ) (ms : List Member) → units_of (relabel steps mask ms) ≡ units_of ms
  relabel_units steps mask [] = refl
  relabel_units steps mask (m ∷ ms) = ap (λ us. m.unit ∷ us) (relabel_units steps (bit_xor mask m.unit.mask) ms)

  relabel_begun : (steps : Steps) (mask : ℕ) (ms : List Member) → AreBegun steps mask begin false (relabel steps mask ms)
  relabel_begun steps mask [] = tt
  relabel_begun steps mask (m ∷ ms) = (record { begins = refl; over = refl; value = refl; differs = λ low high h k. refl }, relabel_begun steps (bit_xor mask m.unit.mask) ms)

  relabel_number : (steps : Steps) (mask : ℕ) (ms : List Member) → All (λ m. m.begin ≡ begin) (relabel steps mask ms)
  relabel_number steps mask [] = All-nil (λ (m : Member). m.begin ≡ begin)
  relabel_number steps mask (m ∷ ms) = All-cons (λ (m : Member). m.begin ≡ begin) _ (relabel steps (bit_xor mask m.unit.mask) ms) refl (relabel_number steps (bit_xor mask m.unit.mask) ms)

-- ---- the heights of the three parts
module _ (r : Point) where
  abbrev tells_under : Member → Bool
  tells_under m = int_lt (pos 0) (height_over m.unit.seg r)

  abbrev tells_up_to : Member → Bool
  tells_up_to m = int_le (pos 0) (height_over m.unit.seg r)

  fails : (b : Bool) → (b ≡ true → ⊥) → b ≡ false
  fails b h = by (told b)
    where
      by : Told b → b ≡ false
      by (yes e) = absurd (h e)
      by (no e) = e

  not_under : (h : ℤ) → h ≡ pos 0 → int_lt (pos 0) h ≡ false
  not_under h e = fails (int_lt (pos 0) h) (λ t. no_way h e (lt_true (pos 0) h t))
    where
      no_way : (h : ℤ) → h ≡ pos 0 → pos 0 <ℤ h → ⊥
      no_way h e l = omega (arith, ints, e, l)

  not_up_to : (h : ℤ) → h <ℤ pos 0 → int_le (pos 0) h ≡ false
  not_up_to h e = fails (int_le (pos 0) h) (λ t. no_way h e (le_true (pos 0) h t))
    where
      no_way : (h : ℤ) → h <ℤ pos 0 → pos 0 ≤ℤ h → ⊥
      no_way h e l = omega (arith, ints, e, l)

  -- a list of members is split at a place in one way alone
  record AreParts (u b o : List Member) : Type 0 where
    pub under : All (λ m. pos 0 <ℤ height_over m.unit.seg r) u
    pub hold : All (λ m. height_over m.unit.seg r ≡ pos 0) b
    pub over : All (λ m. height_over m.unit.seg r <ℤ pos 0) o

  module _ (u b o : List Member) (are : AreParts u b o) where
    all_up_to : All (λ m. tells_up_to m ≡ true) (u ++ b)
    all_up_to = All-append (λ m. tells_up_to m ≡ true) u b (λ i d l. true_le (pos 0) (height_over (get_or u i d).unit.seg r) (most (height_over (get_or u i d).unit.seg r) (are.under i d l))) (λ i d l. true_le (pos 0) (height_over (get_or b i d).unit.seg r) (level (height_over (get_or b i d).unit.seg r) (are.hold i d l)))
      where
        most : (h : ℤ) → pos 0 <ℤ h → pos 0 ≤ℤ h
        most h l = omega (arith, ints, l)

        level : (h : ℤ) → h ≡ pos 0 → pos 0 ≤ℤ h
        level h l = omega (arith, ints, l)

    all_above : All (λ m. tells_up_to m ≡ false) o
    all_above i d l = not_up_to (height_over (get_or o i d).unit.seg r) (are.over i d l)

    all_low : All (λ m. tells_under m ≡ true) u
    all_low i d l = true_lt (pos 0) (height_over (get_or u i d).unit.seg r) (are.under i d l)

    all_level : All (λ m. tells_under m ≡ false) b
    all_level i d l = not_under (height_over (get_or b i d).unit.seg r) (are.hold i d l)

  module _ (u b o : List Member) (are : AreParts u b o) where
    hold_up_to : All (λ m. tells_up_to m ≡ true) b
    hold_up_to = all_second (λ m. tells_up_to m ≡ true) u b (all_up_to u b o are)

    rest_not_under : All (λ m. tells_under m ≡ false) (b ++ o)
    rest_not_under = All-append (λ m. tells_under m ≡ false) b o (all_level u b o are) (λ i d l. not_under_over (height_over (get_or o i d).unit.seg r) (are.over i d l))
      where
        not_under_over : (h : ℤ) → h <ℤ pos 0 → int_lt (pos 0) h ≡ false
        not_under_over h e = fails (int_lt (pos 0) h) (λ t. no_way h e (lt_true (pos 0) h t))
          where
            no_way : (h : ℤ) → h <ℤ pos 0 → pos 0 <ℤ h → ⊥
            no_way h e l = omega (arith, ints, e, l)

    -- what is not under the place
    not_low : filter (λ m. not (tells_under m)) (u ++ b ++ o) ≡ b ++ o
    not_low = ap (filter (λ m. not (tells_under m))) (append_assoc u b o) ∙ fails_alone tells_under u (b ++ o) (all_low u b o are) ∙ all_fail tells_under (b ++ o) rest_not_under

  low_tests : (ms : List Member) → All (λ m. pos 0 <ℤ height_over m.unit.seg r) ms → All (λ m. tells_under m ≡ true) ms
  low_tests ms h i d l = true_lt (pos 0) (height_over (get_or ms i d).unit.seg r) (h i d l)

  -- two lists that end alike, after members under the place, are split there alike
  module _ (gone some kept u b o u2 b2 o2 : List Member) (gone_low : All (λ m. pos 0 <ℤ height_over m.unit.seg r) gone) (some_low : All (λ m. pos 0 <ℤ height_over m.unit.seg r) some) (one : AreParts u b o) (two : AreParts u2 b2 o2)
      (first : gone ++ kept ≡ u ++ b ++ o) (second : some ++ kept ≡ u2 ++ b2 ++ o2) where
    ends_alike : b ++ o ≡ b2 ++ o2
    ends_alike =
        sym (not_low u b o one) ∙ ap (filter (λ m. not (tells_under m))) (sym first) ∙ fails_alone tells_under gone kept (low_tests gone gone_low)
        ∙ sym (fails_alone tells_under some kept (low_tests some some_low)) ∙ ap (filter (λ m. not (tells_under m))) second ∙ not_low u2 b2 o2 two

    same_over : o ≡ o2
    same_over = same_second tells_up_to b o b2 o2 (hold_up_to u b o one) (all_above u b o one) (hold_up_to u2 b2 o2 two) (all_above u2 b2 o2 two) ends_alike

    same_bundle : b ≡ b2
    same_bundle = same_first tells_up_to b o b2 o2 (hold_up_to u b o one) (all_above u b o one) (hold_up_to u2 b2 o2 two) (all_above u2 b2 o2 two) ends_alike

  of_split : (u b o : List Member) → IsSplitAt r (segs_of u) (segs_of b) (segs_of o) → AreParts u b o
  of_split u b o is = record {
    under = all_from_map (λ v. pos 0 <ℤ height_over v r) seg_of u is.passes_under;
    hold = all_from_map (λ v. height_over v r ≡ pos 0) seg_of b is.hold;
    over = all_from_map (λ v. height_over v r <ℤ pos 0) seg_of o is.passes_over;
  }

  kept_parts : (p : Member → Bool) (u b o : List Member) → AreParts u b o → AreParts (filter p u) (filter p b) (filter p o)
  kept_parts p u b o are = record {
    under = All-filter p (λ m. pos 0 <ℤ height_over m.unit.seg r) u are.under;
    hold = All-filter p (λ m. height_over m.unit.seg r ≡ pos 0) b are.hold;
    over = All-filter p (λ m. height_over m.unit.seg r <ℤ pos 0) o are.over;
  }

  -- some members of a status fall along a place as all do
  kept_fall : (p : Member → Bool) (ms : List Member) → SidesFallAlong r (segs_of ms) → SidesFallAlong r (segs_of (filter p ms))
  kept_fall p ms falls = record {
    not_above = pairs_map (λ a b. height_over a r ≤ℤ pos 0 → height_over b r ≤ℤ pos 0) seg_of (filter p ms)
        (AllPairs-filter (λ (a b : Member). height_over a.unit.seg r ≤ℤ pos 0 → height_over b.unit.seg r ≤ℤ pos 0) p ms (pairs_from_map (λ a b. height_over a r ≤ℤ pos 0 → height_over b r ≤ℤ pos 0) seg_of ms falls.not_above));
    below = pairs_map (λ a b. height_over a r <ℤ pos 0 → height_over b r <ℤ pos 0) seg_of (filter p ms)
        (AllPairs-filter (λ (a b : Member). height_over a.unit.seg r <ℤ pos 0 → height_over b.unit.seg r <ℤ pos 0) p ms (pairs_from_map (λ a b. height_over a r <ℤ pos 0 → height_over b r <ℤ pos 0) seg_of ms falls.below));
    held = All-map (λ a. height_over a r ≡ pos 0 → IsTrue (is_on a r)) seg_of (filter p ms)
        (All-filter p (λ (m : Member). height_over m.unit.seg r ≡ pos 0 → IsTrue (is_on m.unit.seg r)) ms (all_from_map (λ a. height_over a r ≡ pos 0 → IsTrue (is_on a r)) seg_of ms falls.held));
  }

  fall_second : (xs ys : List Member) → SidesFallAlong r (segs_of (xs ++ ys)) → SidesFallAlong r (segs_of ys)
  fall_second xs ys falls = record {
    not_above = pairs_second (λ a b. height_over a r ≤ℤ pos 0 → height_over b r ≤ℤ pos 0) (segs_of xs) (segs_of ys) all.not_above;
    below = pairs_second (λ a b. height_over a r <ℤ pos 0 → height_over b r <ℤ pos 0) (segs_of xs) (segs_of ys) all.below;
    held = all_second (λ a. height_over a r ≡ pos 0 → IsTrue (is_on a r)) (segs_of xs) (segs_of ys) all.held;
  }
    where
      all : SidesFallAlong r (segs_of xs ++ segs_of ys)
      all = subst (λ us. SidesFallAlong r us) (map-append seg_of xs ys) falls

  -- members under the place put before others
  fall_behind : (xs ys : List Member) → All (λ m. pos 0 <ℤ height_over m.unit.seg r) xs → SidesFallAlong r (segs_of ys) → SidesFallAlong r (segs_of (xs ++ ys))
  fall_behind xs ys under falls = subst (λ us. SidesFallAlong r us) (sym (map-append seg_of xs ys)) (record {
    not_above = all_pairs_append (λ a b. height_over a r ≤ℤ pos 0 → height_over b r ≤ℤ pos 0) (segs_of xs) (segs_of ys) (λ i j d l m h. absurd (not_most (height_over (get_or (segs_of xs) i d) r) (low i d (omega (arith, l, m))) h)) falls.not_above
        (λ i d l j e m h. absurd (not_most (height_over (get_or (segs_of xs) i d) r) (low i d l) h));
    below = all_pairs_append (λ a b. height_over a r <ℤ pos 0 → height_over b r <ℤ pos 0) (segs_of xs) (segs_of ys) (λ i j d l m h. absurd (not_less (height_over (get_or (segs_of xs) i d) r) (low i d (omega (arith, l, m))) h)) falls.below
        (λ i d l j e m h. absurd (not_less (height_over (get_or (segs_of xs) i d) r) (low i d l) h));
    held = All-append (λ a. height_over a r ≡ pos 0 → IsTrue (is_on a r)) (segs_of xs) (segs_of ys) (λ i d l h. absurd (more_none (height_over (get_or (segs_of xs) i d) r) (low i d l) h)) falls.held;
  })
    where
      low : All (λ a. pos 0 <ℤ height_over a r) (segs_of xs)
      low = All-map (λ a. pos 0 <ℤ height_over a r) seg_of xs under

      not_most : (h : ℤ) → pos 0 <ℤ h → h ≤ℤ pos 0 → ⊥
      not_most h k l = omega (arith, ints, k, l)

      not_less : (h : ℤ) → pos 0 <ℤ h → h <ℤ pos 0 → ⊥
      not_less h k l = omega (arith, ints, k, l)

  -- a status that falls along a place is split there
  module _ (ms : List Member) (falls : SidesFallAlong r (segs_of ms)) where
    abbrev low : ℕ
    low = prefix_len (is_under r) ms

    abbrev count : ℕ
    count = prefix_len (is_up_to r) (drop low ms)

    low_few : low ≤ length ms
    low_few = prefix_len-le-length (is_under r) ms

    count_few : count ≤ length (drop low ms)
    count_few = prefix_len-le-length (is_up_to r) (drop low ms)

    high_few : low + count ≤ length ms
    high_few = omega (arith, low_few, count_few, length-drop low ms)

    at_low : IsPartitionPoint (λ m. is_under r m ≡ true) (λ m. is_under r m ≡ false) ms low
    at_low = prefix_parts (is_under r) ms (under_falls r ms falls)

    at_count : IsPartitionPoint (λ m. is_up_to r m ≡ true) (λ m. is_up_to r m ≡ false) (drop low ms) count
    at_count = prefix_parts (is_up_to r) (drop low ms) (up_to_falls r (drop low ms) (rest_falls r ms low count falls))

    split_there : IsSplitAt r (segs_of (take low ms)) (segs_of (slice_range ms low (low + count))) (segs_of (drop (low + count) ms))
    split_there =
        split_parts r ms low count falls (all_under r ms low low_few falls at_low)
        (all_hold r (drop low ms) count count_few (rest_falls r ms low count falls) at_count (none_under r ms low low_few falls at_low)) (all_over r (drop low ms) count count_few (rest_falls r ms low count falls) at_count)

-- ---- a segment under a place of a border, or through it, passes under a later place there
way_height : (a b l m x y w u v q : ℤ) → (w *ℤ ((a *ℤ (v -ℤ (m *ℤ q))) -ℤ (b *ℤ (u -ℤ (l *ℤ q))))) -ℤ (q *ℤ ((a *ℤ (y -ℤ (m *ℤ w))) -ℤ (b *ℤ (x -ℤ (l *ℤ w))))) ≡ (a *ℤ ((v *ℤ w) -ℤ (y *ℤ q))) -ℤ (b *ℤ ((u *ℤ w) -ℤ (x *ℤ q)))
way_height a b l m x y w u v q =
    rw (split a, split b, split l, split m, split x, split y, split w, split u, split v, split q) (simp differences (alike_differences _ _ _ _ (omega arith)))

module _ (u : Segment) (z r : Point) (c : ℤ) (hz : pos 0 <ℤ z.w) (hr : pos 0 <ℤ r.w) (z_there : z.x ≡ c *ℤ z.w) (r_there : r.x ≡ c *ℤ r.w) (less : point_cmp z r ≡ Less) where
  over_one : (r.x *ℤ z.w) -ℤ (z.x *ℤ r.w) ≡ pos 0
  over_one = same_x z.x r.x z.w r.w c z_there r_there
    where
      same_x : (x y w v b : ℤ) → x ≡ b *ℤ w → y ≡ b *ℤ v → (y *ℤ w) -ℤ (x *ℤ v) ≡ pos 0
      same_x x y w v b e f = omega (arith, ints, ap (λ z. z *ℤ v) e, ap (λ z. z *ℤ w) f, last_turned b w v)

  up : pos 0 <ℤ ((r.y *ℤ z.w) -ℤ (z.y *ℤ r.w))
  up = rising ((r.x *ℤ z.w) -ℤ (z.x *ℤ r.w)) ((r.y *ℤ z.w) -ℤ (z.y *ℤ r.w)) over_one (forward_from_less z r less)
    where
      rising : (x y : ℤ) → x ≡ pos 0 → Forward x y → pos 0 <ℤ y
      rising x y e (inl h) = absurd (omega (arith, ints, e, h))
      rising x y e (inr h) = h.1

  way : ((u.right.x -ℤ u.left.x) *ℤ ((r.y *ℤ z.w) -ℤ (z.y *ℤ r.w))) -ℤ ((u.right.y -ℤ u.left.y) *ℤ ((r.x *ℤ z.w) -ℤ (z.x *ℤ r.w))) ≡ (z.w *ℤ height_over u r) -ℤ (r.w *ℤ height_over u z)
  way = sym (way_height (u.right.x -ℤ u.left.x) (u.right.y -ℤ u.left.y) u.left.x u.left.y z.x z.y z.w r.x r.y r.w)

  higher : (d y e x w h v k : ℤ) → (d *ℤ y) -ℤ (e *ℤ x) ≡ (w *ℤ h) -ℤ (v *ℤ k) → x ≡ pos 0 → w *ℤ h ≡ (d *ℤ y) +ℤ (v *ℤ k)
  higher d y e x w h v k f g = omega (arith, ints, f, ap (λ t. e *ℤ t) g, *ℤ-zero e)

  times : z.w *ℤ height_over u r ≡ ((u.right.x -ℤ u.left.x) *ℤ ((r.y *ℤ z.w) -ℤ (z.y *ℤ r.w))) +ℤ (r.w *ℤ height_over u z)
  times = higher (u.right.x -ℤ u.left.x) ((r.y *ℤ z.w) -ℤ (z.y *ℤ r.w)) (u.right.y -ℤ u.left.y) ((r.x *ℤ z.w) -ℤ (z.x *ℤ r.w)) z.w (height_over u r) r.w (height_over u z) way over_one

  by_times : pos 0 <ℤ (z.w *ℤ height_over u r) → pos 0 <ℤ height_over u r
  by_times t = by_lt_z (pos 0) (height_over u r) (λ l. l) (λ l. absurd (no_way (height_over u r) z.w (not_positive_times (height_over u r) z.w l hz) t))
    where
      no_way : (h w : ℤ) → (h *ℤ w) ≤ℤ pos 0 → pos 0 <ℤ (w *ℤ h) → ⊥
      no_way h w k l = omega (arith, ints, k, l, *ℤ_comm h w)

  pub still_under : pos 0 ≤ℤ (u.right.x -ℤ u.left.x) → pos 0 <ℤ height_over u z → pos 0 <ℤ height_over u r
  still_under wide above = by_times (more (z.w *ℤ height_over u r) (u.right.x -ℤ u.left.x) ((r.y *ℤ z.w) -ℤ (z.y *ℤ r.w)) r.w (height_over u z) times wide up hr above)
    where
      more : (t d y v k : ℤ) → t ≡ (d *ℤ y) +ℤ (v *ℤ k) → pos 0 ≤ℤ d → pos 0 <ℤ y → pos 0 <ℤ v → pos 0 <ℤ k → pos 0 <ℤ t
      more t d y v k e hd hy hv hk = omega (arith, ints, e, not_negative_times d y hd hy, less_times (pos 0) k v hv hk, *ℤ_comm (pos 0) v, *ℤ-zero v, *ℤ_comm k v)

  pub held_under : pos 0 <ℤ (u.right.x -ℤ u.left.x) → height_over u z ≡ pos 0 → pos 0 <ℤ height_over u r
  held_under wide level = by_times (more (z.w *ℤ height_over u r) (u.right.x -ℤ u.left.x) ((r.y *ℤ z.w) -ℤ (z.y *ℤ r.w)) r.w (height_over u z) times wide up level)
    where
      more : (t d y v k : ℤ) → t ≡ (d *ℤ y) +ℤ (v *ℤ k) → pos 0 <ℤ d → pos 0 <ℤ y → k ≡ pos 0 → pos 0 <ℤ t
      more t d y v k e hd hy hk = omega (arith, ints, e, less_times (pos 0) d y hy hd, *ℤ_comm (pos 0) y, *ℤ-zero y, ap (λ x. v *ℤ x) hk, *ℤ-zero v)

-- a segment that begins left of a border and holds a place of it is not upright
pub wide_there : (u : Segment) (p r : Point) (c : ℤ) → pos 0 <ℤ p.w → pos 0 <ℤ r.w → IsTrue (is_on u p) → IsTrue (is_on u r) → p.x <ℤ (c *ℤ p.w) → r.x ≡ c *ℤ r.w → pos 0 <ℤ (u.right.x -ℤ u.left.x)
wide_there u p r c hp hr on_p on_r left there = wide_of u.left.x u.right.x c (begins u.left.x p.x p.w c _ hp left (reached u p on_p).from_left) (reaches u.right.x r.x r.w c _ hr there (reached u r on_r).to_right)
  where
    wide_of : (l r b : ℤ) → l <ℤ b → b ≤ℤ r → pos 0 <ℤ (r -ℤ l)
    wide_of l r b h k = omega (arith, ints, h, k)

    most : (d e y : ℤ) → NotBack (d -ℤ e) y → e ≤ℤ d
    most d e y (inl h) = omega (arith, ints, h)
    most d e y (inr h) = let f : d -ℤ e ≡ pos 0 = h.0 in omega (arith, ints, f)

    begins : (l x w b y : ℤ) → pos 0 <ℤ w → x <ℤ (b *ℤ w) → NotBack (x -ℤ (l *ℤ w)) y → l <ℤ b
    begins l x w b y hw e h = let m : (l *ℤ w) ≤ℤ x = most x (l *ℤ w) y h in less_back l b w hw (omega (arith, ints, m, e))

    reaches : (d x w b y : ℤ) → pos 0 <ℤ w → x ≡ b *ℤ w → NotBack ((d *ℤ w) -ℤ x) y → b ≤ℤ d
    reaches d x w b y hw e h = let m : x ≤ℤ (d *ℤ w) = most (d *ℤ w) x y h in most_back b d w hw (omega (arith, ints, m, e))

-- ---- the places of members that have begun
module _ (names : List PointName) (name : PointName) where
  pub named_before : (number : ℕ) → number < length (map place_of names) → place_at (map place_of (names ++ name ∷ [])) number ≡ place_at (map place_of names) number
  named_before number l = ap (λ ps. place_at ps number) (map-append place_of names (name ∷ [])) ∙ still_at (map place_of names) (place_of name) number l

  pub named_last : (number : ℕ) → number ≡ length names → place_at (map place_of (names ++ name ∷ [])) number ≡ place_of name
  named_last number e = ap (λ ps. place_at ps number) (map-append place_of names (name ∷ [])) ∙ last_at (map place_of names) (place_of name) number (e ∙ sym (length-map names place_of))

module _ (input : StripInput) (valid : IsStripInput input) (full status after : List Member) (coming : List Start) (at : HPoint) (name : PointName) (begin : ℕ) (search : Search) (rows more_rows : List Row) (names : List PointName)
    (way : IsUnderWay input search.listed full coming ((at, name) ∷ search.ahead) search.tests.items rows names) (least : All (λ e. point_cmp (place at) (place e.0) ≡ Less) search.ahead) (numbered : begin ≡ length names)
    (gone some kept : List Member) (is : status ≡ gone ++ kept) (full_is : filter (begins_within input names) full ≡ some ++ kept) (gone_under : All (PassesUnder ((at, name) ∷ search.ahead)) gone) (some_under : All (PassesUnder ((at, name) ∷ search.ahead)) some) (out : is_in_strip input.strip (place at) ≡ false) (closed : IsClosedAt at begin status after rows more_rows) where
  abbrev r : Point
  r = place at

  abbrev unit_segs : List Segment
  unit_segs = map (λ (u : Unit). u.seg) way.units

  abbrev w : Member → Bool
  w = begins_within input names

  next : IsNextNode (segments_in input) way.q (place at)
  next =
      first_is_node way.n (segments_in input) unit_segs input.strip way.q (place at) (segs_of full) (segs_to_come coming) (points_of search.ahead) way.steep (proper_segments input valid) way.come
      (All-map (λ z. point_cmp (place at) z ≡ Less) (λ (d : HPoint × PointName). place d.0) search.ahead least)

  falls_full : SidesFallAlong (place at) (segs_of full)
  falls_full =
      falls way.n (segments_in input) unit_segs input.strip way.q (place at) (segs_of full) (segs_to_come coming) (place at ∷ points_of search.ahead) way.steep (proper_segments input valid)
      (units_are_stretches input way.units valid way.are) way.come next

  abbrev low_full : ℕ
  low_full = low (place at) full falls_full

  abbrev high_full : ℕ
  high_full = low (place at) full falls_full + count (place at) full falls_full

  abbrev u : List Member
  u = take (low (place at) full falls_full) full

  abbrev b : List Member
  b = slice_range full (low (place at) full falls_full) (low (place at) full falls_full + count (place at) full falls_full)

  abbrev o : List Member
  o = drop (low (place at) full falls_full + count (place at) full falls_full) full

  whole_full : full ≡ u ++ b ++ o
  whole_full =
      sym (take-append-drop low_full full) ∙ ap (λ ys. take low_full full ++ ys) (drop_split full low_full high_full (omega arith)) ∙ sym (append_assoc (take low_full full) (slice_range full low_full high_full) (drop high_full full))

  parts : AreParts (place at) u b o
  parts = of_split (place at) u b o (split_there (place at) full falls_full)

  -- ---- the parts that the code has found
  gone_low : All (λ m. pos 0 <ℤ height_over m.unit.seg (place at)) gone
  gone_low i d l = All-head (λ (e : HPoint × PointName). pos 0 <ℤ height_over (get_or gone i d).unit.seg (place e.0)) (at, name) search.ahead (gone_under i d l)

  some_low : All (λ m. pos 0 <ℤ height_over m.unit.seg (place at)) some
  some_low i d l = All-head (λ (e : HPoint × PointName). pos 0 <ℤ height_over (get_or some i d).unit.seg (place e.0)) (at, name) search.ahead (some_under i d l)

  falls_kept : SidesFallAlong (place at) (segs_of kept)
  falls_kept = fall_second (place at) some kept (subst (λ (ms : List Member). SidesFallAlong (place at) (segs_of ms)) full_is (kept_fall (place at) (begins_within input names) full falls_full))

  falls_status : SidesFallAlong (place at) (segs_of status)
  falls_status = subst (λ (ms : List Member). SidesFallAlong (place at) (segs_of ms)) (sym is) (fall_behind (place at) gone kept gone_low falls_kept)

  code_parts : AreParts (place at) closed.under closed.bundle closed.over
  code_parts = of_split (place at) closed.under closed.bundle closed.over (closed.split falls_status)

  abbrev low_kept : List Member
  low_kept = filter (begins_within input names) u

  abbrev held_kept : List Member
  held_kept = filter (begins_within input names) b

  abbrev high_kept : List Member
  high_kept = filter (begins_within input names) o

  full_parts : some ++ kept ≡ low_kept ++ held_kept ++ high_kept
  full_parts =
      sym full_is ∙ ap (filter (begins_within input names)) whole_full ∙ filter-append (begins_within input names) (u ++ b) o
      ∙ ap (λ (ms : List Member). ms ++ filter (begins_within input names) o) (filter-append (begins_within input names) u b)

  two_parts : AreParts (place at) low_kept held_kept high_kept
  two_parts = kept_parts (place at) (begins_within input names) u b o parts

  bundle_same : closed.bundle ≡ held_kept
  bundle_same = same_bundle (place at) gone some kept closed.under closed.bundle closed.over low_kept held_kept high_kept gone_low some_low code_parts two_parts (sym is ∙ closed.was) full_parts

  over_same : closed.over ≡ high_kept
  over_same = same_over (place at) gone some kept closed.under closed.bundle closed.over low_kept held_kept high_kept gone_low some_low code_parts two_parts (sym is ∙ closed.was) full_parts

  -- ---- no member of the full status that has not begun in the strip makes a row
  abbrev Carried : Member → Type 0
  Carried m = IsCarried way.n input (map place_of names) way.q m

  carried_parts : All (λ m. IsCarried way.n input (map place_of names) way.q m) (u ++ b ++ o)
  carried_parts = subst (λ (ms : List Member). All (λ m. IsCarried way.n input (map place_of names) way.q m) ms) whole_full way.carries.members

  carried_bundle : All (λ m. IsCarried way.n input (map place_of names) way.q m) b
  carried_bundle = all_second Carried u b (all_first Carried (u ++ b) o carried_parts)

  differs_within : (m : Member) → IsCarried way.n input (map place_of names) way.q m → m.differs ≡ true → begins_within input names m ≡ true
  differs_within m is d =
      (and_parts (is_in_strip input.strip (place_at (map place_of names) m.begin)) (sides_differ way.n input (seg_of m) (place_at (map place_of names) m.begin)) (sym is.carried.differs ∙ d)).0

  rows_same : more_rows ≡ rows ++ rows_of begin b
  rows_same =
      closed.closed
      ∙ ap (λ (ms : List Member). rows ++ map (row_to begin) ms)
      (ap (filter (λ (m : Member). m.differs)) bundle_same ∙ filter_twice (begins_within input names) (λ (m : Member). m.differs) b (λ i d l. differs_within (get_or b i d) (carried_bundle i d l)))

  -- ---- the full status goes on
  abbrev entering_count : ℕ
  entering_count = prefix_len (λ s. same_hpoint s.at at) coming

  abbrev entering : List Start
  entering = take (prefix_len (λ s. same_hpoint s.at at) coming) coming

  abbrev rest : List Start
  rest = drop (prefix_len (λ s. same_hpoint s.at at) coming) coming

  abbrev together : List Member
  together = b ++ map (member_of begin) entering

  abbrev staying : List Member
  staying = in_order turn_before (filter (λ m. ends_after (place at) m.unit.seg) together)

  abbrev stay : List Member
  stay = relabel begin input.steps (mask_over 0 u) staying

  abbrev full_after : List Member
  full_after = u ++ stay ++ o

  moved : IsPermutation (filter (unit_after (place at)) (units_of b ++ map (λ (s : Start). s.unit) entering)) (units_of staying)
  moved =
      subst (λ (us : List Unit). IsPermutation us (units_of staying))
      (units_filter (place at) together ∙ ap (filter (unit_after (place at))) (map-append (λ (m : Member). m.unit) b (map (member_of begin) entering) ∙ ap (λ us. units_of b ++ us) (units_entered begin entering)))
      (IsPermutation-map (λ (m : Member). m.unit) (filter (λ m. ends_after (place at) m.unit.seg) together) staying (order_moves turn_before (filter (λ m. ends_after (place at) m.unit.seg) together)))

  turned : AllPairs (λ a b. pos 0 ≤ℤ turn_of a b) (segs_of staying)
  turned = turned_order (filter (λ m. ends_after (place at) m.unit.seg) together)

  tested : AreSeamsTested input.strip (place at) (segs_of full_after) (seams_at false low_full (low_full + length stay)) search search
  tested = no_seams input.strip (place at) (segs_of full_after) search

  steps : IsStepped input at begin full full_after coming rest search search rows more_rows
  steps =
      stepped input at begin full full_after staying stay low_full high_full (length stay) entering_count coming search search rows more_rows (omega arith) (high_few (place at) full falls_full)
      (λ fall. split_there (place at) full falls_full) refl moved turned (relabel_units begin input.steps (mask_over 0 u) staying)
      (subst (λ t. AreBegun input.steps (mask_over 0 u) begin t stay) (sym out) (relabel_begun begin input.steps (mask_over 0 u) staying)) rows_same refl refl false (λ e. inl out) tested

  leaves_way : IsUnderWay input search.listed full_after rest search.ahead search.tests.items more_rows (names ++ name ∷ [])
  leaves_way = goes_way input valid full full_after coming rest at name begin search search rows more_rows names way least numbered steps

  -- ---- and the code's members are those that begin in the strip
  abbrev v : Member → Bool
  v = begins_within input (names ++ name ∷ [])

  alike : (ms : List Member) → All (λ m. IsCarried way.n input (map place_of names) way.q m) ms → filter (begins_within input (names ++ name ∷ [])) ms ≡ filter (begins_within input names) ms
  alike ms are =
      filter_alike (begins_within input (names ++ name ∷ [])) (begins_within input names) ms (λ i d l. ap (λ z. is_in_strip input.strip z) (named_before names name (get_or ms i d).begin (are i d l).known))

  key : IsKey input search.listed search.tests.items (at, name)
  key = All-head (IsKey input search.listed search.tests.items) (at, name) search.ahead way.keys

  none_begins : filter (begins_within input (names ++ name ∷ [])) stay ≡ []
  none_begins =
      filter_none (begins_within input (names ++ name ∷ [])) stay
      (λ i d l. ap (λ z. is_in_strip input.strip z) (named_last names name (get_or stay i d).begin (relabel_number begin input.steps (mask_over 0 u) staying i d l ∙ numbered) ∙ sym key.told) ∙ out)

  low_alike : filter (begins_within input (names ++ name ∷ [])) u ≡ low_kept
  low_alike = alike u (all_first Carried u b (all_first Carried (u ++ b) o carried_parts))

  leaves_full : filter (begins_within input (names ++ name ∷ [])) full_after ≡ low_kept ++ closed.over
  leaves_full =
      filter-append v (u ++ stay) o ∙ ap (λ (ms : List Member). ms ++ filter v o) (filter-append v u stay ∙ ap (λ (ms : List Member). filter v u ++ ms) none_begins ∙ append-nil (filter v u) ∙ low_alike)
      ∙ ap (λ (ms : List Member). low_kept ++ ms) (alike o (all_second Carried (u ++ b) o carried_parts) ∙ sym over_same)

  -- ---- what has been closed passes under the places ahead
  r_ahead : IsAhead (segments_in input) input.strip way.q (place at)
  r_ahead = All-head (IsAhead (segments_in input) input.strip way.q) (place at) (points_of search.ahead) way.come.ahead

  past : (border (input.strip.last + 1) *ℤ (place at).w) ≤ℤ (place at).x
  past = not_left input.strip (place at) r_ahead.from out

  r_there : (place at).x ≡ border (input.strip.last + 1) *ℤ (place at).w
  r_there = same_most (place at).x (border (input.strip.last + 1) *ℤ (place at).w) r_ahead.up_to past

  module _ (e : HPoint × PointName) (c : Contains search.ahead e) where
    after_r : point_cmp (place at) (place e.0) ≡ Less
    after_r = All-contains (λ (e : HPoint × PointName). point_cmp (place at) (place e.0) ≡ Less) search.ahead e least c

    e_ahead : IsAhead (segments_in input) input.strip way.q (place e.0)
    e_ahead = All-contains (IsAhead (segments_in input) input.strip way.q) (place at ∷ points_of search.ahead) (place e.0) way.come.ahead (contains_rest (place at) (points_of search.ahead) (place e.0) (contains_map (λ (d : HPoint × PointName). place d.0) search.ahead e c))

    e_there : (place e.0).x ≡ border (input.strip.last + 1) *ℤ (place e.0).w
    e_there = on_right input.strip (place at) (place e.0) (place_positive at) (place_positive e.0) past after_r e_ahead.up_to

    goes_under : (m : Member) → pos 0 <ℤ height_over m.unit.seg (place at) → pos 0 <ℤ height_over m.unit.seg (place e.0)
    goes_under m h = still_under m.unit.seg (place at) (place e.0) (border (input.strip.last + 1)) (place_positive at) (place_positive e.0) r_there e_there after_r (wide m.unit.seg.left.x m.unit.seg.right.x (left_most m.unit.seg m.ahead)) h
      where
        wide : (l r : ℤ) → l ≤ℤ r → pos 0 ≤ℤ (r -ℤ l)
        wide l r h = omega (arith, ints, h)

    held_goes_under : (m : Member) → IsCarried way.n input (map place_of names) way.q m → begins_within input names m ≡ true → height_over m.unit.seg (place at) ≡ pos 0 → IsTrue (is_on m.unit.seg (place at)) → pos 0 <ℤ height_over m.unit.seg (place e.0)
    held_goes_under m is w level on_r =
        let p : Point = place_at (map place_of names) m.begin in
        let hp : pos 0 <ℤ p.w = (way.carries.passes.small m.begin _ is.known).positive in
        let inside = lt_true p.x (border (input.strip.last + 1) *ℤ p.w) (and_parts (int_le (border input.strip.first *ℤ p.w) p.x) (int_lt p.x (border (input.strip.last + 1) *ℤ p.w)) w).1 in
        held_under m.unit.seg (place at) (place e.0) (border (input.strip.last + 1)) (place_positive at) (place_positive e.0) r_there e_there after_r
        (wide_there m.unit.seg p (place at) (border (input.strip.last + 1)) hp (place_positive at) is.carried.on on_r inside r_there) level

  all_under_ahead : (ms : List Member) → All (λ m. pos 0 <ℤ height_over m.unit.seg (place at)) ms → All (PassesUnder search.ahead) ms
  all_under_ahead ms h i d l = all_of (λ (e : HPoint × PointName). pos 0 <ℤ height_over (get_or ms i d).unit.seg (place e.0)) search.ahead (λ e c. goes_under e c (get_or ms i d) (h i d l))

  held_full : All (λ m. height_over m.unit.seg (place at) ≡ pos 0 → IsTrue (is_on m.unit.seg (place at))) (u ++ b ++ o)
  held_full =
      subst (λ (ms : List Member). All (λ m. height_over m.unit.seg (place at) ≡ pos 0 → IsTrue (is_on m.unit.seg (place at))) ms) whole_full
      (all_from_map (λ a. height_over a (place at) ≡ pos 0 → IsTrue (is_on a (place at))) seg_of full falls_full.held)

  abbrev Held : Member → Type 0
  Held m = height_over m.unit.seg (place at) ≡ pos 0 → IsTrue (is_on m.unit.seg (place at))

  held_bundle : All (λ m. height_over m.unit.seg (place at) ≡ pos 0 → IsTrue (is_on m.unit.seg (place at))) held_kept
  held_bundle = All-filter (begins_within input names) Held b (all_second Held u b (all_first Held (u ++ b) o held_full))

  held_under_ahead : All (PassesUnder search.ahead) held_kept
  held_under_ahead i d l =
      all_of (λ (e : HPoint × PointName). pos 0 <ℤ height_over (get_or held_kept i d).unit.seg (place e.0)) search.ahead
      (λ e c. held_goes_under e c (get_or held_kept i d) (All-filter (begins_within input names) Carried b carried_bundle i d l) (filter_passes (begins_within input names) b i d l) (two_parts.hold i d l) (held_bundle i d l (two_parts.hold i d l)))

  leaves_gone : All (PassesUnder search.ahead) (closed.under ++ closed.bundle)
  leaves_gone =
      All-append (PassesUnder search.ahead) closed.under closed.bundle (all_under_ahead closed.under code_parts.under) (subst (λ (ms : List Member). All (PassesUnder search.ahead) ms) (sym bundle_same) held_under_ahead)

  leaves_some : All (PassesUnder search.ahead) low_kept
  leaves_some = all_under_ahead low_kept two_parts.under

-- ---- a pass goes on
module _ (input : StripInput) (old new : Search) (status after : List Member) (coming rest_coming : List Start) (at : HPoint) (name : PointName) (begin : ℕ) (rows more_rows : List Row) (names : List PointName) (full : List Member) (all_coming : List Start)
    (way : IsUnderWay input old.listed full all_coming ((at, name) ∷ old.ahead) old.tests.items rows names) (least : All (λ e. point_cmp (place at) (place e.0) ≡ Less) old.ahead) (numbered : begin ≡ length names)
    (gone some kept : List Member) (is : status ≡ gone ++ kept) (full_is : filter (begins_within input names) full ≡ some ++ kept) (gone_under : All (PassesUnder ((at, name) ∷ old.ahead)) gone) (some_under : All (PassesUnder ((at, name) ∷ old.ahead)) some)
    (same_status : is_in_strip input.strip (place at) ≡ true → status ≡ filter (begins_within input names) full) (to_come : is_in_strip input.strip (place at) ≡ true → all_coming ≡ coming)
    (inner : is_in_strip input.strip (place at) ≡ true → IsStepped input at begin status after coming rest_coming old new rows more_rows)
    (outer : is_in_strip input.strip (place at) ≡ false → IsClosedAt at begin status after rows more_rows) (same_search : is_in_strip input.strip (place at) ≡ false → new ≡ old) where
  abbrev all_passed : List Point
  all_passed = map place_of names

  next_node : IsNextNode (segments_in input) way.q (place at)
  next_node =
      first_is_node way.n (segments_in input) (map (λ (u : Unit). u.seg) way.units) input.strip way.q (place at) (segs_of full) (segs_to_come all_coming) (points_of old.ahead) way.steep (proper_segments input way.valid) way.come
      (All-map (λ z. point_cmp (place at) z ≡ Less) (λ (d : HPoint × PointName). place d.0) old.ahead least)

  -- in the strip all that has begun has begun there
  begun_within : is_in_strip input.strip (place at) ≡ true → (number : ℕ) → number < length (map place_of names) → is_in_strip input.strip (place_at (map place_of names) number) ≡ true
  begun_within e number l =
      let passes = way.carries.passes in
      let hp = (passes.small number _ l).positive in
      before_in_strip input.strip (place_at (map place_of names) number) (place at) hp next_node.small.positive (passes.from number _ l)
      (not_after_before (place_at (map place_of names) number) way.q (place at) hp way.come.full.status_at.small.positive next_node.small.positive (passes.up_to number _ l) next_node.after) e

  full_status : is_in_strip input.strip (place at) ≡ true → full ≡ status
  full_status e = sym (same_status e ∙ filter_all (begins_within input names) full (λ i d l. begun_within e (get_or full i d).begin (way.carries.members i d l).known))

  named_at : IsKey input old.listed old.tests.items (at, name)
  named_at = All-head (IsKey input old.listed old.tests.items) (at, name) old.ahead way.keys

  still_within : is_in_strip input.strip (place at) ≡ true → (number : ℕ) → number < length (map place_of (names ++ name ∷ [])) → is_in_strip input.strip (place_at (map place_of (names ++ name ∷ [])) number) ≡ true
  still_within e number l = by (cases_lt number (length names))
    where
      long : length (map place_of (names ++ name ∷ [])) ≡ length names + 1
      long = length-map (names ++ name ∷ []) place_of ∙ length-append names (name ∷ [])

      by : (number < length names) ⊎ (length names ≤ number) → is_in_strip input.strip (place_at (map place_of (names ++ name ∷ [])) number) ≡ true
      by (inl h) =
          let known : number < length (map place_of names) = omega (arith, h, length-map names place_of) in
          ap (λ z. is_in_strip input.strip z) (named_before names name number known) ∙ begun_within e number known
      by (inr h) = ap (λ z. is_in_strip input.strip z) (named_last names name number (omega (arith, h, l, long)) ∙ sym named_at.told) ∙ e

  goes_within : is_in_strip input.strip (place at) ≡ true → IsAmid input new after rest_coming more_rows (names ++ name ∷ [])
  goes_within e =
      let P : List Member → Type 0 = λ (ms : List Member). IsUnderWay input old.listed ms all_coming ((at, name) ∷ old.ahead) old.tests.items rows names in
      let Q : List Start → Type 0 = λ (ss : List Start). IsUnderWay input old.listed status ss ((at, name) ∷ old.ahead) old.tests.items rows names in
      let goes : IsUnderWay input new.listed after rest_coming new.ahead new.tests.items more_rows (names ++ name ∷ []) =
      goes_way input way.valid status after coming rest_coming at name begin old new rows more_rows names (subst Q (to_come e) (subst P (full_status e) way)) least numbered (inner e) in
      let within : filter (begins_within input (names ++ name ∷ [])) after ≡ after =
      filter_all (begins_within input (names ++ name ∷ [])) after (λ i d l. still_within e (get_or after i d).begin (goes.carries.members i d l).known) in
      record {
        full = after;
        all_coming = rest_coming;
        way = goes;
        gone = [];
        some = [];
        kept = after;
        is = refl;
        full_is = within;
        gone_under = All-nil (PassesUnder new.ahead);
        some_under = All-nil (PassesUnder new.ahead);
        same_status = λ z c h. sym within;
        to_come = λ z c h. refl;
      }

  none_within : is_in_strip input.strip (place at) ≡ false → (z : HPoint × PointName) → Contains old.ahead z → is_in_strip input.strip (place z.0) ≡ true → ⊥
  none_within out z c h =
      let first = All-head (IsAhead (segments_in input) input.strip way.q) (place at) (points_of old.ahead) way.come.ahead in
      both_ways (is_in_strip input.strip (place at)) out
      (before_in_strip input.strip (place at) (place z.0) next_node.small.positive (place_positive z.0) first.from (All-contains (λ (e : HPoint × PointName). point_cmp (place at) (place e.0) ≡ Less) old.ahead z least c) h)

  goes_out : is_in_strip input.strip (place at) ≡ false → IsAmid input old after rest_coming more_rows (names ++ name ∷ [])
  goes_out out = record {
    full = full_after input way.valid full status after all_coming at name begin old rows more_rows names way least numbered gone some kept is full_is gone_under some_under out (outer out);
    all_coming = rest input way.valid full status after all_coming at name begin old rows more_rows names way least numbered gone some kept is full_is gone_under some_under out (outer out);
    way = leaves_way input way.valid full status after all_coming at name begin old rows more_rows names way least numbered gone some kept is full_is gone_under some_under out (outer out);
    gone = (outer out).under ++ (outer out).bundle;
    some = low_kept input way.valid full status after all_coming at name begin old rows more_rows names way least numbered gone some kept is full_is gone_under some_under out (outer out);
    kept = (outer out).over;
    is = (outer out).is ∙ (outer out).was;
    full_is = leaves_full input way.valid full status after all_coming at name begin old rows more_rows names way least numbered gone some kept is full_is gone_under some_under out (outer out);
    gone_under = leaves_gone input way.valid full status after all_coming at name begin old rows more_rows names way least numbered gone some kept is full_is gone_under some_under out (outer out);
    some_under = leaves_some input way.valid full status after all_coming at name begin old rows more_rows names way least numbered gone some kept is full_is gone_under some_under out (outer out);
    same_status = λ z c h. absurd (none_within out z c h);
    to_come = λ z c h. absurd (none_within out z c h);
  }

  pub goes_on : IsAmid input new after rest_coming more_rows (names ++ name ∷ [])
  goes_on = by (told (is_in_strip input.strip (place at)))
    where
      by : Told (is_in_strip input.strip (place at)) → IsAmid input new after rest_coming more_rows (names ++ name ∷ [])
      by (yes e) = goes_within e
      by (no e) = subst (λ (s : Search). IsAmid input s after rest_coming more_rows (names ++ name ∷ [])) (sym (same_search e)) (goes_out e)

-- the rows of a step end at its node
pub closes : {input : StripInput} {old new : Search} {status after : List Member} {coming rest : List Start} (at : HPoint) (begin : ℕ) (rows more_rows : List Row)
    → (is_in_strip input.strip (place at) ≡ true → IsStepped input at begin status after coming rest old new rows more_rows)
    → (is_in_strip input.strip (place at) ≡ false → IsClosedAt at begin status after rows more_rows) → (bundle : List Member) × (more_rows ≡ rows ++ rows_of begin bundle)
closes {input} at begin rows more_rows inner outer = by (told (is_in_strip input.strip (place at)))
  where
    by : Told (is_in_strip input.strip (place at)) → (bundle : List Member) × (more_rows ≡ rows ++ rows_of begin bundle)
    by (yes e) = ((inner e).bundle, (inner e).closed)
    by (no e) = ((outer e).bundle, (outer e).closed)

pub still_listed : {input : StripInput} {old new : Search} {status after : List Member} {coming rest : List Start} (at : HPoint) (begin : ℕ) (rows more_rows : List Row)
    → (is_in_strip input.strip (place at) ≡ true → IsStepped input at begin status after coming rest old new rows more_rows)
    → (is_in_strip input.strip (place at) ≡ false → new ≡ old) → new.listed ≡ old.listed
still_listed {input} {old} {new} at begin rows more_rows inner outer = by (told (is_in_strip input.strip (place at)))
  where
    by : Told (is_in_strip input.strip (place at)) → new.listed ≡ old.listed
    by (yes e) = (inner e).tested.listed
    by (no e) = ap (λ (s : Search). s.listed) (outer e)

-- ---- the pieces of a range of members are closed
pub closed_at : (at : HPoint) (begin : ℕ) (ms after : List Member) (low high : ℕ) (rows more_rows : List Row) → low ≤ high
    → (SidesFallAlong (place at) (segs_of ms) → IsSplitAt (place at) (segs_of (take low ms)) (segs_of (slice_range ms low high)) (segs_of (drop high ms)))
    → more_rows ≡ rows ++ rows_of begin (slice_range ms low high) → after ≡ ms → IsClosedAt at begin ms after rows more_rows
closed_at at begin ms after low high rows more_rows order split closed is = record {
  under = take low ms;
  bundle = slice_range ms low high;
  over = drop high ms;
  was = sym (take-append-drop low ms) ∙ ap (λ ys. take low ms ++ ys) (drop_split ms low high order) ∙ sym (append_assoc (take low ms) (slice_range ms low high) (drop high ms));
  is = is;
  closed = closed;
  split = split;
}

-- no more enter than are to come
pub still_few : (p : Start → Bool) (starts items coming : List Start) (entered more : ℕ) → coming ≡ drop entered starts → more ≡ prefix_len p coming → entered ≤ length starts → entered + more ≤ length starts
still_few p starts items coming entered more e f few = omega (arith, few, f, prefix_len-le-length p coming, ap length e, length-drop entered starts)
