-- The units and segments of members that a sort has put in the order of their directions.
use Rattle.std.proofs.Common.{◌≡◌, ◌⊎◌, inl, inr, Bool, true, cond, ℕ, zero, suc, ℤ, pos, ◌+◌, neg_ℤ, ◌-◌, ◌≤◌, ◌<◌, ◌<ℤ◌, ◌≤ℤ◌, false, List, [], ◌∷◌, ◌++◌, map, take, drop, get_or, slice_set, length, refl, ap, sym, subst, ◌∙◌, arith}
use Rattle.std.specs.Prelude.{filter, All, Contains}
use Rattle.std.specs.List.{AllPairs, slice_range}
use Rattle.std.specs.List.Sorted.{IsPermutation, IsSorted}
use Rattle.std.specs.Ordering.{is_lt, int_cmp}
use Rattle.std.specs.Cmp.{int_cmp_is}
use Rattle.std.specs.declared.cmp.Ordering.TheVariants.{Less}
use Rattle.std.proofs.lemmas.Int.{ints, by_lt_z}
use Rattle.std.proofs.lemmas.Bool.{both_ways}
use Rattle.std.proofs.lemmas.List.Elements.{filter-append, Contains-append_cases, All-contains}
use Rattle.std.proofs.lemmas.List.{map-append, length-take-le, length-drop, length-map, drop_more}
use Rattle.std.proofs.lemmas.Simd.{map-map}
use Rattle.overlay_terms.proofs.Lists.{contains_map, from_map, contains_first, none_in_empty, Contains-cons_cases}
use Rattle.arrange.specs.declared.unit.Unit.{Unit}
use Rattle.crossing_sweep.specs.declared.start.Start.{Start}
use Rattle.crossing_sweep.proofs.PassLemmas.{all_of, filter_contains}
use Rattle.std.proofs.lemmas.List.Sorted.{sorted_far, ranks_by, IsPermutation-map, IsPermutation-refl, IsPermutation-sym, Contains-permutation, length_permutation}
use Rattle.overlay_terms.specs.Plane.{Point, Segment}
use Rattle.overlay_terms.proofs.Pairs.{pairs_map}
use Rattle.overlay_terms.proofs.Whole.{turn_back}
use Rattle.exact_point.specs.Crossing.{turn_of}
use Rattle.exact_point.proofs.Lines.{width, rise}
use Rattle.tile_laws.proofs.Ranks.{Told, yes, no, told}
use Rattle.crossing_sweep.specs.Member.{units_of, seg_of, segs_of, ends_after, member_cmp, member_total}
use Rattle.crossing_sweep.specs.declared.member.Member.{Member}

abbrev pub unit_after : Point → Unit → Bool
unit_after r u = ends_after r u.seg

-- the units of members that go on are the units that go on
pub units_filter : (r : Point) (ms : List Member) → units_of (filter (λ m. ends_after r m.unit.seg) ms) ≡ filter (unit_after r) (units_of ms)
units_filter r [] = refl
units_filter r (m ∷ ms) = by (units_filter r ms) (told (ends_after r m.unit.seg))
  where
    by : units_of (filter (λ m. ends_after r m.unit.seg) ms) ≡ filter (unit_after r) (units_of ms) → Told (ends_after r m.unit.seg)
        → units_of (filter (λ m. ends_after r m.unit.seg) (m ∷ ms)) ≡ filter (unit_after r) (units_of (m ∷ ms))
    by more (yes e) = rw e (ap (λ us. m.unit ∷ us) more)
    by more (no e) = rw e more

segs_filter : (r : Point) (us : List Unit) → map (λ (u : Unit). u.seg) (filter (unit_after r) us) ≡ filter (ends_after r) (map (λ (u : Unit). u.seg) us)
segs_filter r [] = refl
segs_filter r (u ∷ us) = by (segs_filter r us) (told (ends_after r u.seg))
  where
    by : map (λ (u : Unit). u.seg) (filter (unit_after r) us) ≡ filter (ends_after r) (map (λ (u : Unit). u.seg) us) → Told (ends_after r u.seg)
        → map (λ (u : Unit). u.seg) (filter (unit_after r) (u ∷ us)) ≡ filter (ends_after r) (map (λ (u : Unit). u.seg) (u ∷ us))
    by more (yes e) = rw e (ap (λ ss. u.seg ∷ ss) more)
    by more (no e) = rw e more

-- what was kept and what was added, moved
pub all_moved : (r : Point) (bundle kept added stay : List Member) (entering : List Unit) → kept ≡ filter (λ m. ends_after r m.unit.seg) bundle → units_of added ≡ units_of kept ++ filter (unit_after r) entering
    → IsPermutation added stay → IsPermutation (filter (unit_after r) (units_of bundle ++ entering)) (units_of stay)
all_moved r bundle kept added stay entering e f moved =
    subst (λ (us : List Unit). IsPermutation us (units_of stay))
    (f ∙ ap (λ (ms : List Member). units_of ms ++ filter (unit_after r) entering) e ∙ ap (λ us. us ++ filter (unit_after r) entering) (units_filter r bundle) ∙ sym (filter-append (unit_after r) (units_of bundle) entering))
    (IsPermutation-map (λ (m : Member). m.unit) added stay moved)

-- the segments of the units of members are their segments
segs_of_units : (ms : List Member) → map (λ (u : Unit). u.seg) (units_of ms) ≡ segs_of ms
segs_of_units ms = map-map (λ (u : Unit). u.seg) (λ (m : Member). m.unit) ms

pub same_segs : (a b : List Member) → units_of a ≡ units_of b → segs_of a ≡ segs_of b
same_segs a b e = sym (segs_of_units a) ∙ ap (map (λ (u : Unit). u.seg)) e ∙ segs_of_units b

pub segs_moved : (r : Point) (bundle stay : List Member) (entering : List Start) → IsPermutation (filter (unit_after r) (units_of bundle ++ map (λ (s : Start). s.unit) entering)) (units_of stay)
    → IsPermutation (filter (ends_after r) (segs_of bundle ++ map (λ (s : Start). s.unit.seg) entering)) (segs_of stay)
segs_moved r bundle stay entering moved =
    subst (λ (us : List Segment). IsPermutation us (segs_of stay)) from
    (subst (λ (us : List Segment). IsPermutation (map (λ (u : Unit). u.seg) (filter (unit_after r) (units_of bundle ++ map (λ (s : Start). s.unit) entering))) us) (segs_of_units stay)
    (IsPermutation-map (λ (u : Unit). u.seg) (filter (unit_after r) (units_of bundle ++ map (λ (s : Start). s.unit) entering)) (units_of stay) moved))
  where
    from : map (λ (u : Unit). u.seg) (filter (unit_after r) (units_of bundle ++ map (λ (s : Start). s.unit) entering)) ≡ filter (ends_after r) (segs_of bundle ++ map (λ (s : Start). s.unit.seg) entering)
    from =
        segs_filter r (units_of bundle ++ map (λ (s : Start). s.unit) entering)
        ∙ ap (filter (ends_after r))
        (map-append (λ (u : Unit). u.seg) (units_of bundle) (map (λ (s : Start). s.unit) entering)
        ∙ ap (λ us. us ++ map (λ (u : Unit). u.seg) (map (λ (s : Start). s.unit) entering)) (segs_of_units bundle)
        ∙ ap (λ us. segs_of bundle ++ us) (map-map (λ (u : Unit). u.seg) (λ (s : Start). s.unit) entering))

-- the units that stay are among those of the bundle and those that enter
module _ (r : Point) (bundle stay : List Member) (entering : List Start) (moved : IsPermutation (filter (unit_after r) (units_of bundle ++ map (λ (s : Start). s.unit) entering)) (units_of stay)) (units : List Unit)
    (from_bundle : All (λ m. Contains units m.unit) bundle) (from_entering : All (λ s. Contains units s.unit) entering) where
  stays : (m : Member) → Contains stay m → Contains (units_of bundle) m.unit ⊎ Contains (map (λ (s : Start). s.unit) entering) m.unit
  stays m c =
      Contains-append_cases (units_of bundle) (map (λ (s : Start). s.unit) entering) m.unit
      (filter_contains (unit_after r) (units_of bundle ++ map (λ (s : Start). s.unit) entering) m.unit
      (Contains-permutation (units_of stay) (filter (unit_after r) (units_of bundle ++ map (λ (s : Start). s.unit) entering)) m.unit
      (IsPermutation-sym (filter (unit_after r) (units_of bundle ++ map (λ (s : Start). s.unit) entering)) (units_of stay) moved) (contains_map (λ (m : Member). m.unit) stay m c))).0

  known : (u : Unit) → Contains (units_of bundle) u ⊎ Contains (map (λ (s : Start). s.unit) entering) u → Contains units u
  known u (inl c) =
      let m = from_map (λ (m : Member). m.unit) bundle u c in
      subst (λ v. Contains units v) m.2 (All-contains (λ m. Contains units m.unit) bundle m.0 from_bundle m.1)
  known u (inr c) =
      let s = from_map (λ (s : Start). s.unit) entering u c in
      subst (λ v. Contains units v) s.2 (All-contains (λ s. Contains units s.unit) entering s.0 from_entering s.1)

  pub stay_units : All (λ m. Contains units m.unit) stay
  stay_units = all_of (λ m. Contains units m.unit) stay (λ m c. known m.unit (stays m c))

-- sorted members turn left
module _ (stay : List Member) (sorted : IsSorted member_cmp stay) where
  module _ (i j : ℕ) (d : Member) (l : i < j) (m : j < length stay) where
    abbrev a : Segment
    a = (get_or stay i d).unit.seg

    abbrev b : Segment
    b = (get_or stay j d).unit.seg

    back : is_lt (int_cmp (pos 0) (turn_of b a)) ≡ false
    back = sorted_far (λ x y. is_lt (member_cmp x y)) (ranks_by member_total (λ (m : Member). m)) stay sorted i j d (omega (arith, l)) m

    no_less : (z : ℤ) → is_lt (int_cmp (pos 0) z) ≡ false → pos 0 <ℤ z → ⊥
    no_less z f h = both_ways (is_lt (int_cmp (pos 0) z)) f (ap is_lt (sym (int_cmp_is (pos 0) z Less h)))

    turn : turn_of a b ≡ neg_ℤ (turn_of b a)
    turn = turn_back (width b) (rise b) (width a) (rise a)

    more : (x y : ℤ) → y ≡ neg_ℤ x → x ≤ℤ pos 0 → pos 0 ≤ℤ y
    more x y e h = omega (arith, ints, e, h)

    left : pos 0 ≤ℤ turn_of a b
    left = by_lt_z (pos 0) (turn_of b a) (λ h. absurd (no_less (turn_of b a) back h)) (λ h. more (turn_of b a) (turn_of a b) turn h)

  pub all_turned : AllPairs (λ a b. pos 0 ≤ℤ turn_of a b) (segs_of stay)
  all_turned = pairs_map (λ a b. pos 0 ≤ℤ turn_of a b) seg_of stay left

-- where one member alone is in a bundle, none enters and one stays, it is that one
module _ (r : Point) where
  sole : (m s : Member) → IsPermutation (filter (unit_after r) (m.unit ∷ [])) (s.unit ∷ []) → m.unit ≡ s.unit
  sole m s moved = by (told (unit_after r m.unit)) moved
    where
      only : (m.unit ≡ s.unit) ⊎ Contains [] s.unit → m.unit ≡ s.unit
      only (inl e) = e
      only (inr h) = absurd (none_in_empty s.unit h)

      one : IsPermutation (m.unit ∷ []) (s.unit ∷ []) → m.unit ≡ s.unit
      one same =
          only (Contains-cons_cases m.unit [] s.unit
          (Contains-permutation (s.unit ∷ []) (m.unit ∷ []) s.unit (IsPermutation-sym (m.unit ∷ []) (s.unit ∷ []) same) (contains_first s.unit [])))

      none : IsPermutation [] (s.unit ∷ []) → m.unit ≡ s.unit
      none same = absurd (omega (arith, length_permutation [] (s.unit ∷ []) same))

      by : Told (unit_after r m.unit) → IsPermutation (filter (unit_after r) (m.unit ∷ [])) (s.unit ∷ []) → m.unit ≡ s.unit
      by (yes e) same = one (subst (λ b. IsPermutation (cond b (m.unit ∷ []) []) (s.unit ∷ [])) e same)
      by (no e) same = none (subst (λ b. IsPermutation (cond b (m.unit ∷ []) []) (s.unit ∷ [])) e same)

  alone_units : (bundle stay : List Member) (entering : List Start) → length bundle ≡ 1 → length entering ≡ 0 → length stay ≡ 1
      → IsPermutation (filter (unit_after r) (units_of bundle ++ map (λ (s : Start). s.unit) entering)) (units_of stay) → segs_of stay ≡ segs_of bundle
  alone_units (m ∷ []) (s ∷ []) [] e f g moved = ap (λ (u : Unit). u.seg ∷ []) (sym (sole m s moved))
  alone_units [] stay entering e f g moved = absurd (omega (arith, e))
  alone_units (m ∷ (n ∷ ms)) stay entering e f g moved = absurd (omega (arith, e))
  alone_units (m ∷ []) [] entering e f g moved = absurd (omega (arith, g))
  alone_units (m ∷ []) (s ∷ (t ∷ ss)) entering e f g moved = absurd (omega (arith, g))
  alone_units (m ∷ []) (s ∷ []) (x ∷ xs) e f g moved = absurd (omega (arith, f))

-- so it is where the code counts them
pub alone_stays : (r : Point) (ms turned stay : List Member) (low high k : ℕ) (coming : List Start) → high ≤ length ms → high - low ≡ 1 → k ≡ 0 → length stay ≡ 1
    → IsPermutation (filter (unit_after r) (units_of (slice_range ms low high) ++ map (λ (s : Start). s.unit) (take k coming))) (units_of turned) → units_of stay ≡ units_of turned
    → segs_of stay ≡ segs_of (slice_range ms low high)
alone_stays r ms turned stay low high k coming few single none one moved labelled =
    alone_units r (slice_range ms low high) stay (take k coming) (length-take-le (high - low) (drop low ms) (omega (arith, few, length-drop low ms)) ∙ single) (ap (λ j. length (take j coming)) none) one
    (subst (λ (us : List Unit). IsPermutation (filter (unit_after r) (units_of (slice_range ms low high) ++ map (λ (s : Start). s.unit) (take k coming))) us) (sym labelled) moved)

-- members with one of them written anew
pub set_one : (ms : List Member) (k : ℕ) (m : Member) → k < length ms → slice_set ms k m ≡ take k ms ++ (m ∷ drop (k + 1) ms)
set_one ms k m l = from ms k l ∙ ap (λ j. take k ms ++ (m ∷ drop j ms)) (next k)
  where
    next : (k : ℕ) → suc k ≡ k + 1
    next k = omega arith

    from : (ms : List Member) (k : ℕ) → k < length ms → slice_set ms k m ≡ take k ms ++ (m ∷ drop (suc k) ms)
    from [] k l = absurd (omega (arith, l))
    from (n ∷ ms) zero l = refl
    from (n ∷ ms) (suc k) l = ap (λ zs. n ∷ zs) (from ms k (omega (arith, l)))

-- a member that holds a place alone, and goes on where none enters
module _ (r : Point) (ms : List Member) (low high k : ℕ) (x : Member) (coming : List Start) (few : low < length ms) (single : high - low ≡ 1) (none : k ≡ 0) (is : x ≡ get_or ms low x) where
  pub lone_slice : slice_range ms low high ≡ x ∷ []
  lone_slice = ap (λ n. take n (drop low ms)) single ∙ ap (take 1) (drop_more ms low x few) ∙ ap (λ y. y ∷ []) (sym is)

  pub lone_moved : (stay : List Member) → ends_after r x.unit.seg ≡ true → units_of stay ≡ x.unit ∷ []
      → IsPermutation (filter (unit_after r) (units_of (slice_range ms low high) ++ map (λ (s : Start). s.unit) (take k coming))) (units_of stay)
  lone_moved stay goes one = subst (λ (us : List Unit). IsPermutation us (units_of stay)) (sym kept) (IsPermutation-refl (units_of stay))
    where
      kept : filter (unit_after r) (units_of (slice_range ms low high) ++ map (λ (s : Start). s.unit) (take k coming)) ≡ units_of stay
      kept =
          ap (λ xs. filter (unit_after r) (units_of xs ++ map (λ (s : Start). s.unit) (take k coming))) lone_slice
          ∙ ap (λ j. filter (unit_after r) (x.unit ∷ map (λ (s : Start). s.unit) (take j coming))) none
          ∙ ap (λ b. cond b (x.unit ∷ []) []) goes ∙ sym one

-- it is in order
pub lone_turned : (stay : List Member) → length stay ≡ 1 → AllPairs (λ a b. pos 0 ≤ℤ turn_of a b) (segs_of stay)
lone_turned stay one i j d l m = absurd (omega (arith, l, m, one, length-map stay seg_of))
