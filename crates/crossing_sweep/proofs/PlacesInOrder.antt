-- Offered places in their order, each once.
use Rattle.std.proofs.Common.{◌≡◌, pos, ◌<ℤ◌, ◌++◌, true, ◌⊎◌, inl, inr, List, [], ◌∷◌, map, refl, ap, sym, subst, ◌∙◌}
use Rattle.std.specs.Prelude.{AllPairs, Any, Contains, IsTrue}
use Rattle.std.specs.Cmp.{eq_by_cmp_equiv}
use Rattle.std.proofs.lemmas.Cmp.{on_total}
use Rattle.std.specs.List.{dedup}
use Rattle.std.specs.List.Sorted.{IsPermutation, IsSorted}
use Rattle.std.specs.declared.cmp.Ordering.TheVariants.{Less}
use Rattle.std.proofs.lemmas.List.{map-append}
use Rattle.std.proofs.lemmas.Simd.{map-map}
use Rattle.std.proofs.lemmas.List.Elements.{All-contains, Contains-append_left, Contains-push, Contains-append_cases}
use Rattle.std.proofs.lemmas.List.Sorted.{Contains-permutation, IsPermutation-sym}
use Rattle.std.proofs.lemmas.List.Kept.{Any-dedup, Contains-from_dedup, IsStrictlySortedBy-dedup}
use Rattle.overlay_terms.specs.Plane.{Point, same_place}
use Rattle.overlay_terms.proofs.Lists.{any_from, any_contains, contains_map, Contains-cons_cases, none_in_empty, from_map}
use Rattle.overlay_terms.proofs.Pairs.{pairs_map}
use Rattle.exact_point.specs.Place.{place}
use Rattle.exact_point.specs.PointName.{IsPlaceOf}
use Rattle.exact_point.specs.declared.point.HPoint.{HPoint}
use Rattle.exact_point.specs.declared.point_name.PointName.{PointName}
use Rattle.exact_point.proofs.PlaceOrder.{same_from_equal, same_through, same_self}
use Rattle.arrange.proofs.SortedPlaces.{strict_pairs, equal_from_test}
use Rattle.arrange.proofs.FoundLemmas.{place_positive}
use Rattle.crossing_sweep.specs.StripInput.{is_in_closed_strip, Span}
use Rattle.crossing_sweep.specs.Ahead.{HasAdded, IsOffered, AreOffered}
use Rattle.crossing_sweep.specs.RankedPlace.{ranked_cmp, ranked_total, same_ranked, ranked_entry}
use Rattle.crossing_sweep.specs.declared.ranked_place.RankedPlace.{RankedPlace}
use Rattle.crossing_sweep.proofs.PassLemmas.{all_of}

-- a place put last has been added
pub pushed_added : (places : List RankedPlace) (z : RankedPlace) → HasAdded (map ranked_entry places) z.at z.name (map ranked_entry (places ++ z ∷ []))
pushed_added places z =
    let P : List (HPoint × PointName) → Type 0 = λ l. HasAdded (map ranked_entry places) z.at z.name l in
    subst P (sym (map-append ranked_entry places (z ∷ []))) (record {
      kept = λ e c. Contains-append_left (map ranked_entry places) (ranked_entry z ∷ []) e c;
      there = any_from (λ (e : HPoint × PointName). IsTrue (same_place (place z.at) (place e.0))) (map ranked_entry places ++ ranked_entry z ∷ []) (ranked_entry z) (Contains-push (map ranked_entry places) (ranked_entry z)) (same_self (place z.at));
      only = λ e c. only e (Contains-append_cases (map ranked_entry places) (ranked_entry z ∷ []) e c);
    })
  where
    last : (e : HPoint × PointName) → (ranked_entry z ≡ e) ⊎ Contains [] e → ranked_entry z ≡ e
    last e (inl f) = f
    last e (inr c) = absurd (none_in_empty e c)

    only : (e : HPoint × PointName) → Contains (map ranked_entry places) e ⊎ Contains (ranked_entry z ∷ []) e → Contains (map ranked_entry places) e ⊎ (ranked_entry z ≡ e)
    only e (inl c) = inl c
    only e (inr c) = inr (last e (Contains-cons_cases (ranked_entry z) [] e c))

-- the order of a place among others is given by a function of what is sorted
module _ {T : Type 0} (now : T → RankedPlace) (strip : Span) (names : List PointName) (places sorted list : List T) (moved : IsPermutation places sorted) (up : IsSorted (λ a b. ranked_cmp (now a) (now b)) sorted) (is : list ≡ dedup (λ a b. same_ranked (now a) (now b)) sorted) where
  pub in_order : AllPairs (λ a b. ranked_cmp (now a) (now b) ≡ Less) list
  in_order =
      let P : List T → Type 0 = λ l. AllPairs (λ a b. ranked_cmp (now a) (now b) ≡ Less) l in
      subst P (sym is) (strict_pairs (λ a b. ranked_cmp (now a) (now b)) (dedup (λ a b. same_ranked (now a) (now b)) sorted) (IsStrictlySortedBy-dedup (on_total now ranked_total) (λ x y. refl) sorted up))

  -- they are offered all the same
  pub offered_once : AreOffered strip names (map (λ t. ranked_entry (now t)) places) → AreOffered strip names (map (λ t. ranked_entry (now t)) list)
  offered_once are =
      let P : List T → Type 0 = λ l. AreOffered strip names (map (λ t. ranked_entry (now t)) l) in
      subst P (sym is) (record { sound = all_of (IsOffered strip names) (map (λ t. ranked_entry (now t)) (dedup (λ a b. same_ranked (now a) (now b)) sorted)) sound; complete = complete })
    where
      sound : (e : HPoint × PointName) → Contains (map (λ t. ranked_entry (now t)) (dedup (λ a b. same_ranked (now a) (now b)) sorted)) e → IsOffered strip names e
      sound e c =
          let z = from_map (λ t. ranked_entry (now t)) (dedup (λ a b. same_ranked (now a) (now b)) sorted) e c in
          let there : Contains places z.0 = Contains-permutation sorted places z.0 (IsPermutation-sym places sorted moved) (Contains-from_dedup (λ a b. same_ranked (now a) (now b)) sorted z.0 z.1) in
          let Q : HPoint × PointName → Type 0 = λ e. IsOffered strip names e in
          subst Q z.2 (All-contains (IsOffered strip names) (map (λ t. ranked_entry (now t)) places) (ranked_entry (now z.0)) are.sound (contains_map (λ t. ranked_entry (now t)) places z.0 there))

      complete : (name : PointName) (p : Point) → Contains names name → pos 0 <ℤ p.w → IsPlaceOf name p → IsTrue (is_in_closed_strip strip p) → Any (λ e. IsTrue (same_place p (place e.0))) (map (λ t. ranked_entry (now t)) (dedup (λ a b. same_ranked (now a) (now b)) sorted))
      complete name p c hp stands within =
          let IsAt : HPoint × PointName → Type 0 = λ e. IsTrue (same_place p (place e.0)) in
          let a = are.complete name p c hp stands within in
          let z = from_map (λ t. ranked_entry (now t)) places a.1 (any_contains (λ (e : HPoint × PointName). IsTrue (same_place p (place e.0))) (map (λ t. ranked_entry (now t)) places) a) in
          let at : IsTrue (same_place p (place (now z.0).at)) = subst IsAt (sym z.2) a.4 in
          let b = Any-dedup (eq_by_cmp_equiv (on_total now ranked_total)) sorted z.0 (Contains-permutation places sorted z.0 moved z.1) in
          let kept : Contains (dedup (λ a b. same_ranked (now a) (now b)) sorted) b.1 = any_contains (λ y. same_ranked (now z.0) (now y) ≡ true) (dedup (λ a b. same_ranked (now a) (now b)) sorted) b in
          any_from (λ (e : HPoint × PointName). IsTrue (same_place p (place e.0))) (map (λ t. ranked_entry (now t)) (dedup (λ a b. same_ranked (now a) (now b)) sorted)) (ranked_entry (now b.1)) (contains_map (λ t. ranked_entry (now t)) (dedup (λ a b. same_ranked (now a) (now b)) sorted) b.1 kept)
          (same_through p (place (now z.0).at) (place (now b.1).at) hp (place_positive (now z.0).at) (place_positive (now b.1).at) at (same_from_equal (place (now z.0).at) (place (now b.1).at) (place_positive (now z.0).at) (place_positive (now b.1).at) (equal_from_test (ranked_cmp (now z.0) (now b.1)) b.4)))

-- they are the same entries
pub same_entries : {T : Type 0} (now : T → RankedPlace) (list : List T) (places : List RankedPlace) → places ≡ map now list → map ranked_entry places ≡ map (λ t. ranked_entry (now t)) list
same_entries now list places e = ap (map ranked_entry) e ∙ map-map ranked_entry now list

-- and in the same order
pub ranked_in_order : {T : Type 0} (now : T → RankedPlace) (list : List T) (places : List RankedPlace) → places ≡ map now list → AllPairs (λ a b. ranked_cmp (now a) (now b) ≡ Less) list → AllPairs (λ a b. ranked_cmp a b ≡ Less) places
ranked_in_order now list places e ordered = subst (λ (l : List RankedPlace). AllPairs (λ a b. ranked_cmp a b ≡ Less) l) (sym e) (pairs_map (λ a b. ranked_cmp a b ≡ Less) now list ordered)
