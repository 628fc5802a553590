-- A place that is added to those found ahead.
use Rattle.std.proofs.Common.{◌≡◌, inl, inr, ◌⊎◌, List, [], ◌∷◌, map, refl, sym, subst}
use Rattle.std.specs.Prelude.{IsTrue, Contains}
use Rattle.std.specs.Ordering.{match_ordering}
use Rattle.std.specs.BTreeSet.{insert_key}
use Rattle.std.specs.declared.cmp.Ordering.{Ordering}
use Rattle.std.specs.declared.cmp.Ordering.TheVariants.{Less, Equal, Greater}
use Rattle.overlay_terms.specs.Plane.{same_place}
use Rattle.overlay_terms.proofs.Lists.{any_from, any_contains, Contains-cons_cases, contains_first, contains_rest}
use Rattle.exact_point.specs.Place.{place}
use Rattle.exact_point.specs.declared.point.HPoint.{HPoint}
use Rattle.exact_point.specs.declared.point_name.PointName.{PointName}
use Rattle.exact_point.proofs.PlaceOrder.{same_from_equal, same_self}
use Rattle.crossing_sweep.specs.Ahead.{HasAdded}
use Rattle.crossing_sweep.specs.RankedPlace.{ranked_cmp, ranked_entry}
use Rattle.crossing_sweep.specs.declared.ranked_place.RankedPlace.{RankedPlace}
use Rattle.arrange.proofs.FoundLemmas.{place_positive}

module _ (x : RankedPlace) where
  abbrev IsHere : HPoint × PointName → Type 0
  IsHere e = IsTrue (same_place (place x.at) (place e.0))

  -- some places, one of which is found
  abbrev IsAdded : List RankedPlace → List RankedPlace → Type 0
  IsAdded old new = HasAdded (map ranked_entry old) x.at x.name (map ranked_entry new)

  -- it is put first
  as_first : (ks : List RankedPlace) → IsAdded ks (x ∷ ks)
  as_first ks = record {
    kept = λ e c. contains_rest (ranked_entry x) (map ranked_entry ks) e c;
    there = any_from IsHere (map ranked_entry (x ∷ ks)) (ranked_entry x) (contains_first (ranked_entry x) (map ranked_entry ks)) (same_self (place x.at));
    only = λ e c. by e (Contains-cons_cases (ranked_entry x) (map ranked_entry ks) e c);
  }
    where
      by : (e : HPoint × PointName) → (ranked_entry x ≡ e) ⊎ Contains (map ranked_entry ks) e → Contains (map ranked_entry ks) e ⊎ (ranked_entry x ≡ e)
      by e (inl f) = inr f
      by e (inr c) = inl c

  -- it is the first already
  is_first : (k : RankedPlace) (ks : List RankedPlace) → ranked_cmp x k ≡ Equal → IsAdded (k ∷ ks) (k ∷ ks)
  is_first k ks f = record {
    kept = λ e c. c;
    there =
        any_from IsHere (map ranked_entry (k ∷ ks)) (ranked_entry k) (contains_first (ranked_entry k) (map ranked_entry ks))
        (same_from_equal (place x.at) (place k.at) (place_positive x.at) (place_positive k.at) f);
    only = λ e c. inl c;
  }

  -- it is put among those after the first
  after_first : (k : RankedPlace) (ks new : List RankedPlace) → IsAdded ks new → IsAdded (k ∷ ks) (k ∷ new)
  after_first k ks new added = record {
    kept = λ e c. kept e (Contains-cons_cases (ranked_entry k) (map ranked_entry ks) e c);
    there =
        let a = added.there in
        any_from IsHere (map ranked_entry (k ∷ new)) a.1 (contains_rest (ranked_entry k) (map ranked_entry new) a.1 (any_contains IsHere (map ranked_entry new) a)) a.4;
    only = λ e c. only e (Contains-cons_cases (ranked_entry k) (map ranked_entry new) e c);
  }
    where
      kept : (e : HPoint × PointName) → (ranked_entry k ≡ e) ⊎ Contains (map ranked_entry ks) e → Contains (map ranked_entry (k ∷ new)) e
      kept e (inl f) = subst (λ z. Contains (map ranked_entry (k ∷ new)) z) f (contains_first (ranked_entry k) (map ranked_entry new))
      kept e (inr c) = contains_rest (ranked_entry k) (map ranked_entry new) e (added.kept e c)

      later : (e : HPoint × PointName) → Contains (map ranked_entry ks) e ⊎ (ranked_entry x ≡ e) → Contains (map ranked_entry (k ∷ ks)) e ⊎ (ranked_entry x ≡ e)
      later e (inl c) = inl (contains_rest (ranked_entry k) (map ranked_entry ks) e c)
      later e (inr f) = inr f

      only : (e : HPoint × PointName) → (ranked_entry k ≡ e) ⊎ Contains (map ranked_entry new) e → Contains (map ranked_entry (k ∷ ks)) e ⊎ (ranked_entry x ≡ e)
      only e (inl f) = inl (subst (λ z. Contains (map ranked_entry (k ∷ ks)) z) f (contains_first (ranked_entry k) (map ranked_entry ks)))
      only e (inr c) = later e (added.only e c)

  added_by : (k : RankedPlace) (ks : List RankedPlace) (o : Ordering) → ranked_cmp x k ≡ o → IsAdded ks (insert_key ranked_cmp ks x) → IsAdded (k ∷ ks) (match_ordering o (x ∷ k ∷ ks) (k ∷ ks) (k ∷ insert_key ranked_cmp ks x))
  added_by k ks Less f more = as_first (k ∷ ks)
  added_by k ks Equal f more = is_first k ks f
  added_by k ks Greater f more = after_first k ks (insert_key ranked_cmp ks x) more

  added : (ks : List RankedPlace) → IsAdded ks (insert_key ranked_cmp ks x)
  added [] = as_first []
  added (k ∷ ks) = added_by k ks (ranked_cmp x k) refl (added ks)

  -- a set of places to which it is added
  pub set_added : (ks new : List RankedPlace) → new ≡ insert_key ranked_cmp ks x → HasAdded (map ranked_entry ks) x.at x.name (map ranked_entry new)
  set_added ks new f = subst (λ (l : List RankedPlace). IsAdded ks l) (sym f) (added ks)
