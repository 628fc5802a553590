-- The first of the places that a sweep has found ahead: of those found since it began, or the next of those known at first.
use Rattle.std.proofs.Common.{◌≡◌, ℕ, zero, suc, ◌+◌, ◌-◌, ◌<◌, ◌≤◌, ◌↔◌, ◌⊎◌, inl, inr, Bool, true, false, List, [], ◌∷◌, get_or, slice_get, length, take, drop, map, refl, ap, sym, subst, ◌∙◌, arith}
use Rattle.std.specs.Prelude.{All, AllPairs, Any, Contains, IsTrue, Option, Some, None, IfSome, IfNone, IsSome, IsNone, Result, Ok, Err, is_ok}
use Rattle.std.specs.Ordering.{is_lt, is_gt, ordering_index, ordering_reverse}
use Rattle.std.specs.BTreeMap.Range.{IsLtBy, IsLeBy}
use Rattle.std.specs.List.Sorted.{IsBinarySearchResult, IsNonDecreasingBy, IsPartitionPoint, IsSearchInRange}
use Rattle.std.specs.declared.cmp.Ordering.{Ordering}
use Rattle.std.specs.declared.cmp.Ordering.TheVariants.{Less, Equal, Greater}
use Rattle.std.proofs.lemmas.List.{drop_more, drop_all, take_rest, take-append-drop, length-drop, length-map, get_or_default}
use Rattle.std.proofs.lemmas.List.Elements.{All-nil, All-contains, All-drop, All-head, All-tail, All-map, All-weaker}
use Rattle.overlay_terms.specs.Plane.{same_place}
use Rattle.overlay_terms.proofs.Lists.{any_contains, contains_map, Contains-cons_cases}
use Rattle.overlay_terms.proofs.Tests.{less_told}
use Rattle.exact_point.specs.Place.{place, hpoint_cmp, hpoint_cmp_total}
use Rattle.exact_point.specs.declared.point.HPoint.{HPoint}
use Rattle.exact_point.specs.declared.point_name.PointName.{PointName}
use Rattle.crossing_sweep.specs.Rank.{IsOverWhole}
use Rattle.crossing_sweep.specs.RankedPlace.{ranked_cmp, ranked_entry, ranked_total}
use Rattle.crossing_sweep.specs.declared.ranked_place.RankedPlace.{RankedPlace}
use Rattle.arrange.proofs.FoundLemmas.{place_positive}
use Rattle.exact_point.proofs.PlaceOrder.{same_from_equal, same_turned}
use Rattle.crossing_sweep.specs.Ahead.{HasAdded, put_all, is_first_before, AreAhead}
use Rattle.overlay_terms.proofs.Pairs.{pairs_head, pairs_second}
use Rattle.crossing_sweep.proofs.PassLemmas.{all_of}
use Rattle.crossing_sweep.proofs.PutLemmas.{all_put, found_first, none_put, put_added, known_there}

-- ---- one of the three ways
greater_left : (o : Ordering) → (o ≡ Less → ⊥) → (o ≡ Equal → ⊥) → o ≡ Greater
greater_left Less f g = absurd (f refl)
greater_left Equal f g = absurd (g refl)
greater_left Greater f g = refl

not_less : (o : Ordering) → is_lt o ≡ false → o ≡ Less → ⊥
not_less Less e f = cc
not_less Equal e f = cc
not_less Greater e f = cc

not_greater : (o : Ordering) → is_gt o ≡ false → o ≡ Greater → ⊥
not_greater Less e f = cc
not_greater Equal e f = cc
not_greater Greater e f = cc

after_before : (p q : HPoint) → hpoint_cmp p q ≡ Greater → hpoint_cmp q p ≡ Less
after_before p q h = hpoint_cmp_total.antisymm q p ∙ ap ordering_reverse h

-- ---- what is known and not taken out
pub rest_ordered : (known : List RankedPlace) (k : ℕ) → AllPairs (λ a b. ranked_cmp a b ≡ Less) known → AllPairs (λ a b. ranked_cmp a b ≡ Less) (drop k known)
rest_ordered known k h = λ i j d l m. pairs_second (λ a b. ranked_cmp a b ≡ Less) (take k known) (drop k known) (rw (take-append-drop k known) h) i j d l m

pub rest_over_whole : (known : List RankedPlace) (k : ℕ) → All (λ z. IsOverWhole (place z.at)) known → All (λ z. IsOverWhole (place z.at)) (drop k known)
rest_over_whole known k h = All-drop (λ (z : RankedPlace). IsOverWhole (place z.at)) k known h

-- a slice of it is all of it
pub rest_whole : (known ds : List RankedPlace) (taken : ℕ) → ds ≡ known → take (length ds - taken) (drop taken ds) ≡ drop taken known
rest_whole known ds taken e = take_rest ds taken ∙ ap (λ (l : List RankedPlace). drop taken l) e

-- the next of them comes before all others
pub next_before : (k : RankedPlace) (ks : List RankedPlace) → AllPairs (λ a b. ranked_cmp a b ≡ Less) (k ∷ ks) → All (λ y. hpoint_cmp k.at y.0 ≡ Less) (map ranked_entry ks)
next_before k ks h = All-map (λ (y : HPoint × PointName). hpoint_cmp k.at y.0 ≡ Less) ranked_entry ks (pairs_head (λ (a b : RankedPlace). ranked_cmp a b ≡ Less) k ks h)

-- ---- the first of those found since
-- it comes before all others
pub set_before : (k : RankedPlace) (ks : List RankedPlace) → All (IsLtBy ranked_cmp k) ks → All (λ y. hpoint_cmp k.at y.0 ≡ Less) (map ranked_entry ks)
set_before k ks h = All-map (λ (y : HPoint × PointName). hpoint_cmp k.at y.0 ≡ Less) ranked_entry ks h

pub popped : (o : Option RankedPlace) (es rest known : List (HPoint × PointName)) → IfSome o (λ p. es ≡ ranked_entry p ∷ rest) → IfSome o (λ p. All (λ y. hpoint_cmp p.at y.0 ≡ Less) rest) → IfSome o (λ p. All (λ y. hpoint_cmp p.at y.0 ≡ Less) known)
    → IfSome o (λ p. put_all es known ≡ ranked_entry p ∷ put_all rest known)
popped None es rest known e h k = h
popped (Some p) es rest known e h k = ap (λ (l : List (HPoint × PointName)). put_all l known) e ∙ found_first (ranked_entry p) rest known h k

pub popped_least : (o : Option RankedPlace) (rest known : List (HPoint × PointName)) → IfSome o (λ p. All (λ y. hpoint_cmp p.at y.0 ≡ Less) rest) → IfSome o (λ p. All (λ y. hpoint_cmp p.at y.0 ≡ Less) known)
    → IfSome o (λ p. All (λ y. hpoint_cmp p.at y.0 ≡ Less) (put_all rest known))
popped_least None rest known h k = h
popped_least (Some p) rest known h k = all_put (λ (y : HPoint × PointName). hpoint_cmp p.at y.0 ≡ Less) rest known h k

-- it comes before the next of those known, so before all of these
pub first_before : (o : Option RankedPlace) (es rest : List (HPoint × PointName)) (k : RankedPlace) (ks : List RankedPlace) → IfSome o (λ p. es ≡ ranked_entry p ∷ rest) → is_first_before es k.at ≡ true → AllPairs (λ a b. ranked_cmp a b ≡ Less) (k ∷ ks)
    → IfSome o (λ p. All (λ y. hpoint_cmp p.at y.0 ≡ Less) (map ranked_entry (k ∷ ks)))
first_before None es rest k ks e t h = e
first_before (Some p) es rest k ks e t h =
    let P : List (HPoint × PointName) → Type 0 = λ l. is_first_before l k.at ≡ true in
    let first : hpoint_cmp p.at k.at ≡ Less = less_told (hpoint_cmp p.at k.at) (subst P e t) in
    all_of (λ (y : HPoint × PointName). hpoint_cmp p.at y.0 ≡ Less) (map ranked_entry (k ∷ ks)) (λ y c. by y first (Contains-cons_cases (ranked_entry k) (map ranked_entry ks) y c))
  where
    by : (y : HPoint × PointName) → hpoint_cmp p.at k.at ≡ Less → (ranked_entry k ≡ y) ⊎ Contains (map ranked_entry ks) y → hpoint_cmp p.at y.0 ≡ Less
    by y first (inl f) = let Q : HPoint × PointName → Type 0 = λ z. hpoint_cmp p.at z.0 ≡ Less in subst Q f first
    by y first (inr c) = hpoint_cmp_total.trans p.at k.at y.0 first (All-contains (λ (y : HPoint × PointName). hpoint_cmp k.at y.0 ≡ Less) (map ranked_entry ks) y (next_before k ks h) c)

pub differ : false ≡ true → ⊥
differ e = cc

-- there is none only where none is left
pub none_left : (o : Option (HPoint × PointName)) (es : List (HPoint × PointName)) → IsSome o ↔ (0 < length es) → IsNone o → es ≡ []
none_left None [] h n = refl
none_left None (e ∷ es) h n = absurd (differ (h.1 (omega arith)))
none_left (Some p) es h n = absurd (differ (sym n))

-- what holds of all found holds of those left
pub popped_keeps : (P : HPoint × PointName → Type 0) (o : Option RankedPlace) (es rest : List (HPoint × PointName)) → IfSome o (λ p. es ≡ ranked_entry p ∷ rest) → IfNone o (rest ≡ es) → All P es → All P rest
popped_keeps P None es rest e same h = subst (λ (l : List (HPoint × PointName)). All P l) (sym same) h
popped_keeps P (Some p) es rest e same h = All-tail P (ranked_entry p) rest (subst (λ (l : List (HPoint × PointName)). All P l) e h)

-- none is known where all are taken out
pub all_taken : (known : List RankedPlace) (taken : ℕ) → length known ≤ taken → map ranked_entry (drop taken known) ≡ []
all_taken known taken l = ap (map ranked_entry) (drop_all taken known l)

pub below_none : (o : Option RankedPlace) (known : List (HPoint × PointName)) → known ≡ [] → IfSome o (λ p. All (λ y. hpoint_cmp p.at y.0 ≡ Less) known)
below_none None known e = tt
below_none (Some p) known e = subst (λ (l : List (HPoint × PointName)). All (λ y. hpoint_cmp p.at y.0 ≡ Less) l) (sym e) (All-nil (λ (y : HPoint × PointName). hpoint_cmp p.at y.0 ≡ Less))

-- ---- whether there is any
pub none_if : (known : List RankedPlace) (taken : ℕ) (es v : List (HPoint × PointName)) (b : Bool) → length known ≤ taken → put_all es (map ranked_entry (drop taken known)) ≡ v → IsTrue b ↔ (length es ≡ 0) → IsTrue b ↔ (v ≡ [])
none_if known taken es v b l view h = (
  λ yes. sym view ∙ ap (λ (m : List (HPoint × PointName)). put_all es m) (all_taken known taken l) ∙ empty es (h.0 yes),
  λ no. h.1 (ap length (none_put es (map ranked_entry (drop taken known)) (view ∙ no)).0),
)
  where
    empty : (es : List (HPoint × PointName)) → length es ≡ 0 → put_all es [] ≡ []
    empty [] e = refl
    empty (x ∷ xs) e = absurd (omega (arith, e))

pub some_left : (known : List RankedPlace) (taken : ℕ) (es v : List (HPoint × PointName)) → taken < length known → put_all es (map ranked_entry (drop taken known)) ≡ v → v ≡ [] → ⊥
some_left known taken es v l view e =
    let none : map ranked_entry (drop taken known) ≡ [] = (none_put es (map ranked_entry (drop taken known)) (view ∙ e)).1 in
    absurd (omega (arith, l, ap length none, length-map (drop taken known) ranked_entry, length-drop taken known))

-- ---- the next of those known
-- it comes before the others
pub next_of : (known : List RankedPlace) (taken : ℕ) (k : RankedPlace) → taken < length known → k ≡ get_or known taken k → drop taken known ≡ k ∷ drop (taken + 1) known
next_of known taken k l e = drop_more known taken k l ∙ ap (λ (z : RankedPlace). z ∷ drop (taken + 1) known) (sym e)

-- where it is taken out
pub next_taken : (known : List RankedPlace) (taken : ℕ) (es : List (HPoint × PointName)) (k : RankedPlace) → taken < length known → drop taken known ≡ k ∷ drop (taken + 1) known → AreAhead known taken es → AreAhead known (taken + 1) es
next_taken known taken es k l e are = record {
  ordered = are.ordered;
  whole = are.whole;
  few = omega (arith, l);
  apart =
      all_of (λ (x : HPoint × PointName). All (λ z. hpoint_cmp z.at x.0 ≡ Equal → ⊥) (drop (taken + 1) known)) es
      (λ x c. All-tail (λ (z : RankedPlace). hpoint_cmp z.at x.0 ≡ Equal → ⊥) k (drop (taken + 1) known)
      (subst (λ (l : List RankedPlace). All (λ z. hpoint_cmp z.at x.0 ≡ Equal → ⊥) l) e
      (All-contains (λ (x : HPoint × PointName). All (λ z. hpoint_cmp z.at x.0 ≡ Equal → ⊥) (drop taken known)) es x are.apart c)));
}

-- it comes before all found since, which are apart from it
pub next_first : (es : List (HPoint × PointName)) (k : RankedPlace) (ks : List RankedPlace) → All (λ e. hpoint_cmp e.0 k.at ≡ Less → ⊥) es → All (λ e. All (λ z. hpoint_cmp z.at e.0 ≡ Equal → ⊥) (k ∷ ks)) es
    → All (λ e. hpoint_cmp e.0 k.at ≡ Greater) es
next_first es k ks h apart = all_of (λ (e : HPoint × PointName). hpoint_cmp e.0 k.at ≡ Greater) es (λ e c. one e (All-contains (λ (e : HPoint × PointName). hpoint_cmp e.0 k.at ≡ Less → ⊥) es e h c) (first e c))
  where
    first : (e : HPoint × PointName) → Contains es e → hpoint_cmp k.at e.0 ≡ Equal → ⊥
    first e c = All-head (λ (z : RankedPlace). hpoint_cmp z.at e.0 ≡ Equal → ⊥) k ks (All-contains (λ (e : HPoint × PointName). All (λ (z : RankedPlace). hpoint_cmp z.at e.0 ≡ Equal → ⊥) (k ∷ ks)) es e apart c)

    one : (e : HPoint × PointName) → (hpoint_cmp e.0 k.at ≡ Less → ⊥) → (hpoint_cmp k.at e.0 ≡ Equal → ⊥) → hpoint_cmp e.0 k.at ≡ Greater
    one e f g = greater_left (hpoint_cmp e.0 k.at) f (λ q. g (hpoint_cmp_total.antisymm k.at e.0 ∙ ap ordering_reverse q))

pub next_least : (es : List (HPoint × PointName)) (k : RankedPlace) (ks : List RankedPlace) → All (λ e. hpoint_cmp e.0 k.at ≡ Greater) es → AllPairs (λ a b. ranked_cmp a b ≡ Less) (k ∷ ks) → All (λ y. hpoint_cmp k.at y.0 ≡ Less) (put_all es (map ranked_entry ks))
next_least es k ks h up =
    all_put (λ (y : HPoint × PointName). hpoint_cmp k.at y.0 ≡ Less) es (map ranked_entry ks)
    (All-weaker (λ (e : HPoint × PointName). hpoint_cmp e.0 k.at ≡ Greater) (λ (y : HPoint × PointName). hpoint_cmp k.at y.0 ≡ Less) (λ e g. after_before e.0 k.at g) es h) (next_before k ks up)

-- whether the first found is before a place
pub first_told : (es : List RankedPlace) (e at : RankedPlace) → slice_get es 0 ≡ Some e → is_lt (ranked_cmp e at) ≡ is_first_before (map ranked_entry es) at.at
first_told es e at f = ap told (sym f) ∙ by es
  where
    told : Option RankedPlace → Bool
    told None = false
    told (Some z) = is_lt (ranked_cmp z at)

    by : (es : List RankedPlace) → told (slice_get es 0) ≡ is_first_before (map ranked_entry es) at.at
    by [] = refl
    by (z ∷ zs) = refl

-- the first found is not before a place, so no other is
pub none_before : (es : List RankedPlace) (e at : RankedPlace) → All (IsLeBy ranked_cmp e) es → is_lt (ranked_cmp e at) ≡ false → All (λ y. hpoint_cmp y.0 at.at ≡ Less → ⊥) (map ranked_entry es)
none_before es e at from h =
    All-map (λ (y : HPoint × PointName). hpoint_cmp y.0 at.at ≡ Less → ⊥) ranked_entry es
    (All-weaker (IsLeBy ranked_cmp e) (λ (y : RankedPlace). ranked_cmp y at ≡ Less → ⊥) (λ y g l. by y g l (ranked_cmp e y) refl) es from)
  where
    by : (y : RankedPlace) → is_gt (ranked_cmp e y) ≡ false → ranked_cmp y at ≡ Less → (o : Ordering) → ranked_cmp e y ≡ o → ⊥
    by y g l Less q = not_less (ranked_cmp e at) h (ranked_total.trans e y at q l)
    by y g l Equal q = not_less (ranked_cmp e at) h (ranked_total.congr e y at q ∙ l)
    by y g l Greater q = not_greater (ranked_cmp e y) g q

-- ---- a binary search
less_or_most : (k i : ℕ) → (k < i) ⊎ (i ≤ k)
less_or_most k zero = inr (omega arith)
less_or_most zero (suc i) = inl (omega arith)
less_or_most (suc k) (suc i) = by (less_or_most k i)
  where
    by : (k < i) ⊎ (i ≤ k) → (suc k < suc i) ⊎ (suc i ≤ suc k)
    by (inl h) = inl (omega (arith, h))
    by (inr h) = inr (omega (arith, h))

same_or_less : (i j : ℕ) → i ≤ j → (i ≡ j) ⊎ (i < j)
same_or_less i j le = by (less_or_most i j)
  where
    by : (i < j) ⊎ (j ≤ i) → (i ≡ j) ⊎ (i < j)
    by (inl h) = inr h
    by (inr h) = inl (omega (arith, h, le))

index_most : (a b : Ordering) → (b ≡ Less → a ≡ Less) → (b ≡ Equal → a ≡ Less) → ordering_index a ≤ ordering_index b
index_most Less b f g = omega arith
index_most a Greater f g = top a
  where
    top : (a : Ordering) → ordering_index a ≤ 2
    top Less = omega arith
    top Equal = omega arith
    top Greater = omega arith
index_most Equal Less f g = absurd (let e : Equal ≡ Less = f refl in cc)
index_most Equal Equal f g = absurd (let e : Equal ≡ Less = g refl in cc)
index_most Greater Less f g = absurd (let e : Greater ≡ Less = f refl in cc)
index_most Greater Equal f g = absurd (let e : Greater ≡ Less = g refl in cc)

rising : (x : RankedPlace) (known : List RankedPlace) → AllPairs (λ a b. ranked_cmp a b ≡ Less) known → IsNonDecreasingBy (λ y. ordering_index (ranked_cmp y x)) known
rising x known up i j d le lt = by (same_or_less i j le)
  where
    by : (i ≡ j) ⊎ (i < j) → ordering_index (ranked_cmp (get_or known i d) x) ≤ ordering_index (ranked_cmp (get_or known j d) x)
    by (inl e) = omega (arith, ap (λ k. ordering_index (ranked_cmp (get_or known k d) x)) e)
    by (inr l) =
        let a : RankedPlace = get_or known i d in
        let b : RankedPlace = get_or known j d in
        let before : ranked_cmp a b ≡ Less = up i j d l lt in
        index_most (ranked_cmp a x) (ranked_cmp b x) (λ f. ranked_total.trans a b x before f)
        (λ f. let turned : ranked_cmp x b ≡ Equal = ranked_total.antisymm x b ∙ ap ordering_reverse f in
        ranked_total.antisymm a x ∙ ap ordering_reverse (ranked_total.congr x b a turned ∙ ranked_total.antisymm b a ∙ ap ordering_reverse before))

-- what it says where it has found none
apart_at : (x : RankedPlace) (known : List RankedPlace) (k : ℕ) (d : RankedPlace) (o : Ordering) → ranked_cmp (get_or known k d) x ≡ o → (o ≡ Equal → ⊥) → ranked_cmp (get_or known k d) x ≡ Equal → ⊥
apart_at x known k d o e f g = f (sym e ∙ g)

less_equal : Less ≡ Equal → ⊥
less_equal e = cc

greater_equal : Greater ≡ Equal → ⊥
greater_equal e = cc

pub searched_apart : (x : RankedPlace) (known : List RankedPlace) (r : Result ℕ ℕ) → AllPairs (λ a b. ranked_cmp a b ≡ Less) known → IsBinarySearchResult (λ y. ranked_cmp y x) known r → is_ok r ≡ false → All (λ z. ranked_cmp z x ≡ Equal → ⊥) known
searched_apart x known (Ok i) up h f = absurd (cc)
searched_apart x known (Err i) up h f = λ k d l. by k d l (h (rising x known up)) (less_or_most k i)
  where
    by : (k : ℕ) (d : RankedPlace) → k < length known → IsPartitionPoint (λ y. ranked_cmp y x ≡ Less) (λ y. ranked_cmp y x ≡ Greater) known i → (k < i) ⊎ (i ≤ k) → ranked_cmp (get_or known k d) x ≡ Equal → ⊥
    by k d l parts (inl m) = apart_at x known k d Less (parts.0 k d (omega arith) m) less_equal
    by k d l parts (inr m) = apart_at x known k d Greater (parts.1 k d m l) greater_equal

-- and where it has found one
pub searched_among : (x : RankedPlace) (known : List RankedPlace) (r : Result ℕ ℕ) → IsSearchInRange r (length known) → IsBinarySearchResult (λ y. ranked_cmp y x) known r → is_ok r ≡ true → Any (λ z. ranked_cmp z x ≡ Equal) known
searched_among x known (Err i) within h f = absurd (cc)
searched_among x known (Ok i) within h f = (i, get_or known i x, within, get_or_default known i (get_or known i x) x within, h x)

-- ---- a place is added
module _ (items : List RankedPlace) (taken : ℕ) (es : List (HPoint × PointName)) (at : HPoint) (name : PointName) where
  abbrev known : List RankedPlace
  known = drop taken items

  -- that is known
  pub add_known : (v : List (HPoint × PointName)) → put_all es (map ranked_entry (drop taken items)) ≡ v → Any (λ z. hpoint_cmp z.at at ≡ Equal) (drop taken items) → HasAdded v at name v
  add_known v view a =
      let same : IsTrue (same_place (place at) (place a.1.at)) = same_turned (place a.1.at) (place at) (same_from_equal (place a.1.at) (place at) (place_positive a.1.at) (place_positive at) a.4) in
      let there : Contains known a.1 = any_contains (λ (z : RankedPlace). hpoint_cmp z.at at ≡ Equal) (drop taken items) a in
      subst (λ (l : List (HPoint × PointName)). HasAdded l at name l) view (known_there es (map ranked_entry known) at name (ranked_entry a.1) (contains_map ranked_entry known a.1 there) same)

  -- to those found
  pub add_new : (v new : List (HPoint × PointName)) → put_all es (map ranked_entry (drop taken items)) ≡ v → HasAdded es at name new → HasAdded v at name (put_all new (map ranked_entry (drop taken items)))
  add_new v new view h = subst (λ (l : List (HPoint × PointName)). HasAdded l at name (put_all new (map ranked_entry known))) view (put_added es new (map ranked_entry known) at name h)

  pub add_apart : (new : List (HPoint × PointName)) → AreAhead items taken es → All (λ z. hpoint_cmp z.at at ≡ Equal → ⊥) (drop taken items) → ((e : HPoint × PointName) → Contains new e → Contains es e ⊎ ((at, name) ≡ e)) → AreAhead items taken new
  add_apart new are h only = record {
    ordered = are.ordered;
    whole = are.whole;
    few = are.few;
    apart = all_of (λ (e : HPoint × PointName). All (λ z. hpoint_cmp z.at e.0 ≡ Equal → ⊥) (drop taken items)) new (λ e c. by e (only e c));
  }
    where
      by : (e : HPoint × PointName) → Contains es e ⊎ ((at, name) ≡ e) → All (λ z. hpoint_cmp z.at e.0 ≡ Equal → ⊥) (drop taken items)
      by e (inl c) = All-contains (λ (e : HPoint × PointName). All (λ z. hpoint_cmp z.at e.0 ≡ Equal → ⊥) (drop taken items)) es e are.apart c
      by e (inr f) = subst (λ (e : HPoint × PointName). All (λ z. hpoint_cmp z.at e.0 ≡ Equal → ⊥) (drop taken items)) f h
