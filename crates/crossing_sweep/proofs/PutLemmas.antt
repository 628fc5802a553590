-- Places found since a pass began, put among those that were known at first.
use Rattle.std.proofs.Common.{◌≡◌, ◌⊎◌, inl, inr, List, [], ◌∷◌, refl, ap, subst, ◌∙◌}
use Rattle.std.specs.Prelude.{All, Contains, IsTrue}
use Rattle.std.specs.Ordering.{match_ordering}
use Rattle.std.specs.declared.cmp.Ordering.{Ordering}
use Rattle.std.specs.declared.cmp.Ordering.TheVariants.{Less, Equal, Greater}
use Rattle.std.proofs.lemmas.List.Elements.{All-contains, All-head, All-tail}
use Rattle.overlay_terms.specs.Plane.{same_place}
use Rattle.overlay_terms.proofs.Lists.{any_from, any_contains, Contains-cons_cases, contains_first, contains_rest, none_in_empty}
use Rattle.exact_point.specs.Place.{place, hpoint_cmp}
use Rattle.exact_point.specs.declared.point.HPoint.{HPoint}
use Rattle.exact_point.specs.declared.point_name.PointName.{PointName}
use Rattle.crossing_sweep.specs.Ahead.{HasAdded, put_place, put_all}
use Rattle.crossing_sweep.proofs.PassLemmas.{all_of}

-- ---- what is there
has_by : (e x y : HPoint × PointName) (ys : List (HPoint × PointName)) (o : Ordering) → (Contains ys x → Contains (put_place e ys) x) → Contains (y ∷ ys) x → Contains (match_ordering o (e ∷ y ∷ ys) (e ∷ y ∷ ys) (y ∷ put_place e ys)) x
has_by e x y ys Less more c = contains_rest e (y ∷ ys) x c
has_by e x y ys Equal more c = contains_rest e (y ∷ ys) x c
has_by e x y ys Greater more c = by (Contains-cons_cases y ys x c)
  where
    by : (y ≡ x) ⊎ Contains ys x → Contains (y ∷ put_place e ys) x
    by (inl f) = subst (λ z. Contains (y ∷ put_place e ys) z) f (contains_first y (put_place e ys))
    by (inr h) = contains_rest y (put_place e ys) x (more h)

put_has : (e x : HPoint × PointName) (ys : List (HPoint × PointName)) → Contains ys x → Contains (put_place e ys) x
put_has e x [] c = absurd (none_in_empty x c)
put_has e x (y ∷ ys) c = has_by e x y ys (hpoint_cmp e.0 y.0) (put_has e x ys) c

there_by : (e y : HPoint × PointName) (ys : List (HPoint × PointName)) (o : Ordering) → Contains (put_place e ys) e → Contains (match_ordering o (e ∷ y ∷ ys) (e ∷ y ∷ ys) (y ∷ put_place e ys)) e
there_by e y ys Less more = contains_first e (y ∷ ys)
there_by e y ys Equal more = contains_first e (y ∷ ys)
there_by e y ys Greater more = contains_rest y (put_place e ys) e more

put_there : (e : HPoint × PointName) (ys : List (HPoint × PointName)) → Contains (put_place e ys) e
put_there e [] = contains_first e []
put_there e (y ∷ ys) = there_by e y ys (hpoint_cmp e.0 y.0) (put_there e ys)

only_by : (e x y : HPoint × PointName) (ys : List (HPoint × PointName)) (o : Ordering) → (Contains (put_place e ys) x → (e ≡ x) ⊎ Contains ys x) → Contains (match_ordering o (e ∷ y ∷ ys) (e ∷ y ∷ ys) (y ∷ put_place e ys)) x → (e ≡ x) ⊎ Contains (y ∷ ys) x
only_by e x y ys Less more c = Contains-cons_cases e (y ∷ ys) x c
only_by e x y ys Equal more c = Contains-cons_cases e (y ∷ ys) x c
only_by e x y ys Greater more c = by (Contains-cons_cases y (put_place e ys) x c)
  where
    later : (e ≡ x) ⊎ Contains ys x → (e ≡ x) ⊎ Contains (y ∷ ys) x
    later (inl f) = inl f
    later (inr h) = inr (contains_rest y ys x h)

    by : (y ≡ x) ⊎ Contains (put_place e ys) x → (e ≡ x) ⊎ Contains (y ∷ ys) x
    by (inl f) = inr (subst (λ z. Contains (y ∷ ys) z) f (contains_first y ys))
    by (inr h) = later (more h)

put_only : (e x : HPoint × PointName) (ys : List (HPoint × PointName)) → Contains (put_place e ys) x → (e ≡ x) ⊎ Contains ys x
put_only e x [] c = Contains-cons_cases e [] x c
put_only e x (y ∷ ys) c = only_by e x y ys (hpoint_cmp e.0 y.0) (put_only e x ys) c

all_known : (es known : List (HPoint × PointName)) (x : HPoint × PointName) → Contains known x → Contains (put_all es known) x
all_known [] known x c = c
all_known (e ∷ es) known x c = put_has e x (put_all es known) (all_known es known x c)

all_found : (es known : List (HPoint × PointName)) (x : HPoint × PointName) → Contains es x → Contains (put_all es known) x
all_found [] known x c = absurd (none_in_empty x c)
all_found (e ∷ es) known x c = by (all_found es known x) (Contains-cons_cases e es x c)
  where
    by : (Contains es x → Contains (put_all es known) x) → (e ≡ x) ⊎ Contains es x → Contains (put_place e (put_all es known)) x
    by more (inl f) = subst (λ z. Contains (put_place e (put_all es known)) z) f (put_there e (put_all es known))
    by more (inr h) = put_has e x (put_all es known) (more h)

all_only : (es known : List (HPoint × PointName)) (x : HPoint × PointName) → Contains (put_all es known) x → Contains es x ⊎ Contains known x
all_only [] known x c = inr c
all_only (e ∷ es) known x c = by (all_only es known x) (put_only e x (put_all es known) c)
  where
    later : Contains es x ⊎ Contains known x → Contains (e ∷ es) x ⊎ Contains known x
    later (inl h) = inl (contains_rest e es x h)
    later (inr h) = inr h

    by : (Contains (put_all es known) x → Contains es x ⊎ Contains known x) → (e ≡ x) ⊎ Contains (put_all es known) x → Contains (e ∷ es) x ⊎ Contains known x
    by more (inl f) = inl (subst (λ z. Contains (e ∷ es) z) f (contains_first e es))
    by more (inr h) = later (more h)

-- what holds of both holds of all
pub all_put : (P : HPoint × PointName → Type 0) (es known : List (HPoint × PointName)) → All P es → All P known → All P (put_all es known)
all_put P es known h k = all_of P (put_all es known) (λ x c. by x (all_only es known x c))
  where
    by : (x : HPoint × PointName) → Contains es x ⊎ Contains known x → P x
    by x (inl c) = All-contains P es x h c
    by x (inr c) = All-contains P known x k c

-- ---- in order
-- what comes before all others is put first
put_first : (e : HPoint × PointName) (ys : List (HPoint × PointName)) → All (λ y. hpoint_cmp e.0 y.0 ≡ Less) ys → put_place e ys ≡ e ∷ ys
put_first e [] h = refl
put_first e (y ∷ ys) h = ap (λ o. match_ordering o (e ∷ y ∷ ys) (e ∷ y ∷ ys) (y ∷ put_place e ys)) (All-head (λ (y : HPoint × PointName). hpoint_cmp e.0 y.0 ≡ Less) y ys h)

pub found_first : (e : HPoint × PointName) (es known : List (HPoint × PointName)) → All (λ y. hpoint_cmp e.0 y.0 ≡ Less) es → All (λ y. hpoint_cmp e.0 y.0 ≡ Less) known → put_all (e ∷ es) known ≡ e ∷ put_all es known
found_first e es known h k = put_first e (put_all es known) (all_put (λ y. hpoint_cmp e.0 y.0 ≡ Less) es known h k)

-- a known place that comes before all that were found stays the first
pub known_first : (es known : List (HPoint × PointName)) (k : HPoint × PointName) → All (λ e. hpoint_cmp e.0 k.0 ≡ Greater) es → put_all es (k ∷ known) ≡ k ∷ put_all es known
known_first [] known k h = refl
known_first (e ∷ es) known k h =
    let L : List (HPoint × PointName) = put_all es known in
    ap (λ (l : List (HPoint × PointName)). put_place e l) (known_first es known k (All-tail (λ (e : HPoint × PointName). hpoint_cmp e.0 k.0 ≡ Greater) e es h))
    ∙ ap (λ o. match_ordering o (e ∷ k ∷ L) (e ∷ k ∷ L) (k ∷ put_place e L)) (All-head (λ (e : HPoint × PointName). hpoint_cmp e.0 k.0 ≡ Greater) e es h)

-- ---- none
some_by : (e y : HPoint × PointName) (ys : List (HPoint × PointName)) (o : Ordering) → match_ordering o (e ∷ y ∷ ys) (e ∷ y ∷ ys) (y ∷ put_place e ys) ≡ [] → ⊥
some_by e y ys Less f = cc
some_by e y ys Equal f = cc
some_by e y ys Greater f = cc

some_put : (e : HPoint × PointName) (ys : List (HPoint × PointName)) → put_place e ys ≡ [] → ⊥
some_put e [] f = cc
some_put e (y ∷ ys) f = some_by e y ys (hpoint_cmp e.0 y.0) f

-- there is no place only where none is left of either
pub none_put : (es known : List (HPoint × PointName)) → put_all es known ≡ [] → (es ≡ []) × (known ≡ [])
none_put [] known f = (refl, f)
none_put (e ∷ es) known f = absurd (some_put e (put_all es known) f)

-- ---- a place is added
-- among those found
pub put_added : (es new known : List (HPoint × PointName)) (at : HPoint) (name : PointName) → HasAdded es at name new → HasAdded (put_all es known) at name (put_all new known)
put_added es new known at name added = record {
  kept = λ e c. kept e (all_only es known e c);
  there =
      let a = added.there in
      any_from (λ (e : HPoint × PointName). IsTrue (same_place (place at) (place e.0))) (put_all new known) a.1 (all_found new known a.1 (any_contains (λ (e : HPoint × PointName). IsTrue (same_place (place at) (place e.0))) new a)) a.4;
  only = λ e c. only e (all_only new known e c);
}
  where
    kept : (e : HPoint × PointName) → Contains es e ⊎ Contains known e → Contains (put_all new known) e
    kept e (inl c) = all_found new known e (added.kept e c)
    kept e (inr c) = all_known new known e c

    among : (e : HPoint × PointName) → Contains es e ⊎ ((at, name) ≡ e) → Contains (put_all es known) e ⊎ ((at, name) ≡ e)
    among e (inl c) = inl (all_found es known e c)
    among e (inr f) = inr f

    only : (e : HPoint × PointName) → Contains new e ⊎ Contains known e → Contains (put_all es known) e ⊎ ((at, name) ≡ e)
    only e (inl c) = among e (added.only e c)
    only e (inr c) = inl (all_known es known e c)

-- or it is known
pub known_there : (es known : List (HPoint × PointName)) (at : HPoint) (name : PointName) (k : HPoint × PointName) → Contains known k → IsTrue (same_place (place at) (place k.0)) → HasAdded (put_all es known) at name (put_all es known)
known_there es known at name k c same = record {
  kept = λ e c. c;
  there = any_from (λ (e : HPoint × PointName). IsTrue (same_place (place at) (place e.0))) (put_all es known) k (all_known es known k c) same;
  only = λ e c. inl c;
}
