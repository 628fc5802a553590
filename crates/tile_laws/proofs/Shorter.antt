-- An ordered list whose elements are all like some of another is no longer.
use Rattle.std.specs.Prelude.{zero, suc, ◌≤◌, Bool, ◌⊎◌, IsTrue, List, [], ◌∷◌, length, All, Any, AllPairs, get_or}
use Rattle.std.proofs.Common.{inl, inr, arith}
use Rattle.std.proofs.lemmas.List.Elements.{All-head, All-tail, All-contains}
use Rattle.tile_laws.proofs.AlikeLists.{Covers, Ranks, any_cases, none_of_any, rest_covered, not_crossed}
use Rattle.overlay_terms.proofs.Pairs.{pairs_head, pairs_rest}

module _ {X : Type 0} (P : X → Type 0) (same : X → X → Bool) (less : X → X → Type 0) (ranks : Ranks P same less) where
  -- where the first element is like one after the first of the other list, so are all
  covered_behind : (x y v : X) (xs ys : List X) → P x → P y → All P xs → P v → All (less x) xs → less y v → IsTrue (same x v) → Any (λ z. IsTrue (same x z)) ys → Covers same (x ∷ xs) (y ∷ ys) → Covers same (x ∷ xs) ys
  covered_behind x y v xs ys hx hy all hv above far e here covers i d l = by_place i d l
    where
      rest : (z : X) → P z → less x z → Any (λ t. IsTrue (same z t)) (y ∷ ys) → Any (λ t. IsTrue (same z t)) ys
      rest z hz less_z a = by (any_cases (λ t. IsTrue (same z t)) y ys a) where
        by : IsTrue (same z y) ⊎ Any (λ t. IsTrue (same z t)) ys → Any (λ t. IsTrue (same z t)) ys
        by (inl f) = absurd (not_crossed P same less ranks x y z v hx hy hz hv less_z far e (ranks.turned z y hz hy f))
        by (inr b) = b

      by_place : All (λ z. Any (λ t. IsTrue (same z t)) ys) (x ∷ xs)
      by_place zero d l = here
      by_place (suc j) d l = rest (get_or xs j d) (all j d (omega (arith, l))) (above j d (omega (arith, l))) (covers (suc j) d l)

  -- what is asked of the two lists
  pub record AreCovered (xs ys : List X) : Type 0 where
    pub first : All P xs
    pub second : All P ys
    pub ordered : AllPairs less xs
    pub there : AllPairs less ys
    pub covers : Covers same xs ys

  -- one more in the second list
  one_more : (y : X) (ys : List X) → ((xs : List X) → AreCovered xs ys → length xs ≤ length ys) → (xs : List X) → AreCovered xs (y ∷ ys) → length xs ≤ length (y ∷ ys)
  one_more y ys shorter [] are = omega arith
  one_more y ys shorter (x ∷ xs) are = by (any_cases (λ z. IsTrue (same x z)) y ys (are.covers 0 x (omega arith))) where
    hx : P x
    hx = All-head P x xs are.first

    hy : P y
    hy = All-head P y ys are.second

    rest_x : All P xs
    rest_x = All-tail P x xs are.first

    rest_y : All P ys
    rest_y = All-tail P y ys are.second

    above : All (less x) xs
    above = pairs_head less x xs are.ordered

    by : IsTrue (same x y) ⊎ Any (λ z. IsTrue (same x z)) ys → length (x ∷ xs) ≤ length (y ∷ ys)
    by (inl e) =
        let fewer : length xs ≤ length ys =
        shorter xs (record {
          first = rest_x;
          second = rest_y;
          ordered = pairs_rest less x xs are.ordered;
          there = pairs_rest less y ys are.there;
          covers = rest_covered P same less ranks x y xs ys hx hy rest_x e above (All-tail (λ z. Any (λ t. IsTrue (same z t)) (y ∷ ys)) x xs are.covers);
        }) in
        omega (arith, fewer)
    by (inr (j, v, l, at, e)) =
        let hv : P v = All-contains P ys v rest_y (j, l, at) in
        let far : less y v = All-contains (less y) ys v (pairs_head less y ys are.there) (j, l, at) in
        let fewer : length (x ∷ xs) ≤ length ys =
        shorter (x ∷ xs) (record {
          first = are.first;
          second = rest_y;
          ordered = are.ordered;
          there = pairs_rest less y ys are.there;
          covers = covered_behind x y v xs ys hx hy rest_x hv above far e (j, v, l, at, e) are.covers;
        }) in
        omega (arith, fewer)

  -- what is covered by an ordered list is no longer
  pub no_longer : (ys xs : List X) → AreCovered xs ys → length xs ≤ length ys
  no_longer [] [] are = omega arith
  no_longer [] (x ∷ xs) are = absurd (none_of_any (λ z. IsTrue (same x z)) (are.covers 0 x (omega arith)))
  no_longer (y ∷ ys) xs are = one_more y ys (no_longer ys) xs are
