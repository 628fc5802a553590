-- Ordered lists with the same elements, up to a test, are the same pair by pair.
use Rattle.std.specs.Prelude.{◌≡◌, ℕ, zero, suc, ◌<◌, Bool, true, ◌⊎◌, IsTrue, List, [], ◌∷◌, length, All, Any, AllPairs}
use Rattle.std.specs.Cmp.Lexicographic.{pointwise}
use Rattle.std.proofs.Common.{inl, inr, refl, sym, subst, arith, get_or}
use Rattle.std.proofs.lemmas.Bool.{and_parts, and_from, false≢true}
use Rattle.std.proofs.lemmas.List.Elements.{All-head, All-tail, All-contains}
use Rattle.overlay_terms.proofs.Pairs.{pairs_head, pairs_rest}

-- each element of the first list has one like it in the second
abbrev pub Covers : {X : Type 0} → (X → X → Bool) → List X → List X → Type 0
Covers same xs ys = All (λ x. Any (λ y. IsTrue (same x y)) ys) xs

-- a test of sameness and an order that agree on the elements with a property
pub record Ranks {X : Type 0} (P : X → Type 0) (same : X → X → Bool) (less : X → X → Type 0) : Type 0 where
  pub turned : (x y : X) → P x → P y → IsTrue (same x y) → IsTrue (same y x)
  pub same_through : (x y z : X) → P x → P y → P z → IsTrue (same x y) → IsTrue (same y z) → IsTrue (same x z)
  pub apart : (x y : X) → P x → P y → IsTrue (same x y) → less x y → ⊥
  pub through : (x y z : X) → P x → P y → P z → less x y → less y z → less x z
  pub alike_left : (x y z : X) → P x → P y → P z → IsTrue (same x y) → less x z → less y z
  pub alike_right : (x y z : X) → P x → P y → P z → IsTrue (same x y) → less z x → less z y

module _ {X : Type 0} where
  -- some element is the first, or is in the rest
  pub any_cases : (Q : X → Type 0) (x : X) (xs : List X) → Any Q (x ∷ xs) → Q x ⊎ Any Q xs
  any_cases Q x xs (zero, y, l, e, h) = inl (subst Q (sym e) h)
  any_cases Q x xs (suc k, y, l, e, h) = inr (k, y, omega (arith, l), e, h)

  -- an empty list has no element
  pub none_of_any : (Q : X → Type 0) → Any Q [] → ⊥
  none_of_any Q a = omega (arith, a.2)

  -- what is at one number of two lists that are the same pair by pair
  pub alike_at : (same : X → X → Bool) (xs ys : List X) → pointwise same xs ys ≡ true → (i : ℕ) (d e : X) → i < length xs → IsTrue (same (get_or xs i d) (get_or ys i e))
  alike_at same [] ys h i d e l = absurd (omega (arith, l))
  alike_at same (x ∷ xs) [] h i d e l = absurd (false≢true h)
  alike_at same (x ∷ xs) (y ∷ ys) h zero d e l = (and_parts (same x y) (pointwise same xs ys) h).0
  alike_at same (x ∷ xs) (y ∷ ys) h (suc i) d e l =
      alike_at same xs ys (and_parts (same x y) (pointwise same xs ys) h).1 i d e (omega (arith, l))

module _ {X : Type 0} (P : X → Type 0) (same : X → X → Bool) (less : X → X → Type 0) (ranks : Ranks P same less) where
  -- an element after one is not like what that one is like
  not_first : (x y z : X) → P x → P y → P z → IsTrue (same x y) → less x z → IsTrue (same z y) → ⊥
  not_first x y z hx hy hz e l f = ranks.apart x z hx hz (ranks.same_through x y z hx hy hz e (ranks.turned z y hz hy f)) l

  -- where both first elements are alike, the rest covers the rest
  pub rest_covered : (x y : X) (xs ys : List X) → P x → P y → All P xs → IsTrue (same x y) → All (less x) xs → Covers same xs (y ∷ ys) → Covers same xs ys
  rest_covered x y xs ys hx hy all e above covers i d l =
      by (any_cases (λ z. IsTrue (same (get_or xs i d) z)) y ys (covers i d l)) where
        by : IsTrue (same (get_or xs i d) y) ⊎ Any (λ z. IsTrue (same (get_or xs i d) z)) ys → Any (λ z. IsTrue (same (get_or xs i d) z)) ys
        by (inl f) = absurd (not_first x y (get_or xs i d) hx hy (all i d l) e (above i d l) f)
        by (inr a) = a

  -- two elements are not each like one after the other
  pub not_crossed : (x y u v : X) → P x → P y → P u → P v → less x u → less y v → IsTrue (same x v) → IsTrue (same y u) → ⊥
  not_crossed x y u v hx hy hu hv a b e f =
      let back : less y x = ranks.alike_right v x y hv hx hy (ranks.turned x v hx hv e) b in
      let forth : less x y = ranks.alike_right u y x hu hy hx (ranks.turned y u hy hu f) a in
      ranks.apart x x hx hx (ranks.same_through x v x hx hv hx e (ranks.turned x v hx hv e)) (ranks.through x y x hx hy hx forth back)

  -- the first elements of two lists that cover each other are alike
  firsts_alike : (x y : X) (xs ys : List X) → P x → P y → All P xs → All P ys → All (less x) xs → All (less y) ys → Any (λ z. IsTrue (same x z)) (y ∷ ys) → Any (λ z. IsTrue (same y z)) (x ∷ xs) → IsTrue (same x y)
  firsts_alike x y xs ys hx hy all_x all_y above_x above_y forth back =
      by (any_cases (λ z. IsTrue (same x z)) y ys forth) (any_cases (λ z. IsTrue (same y z)) x xs back) where
        by : IsTrue (same x y) ⊎ Any (λ z. IsTrue (same x z)) ys → IsTrue (same y x) ⊎ Any (λ z. IsTrue (same y z)) xs → IsTrue (same x y)
        by (inl e) b = e
        by (inr a) (inl e) = ranks.turned y x hy hx e
        by (inr (j, v, l, at, e)) (inr (i, u, k, there, f)) =
            absurd (not_crossed x y u v hx hy (All-contains P xs u all_x (i, k, there)) (All-contains P ys v all_y (j, l, at)) (All-contains (less x) xs u above_x (i, k, there)) (All-contains (less y) ys v above_y (j, l, at)) e f)

  -- ordered lists that cover each other are the same pair by pair
  pub alike_from_covers : (xs ys : List X) → All P xs → All P ys → AllPairs less xs → AllPairs less ys → Covers same xs ys → Covers same ys xs → pointwise same xs ys ≡ true
  alike_from_covers [] [] all_x all_y order_x order_y forth back = refl
  alike_from_covers [] (y ∷ ys) all_x all_y order_x order_y forth back =
      absurd (none_of_any (λ z. IsTrue (same y z)) (back 0 y (omega arith)))
  alike_from_covers (x ∷ xs) [] all_x all_y order_x order_y forth back =
      absurd (none_of_any (λ z. IsTrue (same x z)) (forth 0 x (omega arith)))
  alike_from_covers (x ∷ xs) (y ∷ ys) all_x all_y order_x order_y forth back =
      let hx : P x = All-head P x xs all_x in
      let hy : P y = All-head P y ys all_y in
      let rest_x : All P xs = All-tail P x xs all_x in
      let rest_y : All P ys = All-tail P y ys all_y in
      let above_x : All (less x) xs = pairs_head less x xs order_x in
      let above_y : All (less y) ys = pairs_head less y ys order_y in
      let e : IsTrue (same x y) = firsts_alike x y xs ys hx hy rest_x rest_y above_x above_y (forth 0 x (omega arith)) (back 0 y (omega arith)) in
      and_from (same x y) (pointwise same xs ys) e
      (alike_from_covers xs ys rest_x rest_y (pairs_rest less x xs order_x) (pairs_rest less y ys order_y)
      (rest_covered x y xs ys hx hy rest_x e above_x (All-tail (λ z. Any (λ t. IsTrue (same z t)) (y ∷ ys)) x xs forth))
      (rest_covered y x ys xs hy hx rest_y (ranks.turned x y hx hy e) above_y (All-tail (λ z. Any (λ t. IsTrue (same z t)) (x ∷ xs)) y ys back)))
