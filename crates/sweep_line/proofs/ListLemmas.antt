-- Pairs and members of parts of lists and of their images.
use Rattle.std.proofs.Common.{◌≡◌, ℕ, ◌<◌, ◌≤◌, zero, suc, List, [], ◌∷◌, ◌++◌, length, map, take, drop, get_or, refl, sym, subst, ◌∙◌, inl, inr, ◌⊎◌, arith}
use Rattle.std.specs.Prelude.{All, Any, Contains}
use Rattle.std.specs.List.{AllPairs, AllWithin}
use Rattle.std.proofs.lemmas.List.{get_or-take, length-take-le}
use Rattle.std.proofs.lemmas.List.Elements.{All-append, All-cons, All-take, All-drop}
use Rattle.std.proofs.lemmas.List.Kept.{AllPairs-cons}
use Rattle.overlay_terms.proofs.Pairs.{pairs_head, pairs_rest}

module _ {X : Type 0} where
  -- pairs of the first elements
  pub pairs_take : (R : X → X → Type 0) (k : ℕ) (xs : List X) → k ≤ length xs → AllPairs R xs → AllPairs R (take k xs)
  pairs_take R k xs h pairs i j d l m =
      let long : length (take k xs) ≡ k = length-take-le k xs h in
      let j_in : j < k = omega (arith, m, long) in
      let i_in : i < k = omega (arith, l, j_in) in
      subst (λ z. R (get_or (take k xs) i d) z) (sym (get_or-take k xs j d j_in)) (subst (λ z. R z (get_or xs j d)) (sym (get_or-take k xs i d i_in)) (pairs i j d l (omega (arith, j_in, h))))

  -- all of the first elements, where all up to there
  pub all_first : (P : X → Type 0) (k : ℕ) (xs : List X) → k ≤ length xs → AllWithin P xs 0 k → All P (take k xs)
  all_first P k xs h within i d l =
      let long : length (take k xs) ≡ k = length-take-le k xs h in
      let i_in : i < k = omega (arith, l, long) in
      subst P (sym (get_or-take k xs i d i_in)) (within i d (omega arith) i_in)

  -- a member is among the first, where the rest has another property
  pub among_first : (P : X → Type 0) (k : ℕ) (xs : List X) → k ≤ length xs → AllWithin P xs k (length xs) → (x : X) → Contains xs x → (P x → ⊥) → Contains (take k xs) x
  among_first P k xs h within x (i, l, at) out = by (order_of i k)
    where
      order_of : (i k : ℕ) → (i < k) ⊎ (k ≤ i)
      order_of i zero = inr (omega arith)
      order_of zero (suc k) = inl (omega arith)
      order_of (suc i) (suc k) = up (order_of i k)
        where
          up : (i < k) ⊎ (k ≤ i) → (suc i < suc k) ⊎ (suc k ≤ suc i)
          up (inl m) = inl (omega (arith, m))
          up (inr m) = inr (omega (arith, m))

      by : (i < k) ⊎ (k ≤ i) → Contains (take k xs) x
      by (inl m) = (i, omega (arith, m, length-take-le k xs h), get_or-take k xs i x m ∙ at)
      by (inr m) = absurd (out (subst P at (within i x m l)))

  -- one more of the first elements
  pub all_insert : (P : X → Type 0) (k : ℕ) (x : X) (xs : List X) → P x → All P xs → All P (take k xs ++ x ∷ drop k xs)
  all_insert P k x xs h all = All-append P (take k xs) (x ∷ drop k xs) (All-take P k xs all) (All-cons P x (drop k xs) h (All-drop P k xs all))

  -- pairs with one element more: what is before it, and what is after
  pub pairs_insert : (R : X → X → Type 0) (k : ℕ) (x : X) (xs : List X) → AllPairs R xs → AllWithin (λ a. R a x) xs 0 k → AllWithin (λ b. R x b) xs k (length xs) → AllPairs R (take k xs ++ x ∷ drop k xs)
  pairs_insert R zero x xs pairs before behind = AllPairs-cons R x xs (λ j d l. behind j d (omega arith) l) pairs
  pairs_insert R (suc k) x [] pairs before behind = AllPairs-cons R x [] (λ j d l. absurd (omega (arith, l))) pairs
  pairs_insert R (suc k) x (y ∷ ys) pairs before behind =
      AllPairs-cons R y (take k ys ++ x ∷ drop k ys)
      (all_insert (R y) k x ys (before 0 y (omega arith) (omega arith)) (pairs_head R y ys pairs))
      (pairs_insert R k x ys (pairs_rest R y ys pairs) (λ j d l m. before (suc j) d (omega arith) (omega (arith, m))) (λ j d l m. behind (suc j) d (omega (arith, l)) (omega (arith, m))))

  -- an element with a property stays when one is put in
  pub any_insert : (P : X → Type 0) (k : ℕ) (x : X) (xs : List X) → Any P xs → Any P (take k xs ++ x ∷ drop k xs)
  any_insert P zero x xs (i, y, l, at, h) = (suc i, y, omega (arith, l), at, h)
  any_insert P (suc k) x [] (i, y, l, at, h) = absurd (omega (arith, l))
  any_insert P (suc k) x (z ∷ zs) (zero, y, l, at, h) = (0, y, omega arith, at, h)
  any_insert P (suc k) x (z ∷ zs) (suc i, y, l, at, h) = next (any_insert P k x zs (i, y, omega (arith, l), at, h))
    where
      next : Any P (take k zs ++ x ∷ drop k zs) → Any P (z ∷ (take k zs ++ x ∷ drop k zs))
      next (j, v, m, there, e) = (suc j, v, omega (arith, m), there, e)

  -- and the new one is there
  pub inserted : (k : ℕ) (x : X) (xs : List X) → Contains (take k xs ++ x ∷ drop k xs) x
  inserted zero x xs = (0, omega arith, refl)
  inserted (suc k) x [] = (0, omega arith, refl)
  inserted (suc k) x (z ∷ zs) = next (inserted k x zs)
    where
      next : Contains (take k zs ++ x ∷ drop k zs) x → Contains (z ∷ (take k zs ++ x ∷ drop k zs)) x
      next (j, m, there) = (suc j, omega (arith, m), there)

-- the image of what is at a place
pub image_at : {X Y : Type 0} (f : X → Y) (xs : List X) (k : ℕ) (e : Y) → k < length xs → (x : X) × (get_or xs k x ≡ x) × (get_or (map f xs) k e ≡ f x)
image_at f [] k e l = absurd (omega (arith, l))
image_at f (x ∷ xs) zero e l = (x, refl, refl)
image_at {X} {Y} f (x ∷ xs) (suc k) e l = image_at f xs k e (omega (arith, l))
