-- Counts over a list, by tests that agree, that are apart, or that pass once.
use Rattle.std.specs.Prelude.{◌≡◌, ℕ, zero, suc, ◌+◌, ◌<◌, ◌≤◌, Bool, true, false, ◌||◌, List, [], ◌∷◌, length, get_or, count_by, All, Contains, AllPairs}
use Rattle.std.specs.List.{list_any}
use Rattle.std.proofs.Common.{refl, ap, sym, ◌∙◌, arith}
use Rattle.std.proofs.lemmas.Bool.{false≢true}
use Rattle.std.proofs.lemmas.List.Elements.{All-head, All-tail}
use Rattle.overlay_terms.proofs.ClosedRings.{bit, count-cons}

-- what follows counts as much
bit_most : (b c : Bool) → (b ≡ true → c ≡ true) → bit b ≤ bit c
bit_most true c h = rw (h refl) (omega arith)
bit_most false c h = omega arith

module _ {X : Type 0} (f g : X → Bool) where
  -- tests that agree count alike
  pub count_alike : (xs : List X) → All (λ x. f x ≡ g x) xs → count_by f xs ≡ count_by g xs
  count_alike [] all = refl
  count_alike (x ∷ xs) all =
      count-cons f x xs ∙ ap (λ b. bit b + count_by f xs) (All-head (λ y. f y ≡ g y) x xs all) ∙ ap (λ n. bit (g x) + n) (count_alike xs (All-tail (λ y. f y ≡ g y) x xs all)) ∙ sym (count-cons g x xs)

  -- what passes the one passes the other
  abbrev pub Follows : List X → Type 0
  Follows xs = All (λ x. f x ≡ true → g x ≡ true) xs

  -- a test that follows counts as much
  pub count_most : (xs : List X) → Follows xs → count_by f xs ≤ count_by g xs
  count_most [] all = omega arith
  count_most (x ∷ xs) all =
      let here : bit (f x) ≤ bit (g x) = bit_most (f x) (g x) (All-head (λ y. f y ≡ true → g y ≡ true) x xs all) in
      let rest : count_by f xs ≤ count_by g xs = count_most xs (All-tail (λ y. f y ≡ true → g y ≡ true) x xs all) in
      let one : count_by f (x ∷ xs) ≡ bit (f x) + count_by f xs = count-cons f x xs in
      let two : count_by g (x ∷ xs) ≡ bit (g x) + count_by g xs = count-cons g x xs in
      omega arith

  -- and more, where one element passes that alone
  less_at : (xs : List X) (k : ℕ) (y : X) → k < length xs → get_or xs k y ≡ y → Follows xs → f y ≡ false → g y ≡ true → count_by f xs < count_by g xs
  less_at [] k y l e all out inside = absurd (omega (arith, l))
  less_at (x ∷ xs) zero y l e all out inside =
      let here : bit (f x) ≡ 0 = ap bit (ap f e ∙ out) in
      let there : bit (g x) ≡ 1 = ap bit (ap g e ∙ inside) in
      let rest : count_by f xs ≤ count_by g xs = count_most xs (All-tail (λ z. f z ≡ true → g z ≡ true) x xs all) in
      let one : count_by f (x ∷ xs) ≡ bit (f x) + count_by f xs = count-cons f x xs in
      let two : count_by g (x ∷ xs) ≡ bit (g x) + count_by g xs = count-cons g x xs in
      omega arith
  less_at (x ∷ xs) (suc k) y l e all out inside =
      let here : bit (f x) ≤ bit (g x) = bit_most (f x) (g x) (All-head (λ z. f z ≡ true → g z ≡ true) x xs all) in
      let rest : count_by f xs < count_by g xs = less_at xs k y (omega (arith, l)) e (All-tail (λ z. f z ≡ true → g z ≡ true) x xs all) out inside in
      let one : count_by f (x ∷ xs) ≡ bit (f x) + count_by f xs = count-cons f x xs in
      let two : count_by g (x ∷ xs) ≡ bit (g x) + count_by g xs = count-cons g x xs in
      omega arith

  pub count_less : (xs : List X) (y : X) → Contains xs y → Follows xs → f y ≡ false → g y ≡ true → count_by f xs < count_by g xs
  count_less xs y among = less_at xs among.0 y among.1 among.2

-- a test that is one of two others counts as both
pub count_both : {X : Type 0} (f g h : X → Bool) (xs : List X) → ((x : X) → bit (f x) ≡ bit (g x) + bit (h x)) → count_by f xs ≡ count_by g xs + count_by h xs
count_both f g h [] both = refl
count_both f g h (x ∷ xs) both =
    let here : bit (f x) ≡ bit (g x) + bit (h x) = both x in
    let rest : count_by f xs ≡ count_by g xs + count_by h xs = count_both f g h xs both in
    let one : count_by f (x ∷ xs) ≡ bit (f x) + count_by f xs = count-cons f x xs in
    let two : count_by g (x ∷ xs) ≡ bit (g x) + count_by g xs = count-cons g x xs in
    let three : count_by h (x ∷ xs) ≡ bit (h x) + count_by h xs = count-cons h x xs in
    omega arith

module _ {X : Type 0} (f : X → Bool) where
  -- where none passes
  pub count_none : (xs : List X) → All (λ x. f x ≡ false) xs → count_by f xs ≡ 0
  count_none [] all = refl
  count_none (x ∷ xs) all =
      let here : bit (f x) ≡ 0 = ap bit (All-head (λ y. f y ≡ false) x xs all) in
      let rest : count_by f xs ≡ 0 = count_none xs (All-tail (λ y. f y ≡ false) x xs all) in
      let one : count_by f (x ∷ xs) ≡ bit (f x) + count_by f xs = count-cons f x xs in
      omega arith

  module _ (R : X → X → Type 0) (alone : (a b : X) → f a ≡ true → f b ≡ true → R a b → ⊥) where
    -- what comes after one that passes does not pass
    others_out : (a b : X) → f a ≡ true → R a b → f b ≡ false
    others_out a b e r = outside (f b) refl
      where
        outside : (c : Bool) → f b ≡ c → f b ≡ false
        outside true k = absurd (alone a b e k r)
        outside false k = k

    -- one element more, by whether it passes
    once_step : (x : X) (xs : List X) (b : Bool) → f x ≡ b → AllPairs R (x ∷ xs) → (AllPairs R xs → list_any f xs ≡ true → count_by f xs ≡ 1) → list_any f (x ∷ xs) ≡ true → count_by f (x ∷ xs) ≡ 1
    once_step x xs true e pairs again found =
        let here : bit (f x) ≡ 1 = ap bit e in
        let rest : count_by f xs ≡ 0 = count_none xs (λ k d l. others_out x (get_or xs k d) e (pairs zero (suc k) d (omega arith) (omega (arith, l)))) in
        let one : count_by f (x ∷ xs) ≡ bit (f x) + count_by f xs = count-cons f x xs in
        omega arith
    once_step x xs false e pairs again found =
        let here : bit (f x) ≡ 0 = ap bit e in
        let rest : count_by f xs ≡ 1 = again (λ i j d l m. pairs (suc i) (suc j) d (omega (arith, l)) (omega (arith, m))) (sym (ap (λ b. b || list_any f xs) e) ∙ found) in
        let one : count_by f (x ∷ xs) ≡ bit (f x) + count_by f xs = count-cons f x xs in
        omega arith

    -- where one passes, and no two
    pub count_once : (xs : List X) → AllPairs R xs → list_any f xs ≡ true → count_by f xs ≡ 1
    count_once [] pairs found = absurd (false≢true found)
    count_once (x ∷ xs) pairs found = once_step x xs (f x) refl pairs (count_once xs) found
