-- Of the elements of a list that pass a test, one that none of them comes after.
use Rattle.std.specs.Prelude.{◌≡◌, ◌⊎◌, Bool, true, false, List, [], ◌∷◌, Contains}
use Rattle.std.proofs.Common.{inl, inr, refl, sym, ◌∙◌, subst}
use Rattle.std.proofs.lemmas.Bool.{false≢true}
use Rattle.overlay_terms.proofs.Lists.{Contains-cons_cases, none_in_empty, contains_first, contains_rest}

-- one element comes before another, among those that pass a test: a strict order that can be decided
pub record IsOrdered {X : Type 0} (good : X → Bool) (Before : X → X → Type 0) : Type 0 where
  pub through : (a b c : X) → good a ≡ true → good b ≡ true → good c ≡ true → Before a b → Before b c → Before a c
  pub never : (a : X) → good a ≡ true → Before a a → ⊥
  pub decided : (a b : X) → good a ≡ true → good b ≡ true → Before a b ⊎ (Before a b → ⊥)

-- an element of a list that passes, and no passing one of the list comes after it
pub record IsLast {X : Type 0} (good : X → Bool) (Before : X → X → Type 0) (xs : List X) (x : X) : Type 0 where
  pub among : Contains xs x
  pub passes : good x ≡ true
  pub none_after : (c : X) → Contains xs c → good c ≡ true → Before x c → ⊥

-- no element passes, or there is such a last one
data Search {X : Type 0} (good : X → Bool) (Before : X → X → Type 0) (xs : List X) : Type 0 where
  none : ((c : X) → Contains xs c → good c ≡ true → ⊥) → Search good Before xs
  found : (x : X) → IsLast good Before xs x → Search good Before xs

module _ {X : Type 0} (good : X → Bool) (Before : X → X → Type 0) (laws : IsOrdered good Before) where
  -- a first element that does not pass changes nothing
  skipped : (x : X) (xs : List X) → good x ≡ false → Search good Before xs → Search good Before (x ∷ xs)
  skipped x xs e s = by s where
    fails : (c : X) → x ≡ c → good c ≡ true → ⊥
    fails c f g = let Q : X → Type 0 = λ z. good z ≡ true in false≢true (sym e ∙ subst Q (sym f) g)

    by : Search good Before xs → Search good Before (x ∷ xs)
    by (none h) = none (λ c m g. first c g (Contains-cons_cases x xs c m)) where
      first : (c : X) → good c ≡ true → (x ≡ c) ⊎ Contains xs c → ⊥
      first c g (inl f) = fails c f g
      first c g (inr m) = h c m g
    by (found y l) = found y (record { among = contains_rest x xs y l.among; passes = l.passes; none_after = λ c m g b. after c g b (Contains-cons_cases x xs c m) }) where
      after : (c : X) → good c ≡ true → Before y c → (x ≡ c) ⊎ Contains xs c → ⊥
      after c g b (inl f) = fails c f g
      after c g b (inr m) = l.none_after c m g b

  -- a first element that passes is the last, or not after it
  taken : (x : X) (xs : List X) → good x ≡ true → Search good Before xs → Search good Before (x ∷ xs)
  taken x xs e (none h) = found x (record { among = contains_first x xs; passes = e; none_after = λ c m g b. after c g b (Contains-cons_cases x xs c m) }) where
    after : (c : X) → good c ≡ true → Before x c → (x ≡ c) ⊎ Contains xs c → ⊥
    after c g b (inl f) = let Q : X → Type 0 = λ z. Before x z in laws.never x e (subst Q (sym f) b)
    after c g b (inr m) = h c m g
  taken x xs e (found y l) = by (laws.decided y x l.passes e) where
    by : Before y x ⊎ (Before y x → ⊥) → Search good Before (x ∷ xs)
    by (inl b) = found x (record { among = contains_first x xs; passes = e; none_after = λ c m g d. after c g d (Contains-cons_cases x xs c m) }) where
      after : (c : X) → good c ≡ true → Before x c → (x ≡ c) ⊎ Contains xs c → ⊥
      after c g d (inl f) = let Q : X → Type 0 = λ z. Before x z in laws.never x e (subst Q (sym f) d)
      after c g d (inr m) = l.none_after c m g (laws.through y x c l.passes e g b d)
    by (inr n) = found y (record { among = contains_rest x xs y l.among; passes = l.passes; none_after = λ c m g d. after c g d (Contains-cons_cases x xs c m) }) where
      after : (c : X) → good c ≡ true → Before y c → (x ≡ c) ⊎ Contains xs c → ⊥
      after c g d (inl f) = let Q : X → Type 0 = λ z. Before y z in n (subst Q (sym f) d)
      after c g d (inr m) = l.none_after c m g d

  -- by the test of the first element
  one_more : (x : X) (xs : List X) (b : Bool) → good x ≡ b → Search good Before xs → Search good Before (x ∷ xs)
  one_more x xs true e s = taken x xs e s
  one_more x xs false e s = skipped x xs e s

  -- through the whole list
  searched : (xs : List X) → Search good Before xs
  searched [] = none (λ c m g. none_in_empty c m)
  searched (x ∷ xs) = one_more x xs (good x) refl (searched xs)

  -- where one passes, there is a last one
  pub last_of : (xs : List X) (x : X) → Contains xs x → good x ≡ true → (y : X) × IsLast good Before xs y
  last_of xs x c g = by (searched xs) where
    by : Search good Before xs → (y : X) × IsLast good Before xs y
    by (none h) = absurd (h x c g)
    by (found y l) = (y, l)
