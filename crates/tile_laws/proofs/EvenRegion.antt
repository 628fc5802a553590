-- A list in which each member is there an even number of times: any test holds of an even number.
use Rattle.std.proofs.Common.{◌≡◌, ℕ, ◌≤◌, zero, suc, arith, ap, sym, ◌∙◌, refl, Bool, true, false, not, ◌&&◌, List, [], ◌∷◌, length}
use Rattle.std.proofs.Math.Bool.{and-true}
use Rattle.overlay_terms.proofs.Tests.{same_behind}

-- one and not the other
abbrev pub differ : Bool → Bool → Bool
differ true b = not b
differ false b = b

-- whether an odd number of members passes
abbrev pub odd : {X : Type 0} → (X → Bool) → List X → Bool
odd p [] = false
odd p (x ∷ xs) = differ (p x) (odd p xs)

-- a member more, unless it is another
abbrev pub push_if : {X : Type 0} → Bool → X → List X → List X
push_if true x xs = xs
push_if false x xs = x ∷ xs

-- all but those that are v
abbrev pub without : {X : Type 0} → (X → X → Bool) → X → List X → List X
without same v [] = []
without same v (x ∷ xs) = push_if (same v x) x (without same v xs)

-- the oddness after one more member q, which is v (s true) or isn't: a in those that are v, o in the others
by_cases : (s q a o : Bool) → differ q (differ a o) ≡ differ (differ (s && q) a) (differ ((not s) && q) o)
by_cases true true true true = refl
by_cases true true true false = refl
by_cases false true true true = refl
by_cases false true true false = refl
by_cases true true false true = refl
by_cases true true false false = refl
by_cases false true false true = refl
by_cases false true false false = refl
by_cases true false true true = refl
by_cases true false true false = refl
by_cases false false true true = refl
by_cases false false true false = refl
by_cases true false false true = refl
by_cases true false false false = refl
by_cases false false false true = refl
by_cases false false false false = refl

-- a test on one member more
pub pushed : {X : Type 0} → (p : X → Bool) (s : Bool) (x : X) (w : List X) → odd p (push_if s x w) ≡ differ ((not s) && (p x)) (odd p w)
pushed p true x w = refl
pushed p false x w = refl

-- those that are v and the others, together
pub taken_apart : {X : Type 0} → (same : X → X → Bool) (p : X → Bool) (v : X) (xs : List X)
    → odd p xs ≡ differ (odd (λ y. ((same v y) && (p y))) xs) (odd p (without same v xs))
taken_apart same p v [] = refl
taken_apart same p v (x ∷ xs) =
    ap (differ (p x)) (taken_apart same p v xs)
    ∙ by_cases (same v x) (p x) (odd (λ y. ((same v y) && (p y))) xs) (odd p (without same v xs))
    ∙ ap (differ (differ ((same v x) && (p x)) (odd (λ y. ((same v y) && (p y))) xs))) (sym (pushed p (same v x) x (without same v xs)))

-- tests that agree everywhere
pub odd_same : {X : Type 0} → (p q : X → Bool) (xs : List X) → ((x : X) → p x ≡ q x) → odd p xs ≡ odd q xs
odd_same p q [] h = refl
odd_same p q (x ∷ xs) h = ap (λ b. differ b (odd p xs)) (h x) ∙ ap (differ (q x)) (odd_same p q xs h)

-- a test that holds of none
odd_none : {X : Type 0} → (e : X → Bool) (xs : List X) → odd (λ y. ((e y) && false)) xs ≡ false
odd_none e [] = refl
odd_none e (x ∷ xs) = ap (λ b. differ b (odd (λ y. ((e y) && false)) xs)) (none (e x)) ∙ odd_none e xs
  where
    none : (b : Bool) → (b && false) ≡ false
    none true = refl
    none false = refl

-- a test that always holds
odd_all : {X : Type 0} → (e : X → Bool) (xs : List X) → odd (λ y. ((e y) && true)) xs ≡ odd e xs
odd_all e xs = odd_same (λ y. ((e y) && true)) e xs (λ x. all (e x))
  where
    all : (b : Bool) → (b && true) ≡ b
    all true = refl
    all false = refl

-- a test that does not depend on the member, of an even number
even_if : {X : Type 0} → (e : X → Bool) (r : Bool) (xs : List X) → odd e xs ≡ false → odd (λ y. ((e y) && r)) xs ≡ false
even_if e true xs h = odd_all e xs ∙ h
even_if e false xs h = odd_none e xs

-- taking members out makes no list longer
shorter : {X : Type 0} → (same : X → X → Bool) (v : X) (xs : List X) → length (without same v xs) ≤ length xs
shorter same v [] = omega arith
shorter same v (x ∷ xs) = by_test (same v x) (shorter same v xs)
  where
    -- a test of those that are left
    by_test : (b : Bool) → length (without same v xs) ≤ length xs → length (push_if b x (without same v xs)) ≤ suc (length xs)
    by_test true h = omega arith
    by_test false h = omega arith

-- a test that answers alike for two same members
abbrev pub Respects : {X : Type 0} → (X → X → Bool) → (X → Bool) → Type 0
Respects {X} same p = (x y : X) → same x y ≡ true → p y ≡ p x

-- those that are v, where they are even in number
even_of : {X : Type 0} → (same : X → X → Bool) (p : X → Bool) (v : X) (xs : List X)
    → Respects same p → odd (same v) xs ≡ false → odd (λ y. ((same v y) && (p y))) xs ≡ false
even_of same p v xs r h =
    odd_same (λ y. ((same v y) && (p y))) (λ y. ((same v y) && (p v))) xs (λ y. same_behind (same v y) (p y) (p v) (r v y))
    ∙ even_if (same v) (p v) xs h

-- so the others are as odd as all
others : {X : Type 0} → (same : X → X → Bool) (p : X → Bool) (v : X) (xs : List X)
    → Respects same p → odd (same v) xs ≡ false → odd p (without same v xs) ≡ odd p xs
others same p v xs r h =
    sym (taken_apart same p v xs ∙ ap (λ b. differ b (odd p (without same v xs))) (even_of same p v xs r h))

-- taking out the first makes it shorter
without_first : {X : Type 0} → (same : X → X → Bool) (v : X) (xs : List X) (n : ℕ) → same v v ≡ true → length xs ≤ n → length (without same v (v ∷ xs)) ≤ n
without_first same v xs n e h = omega (arith, ap (λ b. length (push_if b v (without same v xs))) e, shorter same v xs)

-- where each member is there an even number of times, any test holds of an even number
even_by : {X : Type 0} → (same : X → X → Bool) (p : X → Bool) (n : ℕ) (xs : List X)
    → ((x : X) → same x x ≡ true) → ((u : X) → Respects same (same u)) → Respects same p
    → length xs ≤ n → ((v : X) → odd (same v) xs ≡ false) → odd p xs ≡ false
even_by same p n [] e t r l h = refl
even_by same p zero (x ∷ xs) e t r l h = absurd (omega arith)
even_by same p (suc n) (v ∷ xs) e t r l h =
    sym (others same p v (v ∷ xs) r (h v))
    ∙ even_by same p n (without same v (v ∷ xs)) e t r (without_first same v xs n (e v) (omega arith))
    (λ u. others same (same u) v (v ∷ xs) (t u) (h v) ∙ h u)

pub even_region : {X : Type 0} → (same : X → X → Bool) (p : X → Bool) (xs : List X)
    → ((x : X) → same x x ≡ true) → ((u : X) → Respects same (same u)) → Respects same p
    → ((v : X) → odd (same v) xs ≡ false) → odd p xs ≡ false
even_region same p xs e t r h = even_by same p (length xs) xs e t r (omega arith) h

-- those that pass
abbrev only : {X : Type 0} → (X → Bool) → List X → List X
only p [] = []
only p (x ∷ xs) = push_if (not (p x)) x (only p xs)

-- a test of those that are left
by_test : (q a b : Bool) → differ (q && a) b ≡ differ (not (not q) && a) b
by_test true a b = refl
by_test false a b = refl

-- a test on those that pass
odd_only : {X : Type 0} → (p q : X → Bool) (xs : List X) → odd q (only p xs) ≡ odd (λ x. p x && q x) xs
odd_only p q [] = refl
odd_only p q (x ∷ xs) =
    pushed q (not (p x)) x (only p xs)
    ∙ ap (differ (not (not (p x)) && q x)) (odd_only p q xs)
    ∙ sym (by_test (p x) (q x) (odd (λ y. p y && q y) xs))

-- of those that are one, all pass or none
swapped : (p s q : Bool) → (s ≡ true → q ≡ p) → (q && s) ≡ (s && p)
swapped p true true h = h refl
swapped p true false h = h refl
swapped p false true h = refl
swapped p false false h = refl

-- the same, where it is enough that the number is even if the test holds
even_if_so : {X : Type 0} → (e : X → Bool) (r : Bool) (xs : List X) → (r ≡ true → odd e xs ≡ false) → odd (λ y. e y && r) xs ≡ false
even_if_so e true xs h = odd_all e xs ∙ h refl
even_if_so e false xs h = odd_none e xs

-- it is enough that each member that passes is there an even number of times
pub even_within : {X : Type 0} → (same : X → X → Bool) (p : X → Bool) (xs : List X)
    → ((x : X) → same x x ≡ true) → ((u : X) → Respects same (same u)) → Respects same p
    → ((v : X) → p v ≡ true → odd (same v) xs ≡ false) → odd p xs ≡ false
even_within same p xs e t r h =
    sym (odd_only p (λ y. true) xs ∙ odd_same (λ y. p y && true) p xs (λ y. and-true (p y)))
    ∙ even_region same (λ y. true) (only p xs) e t (λ x y s. refl)
    (λ v. odd_only p (same v) xs
    ∙ odd_same (λ y. p y && same v y) (λ y. same v y && p v) xs (λ y. swapped (p v) (same v y) (p y) (r v y))
    ∙ even_if_so (same v) (p v) xs (h v))
