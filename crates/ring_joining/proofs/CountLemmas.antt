-- Lists in order, of which each number is as often in one as in the other.
use Rattle.std.proofs.Common.{◌≡◌, ℕ, zero, suc, ◌+◌, ◌<◌, ◌≤◌, ◌==◌, Bool, cond, true, false, List, [], ◌∷◌, length, get_or, refl, sym, ap, subst, ◌∙◌, arith}
use Rattle.std.specs.Prelude.{count_by, nat_lt}
use Rattle.std.specs.Ordering.{nat_cmp, is_lt, ordering_then}
use Rattle.std.specs.declared.cmp.Ordering.{Ordering}
use Rattle.std.specs.declared.cmp.Ordering.TheVariants.{Less, Equal, Greater}
use Rattle.std.specs.List.Sorted.{IsPermutation, IsSortedByKey, IsNonDecreasingBy}
use Rattle.std.proofs.lemmas.Bool.{both_ways, ltb-false}
use Rattle.std.proofs.lemmas.Bool.Decides.{Decides-eqb}
use Rattle.std.proofs.lemmas.List.Recursion.{is_count_by}
use Rattle.std.proofs.lemmas.List.Sorted.{sum_by-IsPermutation, IsNonDecreasingBy-from_all_adjacent}

-- a count by the first element and the rest
abbrev pub times : {X : Type 0} → (X → Bool) → List X → ℕ
times p [] = 0
times p (x ∷ xs) = cond (p x) (1 + times p xs) (times p xs)

pub times_is : {X : Type 0} (p : X → Bool) (xs : List X) → times p xs ≡ count_by p xs
times_is p xs = is_count_by (λ ys. times p ys) p refl (λ y ys. refl) xs

pub times_moved : {X : Type 0} (p : X → Bool) (xs ys : List X) → IsPermutation xs ys → times p ys ≡ times p xs
times_moved p xs ys h = times_is p ys ∙ sum_by-IsPermutation (λ x. cond (p x) 1 0) xs ys h ∙ sym (times_is p xs)

more_than : (b : Bool) (n : ℕ) → 0 < n → 0 < cond b (1 + n) n
more_than true n h = omega arith
more_than false n h = h

one_more : (b : Bool) (n : ℕ) → b ≡ true → 0 < cond b (1 + n) n
one_more true n e = omega arith
one_more false n e = absurd (cc)

pub counted : {X : Type 0} (p : X → Bool) (xs : List X) (k : ℕ) (d : X) → k < length xs → p (get_or xs k d) ≡ true → 0 < times p xs
counted p [] k d l e = absurd (omega (arith, l))
counted p (x ∷ xs) zero d l e = one_more (p x) (times p xs) e
counted p (x ∷ xs) (suc k) d l e = more_than (p x) (times p xs) (counted p xs k d (omega (arith, l)) e)

pub found : {X : Type 0} (p : X → Bool) (xs : List X) (d : X) → 0 < times p xs → (k : ℕ) × (k < length xs) × (p (get_or xs k d) ≡ true)
found p [] d h = absurd (not_less h)
  where
    not_less : 0 < 0 → ⊥
    not_less h = absurd (omega (arith, h))
found p (x ∷ xs) d h = by (p x) refl h (found p xs d)
  where
    later : (k : ℕ) × (k < length xs) × (p (get_or xs k d) ≡ true) → (k : ℕ) × (k < length (x ∷ xs)) × (p (get_or (x ∷ xs) k d) ≡ true)
    later (k, l, e) = (suc k, omega (arith, l), e)

    by : (b : Bool) → p x ≡ b → 0 < cond b (1 + times p xs) (times p xs) → (0 < times p xs → (k : ℕ) × (k < length xs) × (p (get_or xs k d) ≡ true))
        → (k : ℕ) × (k < length (x ∷ xs)) × (p (get_or (x ∷ xs) k d) ≡ true)
    by true e h more = (0, omega arith, e)
    by false e h more = later (more h)

no_more : (b : Bool) (n : ℕ) → b ≡ true → cond b (1 + n) n ≡ 1 → 0 < n → ⊥
no_more true n e one h = absurd (omega (arith, one, h))
no_more false n e one h = absurd (cc)

still_one : (b : Bool) (n : ℕ) → cond b (1 + n) n ≡ 1 → 0 < n → n ≡ 1
still_one true n one h = absurd (omega (arith, one, h))
still_one false n one h = one

-- what is there once is in one place
pub single : {X : Type 0} (p : X → Bool) (xs : List X) (k l : ℕ) (d : X) → times p xs ≡ 1 → k < length xs → l < length xs → p (get_or xs k d) ≡ true → p (get_or xs l d) ≡ true → k ≡ l
single p [] k l d one h m e f = absurd (omega (arith, h))
single p (x ∷ xs) zero zero d one h m e f = refl
single p (x ∷ xs) zero (suc l) d one h m e f = absurd (no_more (p x) (times p xs) e one (counted p xs l d (omega (arith, m)) f))
single p (x ∷ xs) (suc k) zero d one h m e f = absurd (no_more (p x) (times p xs) f one (counted p xs k d (omega (arith, h)) e))
single p (x ∷ xs) (suc k) (suc l) d one h m e f =
    ap suc (single p xs k l d (still_one (p x) (times p xs) one (counted p xs k d (omega (arith, h)) e)) (omega (arith, h)) (omega (arith, m)) e f)

cancel : (b : Bool) (m n : ℕ) → cond b (1 + m) m ≡ cond b (1 + n) n → m ≡ n
cancel true m n e = omega (arith, e)
cancel false m n e = e

module _ {X : Type 0} (n : X → ℕ) where
  -- the first of a list in order is least
  least : (v : ℕ) (y : X) (ys : List X) → IsNonDecreasingBy n (y ∷ ys) → 0 < times (λ z. n z == v) (y ∷ ys) → n y ≤ v
  least v y ys up h = by (found (λ z. n z == v) (y ∷ ys) y h)
    where
      by : (k : ℕ) × (k < length (y ∷ ys)) × ((n (get_or (y ∷ ys) k y) == v) ≡ true) → n y ≤ v
      by (k, l, e) =
          let is : n (get_or (y ∷ ys) k y) ≡ v = (Decides-eqb (n (get_or (y ∷ ys) k y)) v).0 e in
          let low : n y ≤ n (get_or (y ∷ ys) k y) = up 0 k y (omega arith) l in
          omega (arith, low, is)

  later : (x : X) (xs : List X) → IsNonDecreasingBy n (x ∷ xs) → IsNonDecreasingBy n xs
  later x xs up = λ i j d l m. up (suc i) (suc j) d (omega (arith, l)) (omega (arith, m))

  itself : (y : X) (ys : List X) → 0 < times (λ z. n z == n y) (y ∷ ys)
  itself y ys = one_more (n y == n y) (times (λ z. n z == n y) ys) ((Decides-eqb (n y) (n y)).1 refl)

  heads : (x y : X) (xs ys : List X) → IsNonDecreasingBy n (x ∷ xs) → IsNonDecreasingBy n (y ∷ ys)
      → ((v : ℕ) → times (λ z. n z == v) (x ∷ xs) ≡ times (λ z. n z == v) (y ∷ ys)) → n x ≡ n y
  heads x y xs ys up upward same =
      let low : n y ≤ n x = least (n x) y ys upward (subst (λ m. 0 < m) (same (n x)) (itself x xs)) in
      let high : n x ≤ n y = least (n y) x xs up (subst (λ m. 0 < m) (sym (same (n y))) (itself y ys)) in
      omega (arith, low, high)

  pub same_places : (xs ys : List X) → IsNonDecreasingBy n xs → IsNonDecreasingBy n ys → ((v : ℕ) → times (λ z. n z == v) xs ≡ times (λ z. n z == v) ys)
      → (k : ℕ) (d : X) → k < length xs → n (get_or xs k d) ≡ n (get_or ys k d)
  same_places [] ys up upward same k d l = absurd (omega (arith, l))
  same_places (x ∷ xs) [] up upward same k d l = absurd (none (subst (λ m. 0 < m) (same (n x)) (itself x xs)))
    where
      none : 0 < 0 → ⊥
      none h = absurd (omega (arith, h))
  same_places (x ∷ xs) (y ∷ ys) up upward same zero d l = heads x y xs ys up upward same
  same_places (x ∷ xs) (y ∷ ys) up upward same (suc k) d l =
      let head : n x ≡ n y = heads x y xs ys up upward same in
      same_places xs ys (later x xs up) (later y ys upward)
      (λ v. cancel (n x == v) (times (λ z. n z == v) xs) (times (λ z. n z == v) ys)
      (same v ∙ ap (λ (m : ℕ). cond (m == v) (1 + times (λ z. n z == v) ys) (times (λ z. n z == v) ys)) (sym head)))
      k d (omega (arith, l))

-- a sort by two numbers is one by the first
rises : (a c : ℕ) (o : Ordering) → is_lt (ordering_then (nat_cmp a c) o) ≡ false → c ≤ a
rises a c o h = by (nat_lt a c) refl
  where
    by : (b : Bool) → nat_lt a c ≡ b → c ≤ a
    by true e = absurd (both_ways (is_lt (ordering_then (nat_cmp a c) o)) h (ap (λ t. is_lt (ordering_then (cond t Less (cond (a == c) Equal Greater)) o)) e))
    by false e = ltb-false a c e

pub by_first : {X : Type 0} (m n : X → ℕ) (xs : List X) → IsSortedByKey {K = ℕ × ℕ} (λ x. (m x, n x)) (λ x y. ordering_then (nat_cmp x.0 y.0) (nat_cmp x.1 y.1)) xs → IsNonDecreasingBy m xs
by_first m n xs h = IsNonDecreasingBy-from_all_adjacent m xs (λ k d l. rises (m (get_or xs (k + 1) d)) (m (get_or xs k d)) _ (h k d (omega arith) l))
