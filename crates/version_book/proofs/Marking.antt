-- A list whose elements are changed one after another.
use Rattle.std.proofs.Common.{◌≡◌, ℕ, ◌+◌, zero, suc, ◌≤◌, List, [], ◌∷◌, ◌++◌, length, map, take, drop, set, get_or, refl, ap, ◌∙◌, subst, arith}
use Rattle.std.proofs.lemmas.List.{take_all, drop_all, append-nil, length-map}

-- one more element is changed
change_next : {A : Type 0} (f : A → A) (xs : List A) (i : ℕ) (y : A) → y ≡ get_or (map f (take i xs) ++ drop i xs) i y
    → set (map f (take i xs) ++ drop i xs) i (f y) ≡ map f (take (suc i) xs) ++ drop (suc i) xs
change_next f [] zero y is = refl
change_next f [] (suc i) y is = refl
change_next f (x ∷ xs) zero y is = ap (λ z. f z ∷ xs) is
change_next f (x ∷ xs) (suc i) y is = ap (λ zs. f x ∷ zs) (change_next f xs i y is)

-- the same, where the elements are given by an equation
pub change_at : {A : Type 0} (f : A → A) (xs ys : List A) (i : ℕ) (y z : A) → ys ≡ map f (take i xs) ++ drop i xs → y ≡ get_or ys i y → z ≡ f y
    → set ys i z ≡ map f (take (i + 1) xs) ++ drop (i + 1) xs
change_at f xs ys i y z is at changed =
    let next : suc i ≡ i + 1 = omega arith in
    ap (λ l. set l i z) is ∙ ap (λ w. set (map f (take i xs) ++ drop i xs) i w) changed
    ∙ change_next f xs i y (subst (λ l. y ≡ get_or l i y) is at) ∙ ap (λ n. map f (take n xs) ++ drop n xs) next

-- where all were changed, they are the changed elements
pub changed_all : {A : Type 0} (f : A → A) (xs ys : List A) (i n : ℕ) → length xs ≤ i → n ≡ length xs → ys ≡ map f (take i xs) ++ drop i xs
    → take n (ys ++ drop (length ys) xs) ≡ map f xs
changed_all f xs ys i n past whole is =
    let all : ys ≡ map f xs = is ∙ ap (λ l. map f l ++ drop i xs) (take_all i xs past) ∙ ap (λ l. map f xs ++ l) (drop_all i xs past) ∙ append-nil (map f xs) in
    let len : length ys ≡ length xs = ap length all ∙ length-map xs f in
    let none : drop (length ys) xs ≡ [] = drop_all (length ys) xs (omega arith) in
    ap (λ l. take n (ys ++ l)) none ∙ ap (take n) (append-nil ys) ∙ take_all n ys (omega arith) ∙ all
