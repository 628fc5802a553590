-- Points dealt out to rings, and rings to features.
use Rattle.std.proofs.Common.{◌≡◌, ℕ, zero, suc, ◌+◌, ◌-◌, ◌<◌, ◌≤◌, refl, ap, sym, ◌∙◌, arith, List, [], ◌∷◌, ◌++◌, length, take, drop}
use Rattle.std.specs.Prelude.{get_or, sum_by, min}
use Rattle.std.proofs.lemmas.List.{append-nil, append_assoc, take_all, take-append-le, drop-append-le, take-take, take_min, drop_min, drop-drop, drop-take, drop_all, drop_more, length-drop}
use Rattle.std.proofs.lemmas.List.Sums.{sum_by-cons, sum_by-append}
use Rattle.block_reading.specs.Block.{dealt}

-- the sum of counts
abbrev pub in_all : List ℕ → ℕ
in_all counts = sum_by (λ n. n) counts

pub in_all-cons : (c : ℕ) (cs : List ℕ) → in_all (c ∷ cs) ≡ c + in_all cs
in_all-cons c cs = sum_by-cons (λ n. n) c cs

-- the first lists alone, and those after them
pub take-dealt : {A : Type 0} (n : ℕ) (cs : List ℕ) (xs : List A) → take n (dealt cs xs) ≡ dealt (take n cs) xs
take-dealt zero cs xs = refl
take-dealt (suc n) [] xs = refl
take-dealt (suc n) (c ∷ cs) xs = ap (λ ys. take c xs ∷ ys) (take-dealt n cs (drop c xs))

pub drop-dealt : {A : Type 0} (n : ℕ) (cs : List ℕ) (xs : List A) → drop n (dealt cs xs) ≡ dealt (drop n cs) (drop (in_all (take n cs)) xs)
drop-dealt zero cs xs = refl
drop-dealt (suc n) [] xs = refl
drop-dealt (suc n) (c ∷ cs) xs =
    drop-dealt n cs (drop c xs)
    ∙ ap (λ ys. dealt (drop n cs) ys) (drop-drop (in_all (take n cs)) c xs ∙ ap (λ k. drop k xs) (sym (in_all-cons c (take n cs))))

-- no list needs what comes after the points of all
pub dealt-take : {A : Type 0} (cs : List ℕ) (xs : List A) → dealt cs (take (in_all cs) xs) ≡ dealt cs xs
dealt-take [] xs = refl
dealt-take (c ∷ cs) xs =
    let within : c ≤ c + in_all cs = omega arith in
    ap (λ k. dealt (c ∷ cs) (take k xs)) (in_all-cons c cs)
    ∙ (λ i. take-take c (c + in_all cs) xs within i ∷ dealt cs (drop-take c (in_all cs) xs i))
    ∙ ap (λ ys. take c xs ∷ ys) (dealt-take cs (drop c xs))

-- where points are split of which so many are left
pub split_front : {A : Type 0} (n : ℕ) (xs rest : List A) → rest ≡ drop n xs → take (length xs - length rest) xs ≡ take n xs
split_front n xs rest e =
    let left : length rest ≡ length xs - n = ap length e ∙ length-drop n xs in
    let same : length xs - length rest ≡ min n (length xs) = omega (arith, left) in
    ap (λ k. take k xs) same ∙ take_min n xs

pub split_rest : {A : Type 0} (n : ℕ) (xs rest : List A) → rest ≡ drop n xs → drop (length xs - length rest) xs ≡ drop n xs
split_rest n xs rest e =
    let left : length rest ≡ length xs - n = ap length e ∙ length-drop n xs in
    let same : length xs - length rest ≡ min n (length xs) = omega (arith, left) in
    ap (λ k. drop k xs) same ∙ drop_min n xs

-- one more count
pub counted_more : {A : Type 0} (cs : List ℕ) (i : ℕ) (all rest after : List A) → i < length cs → after ≡ drop (get_or cs i 0) rest → drop (in_all (drop i cs)) rest ≡ all → drop (in_all (drop (i + 1) cs)) after ≡ all
counted_more cs i all rest after lt e so_far =
    let c : ℕ = get_or cs i 0 in
    let here : drop i cs ≡ c ∷ drop (i + 1) cs = drop_more cs i 0 lt in
    ap (λ xs. drop (in_all (drop (i + 1) cs)) xs) e ∙ drop-drop (in_all (drop (i + 1) cs)) c rest
    ∙ ap (λ k. drop k rest) (sym (in_all-cons c (drop (i + 1) cs)) ∙ ap in_all (sym here)) ∙ so_far

pub counted_all : {A : Type 0} (cs : List ℕ) (i : ℕ) (all rest : List A) → length cs ≤ i → drop (in_all (drop i cs)) rest ≡ all → rest ≡ all
counted_all cs i all rest past so_far = ap (λ ks. drop (in_all ks) rest) (sym (drop_all i cs past)) ∙ so_far

-- one more feature
pub feature_more : {A : Type 0} (ns : List ℕ) (i : ℕ) (made : List (List (List A))) (cs own others : List ℕ) (xs front after : List A) (all : List (List (List A))) → i < length ns → own ≡ take (get_or ns i 0) cs
    → others ≡ drop (get_or ns i 0) cs → front ≡ take (in_all own) xs → after ≡ drop (in_all own) xs → made ++ dealt (drop i ns) (dealt cs xs) ≡ all
    → (made ++ dealt own front ∷ []) ++ dealt (drop (i + 1) ns) (dealt others after) ≡ all
feature_more ns i made cs own others xs front after all lt e f g h so_far =
    let n : ℕ = get_or ns i 0 in
    let first : dealt own front ≡ take n (dealt cs xs) = ap (dealt own) g ∙ dealt-take own xs ∙ ap (λ ks. dealt ks xs) e ∙ sym (take-dealt n cs xs) in
    let rest : dealt others after ≡ drop n (dealt cs xs) = (λ k. dealt (f k) ((h ∙ ap (λ ks. drop (in_all ks) xs) e) k)) ∙ sym (drop-dealt n cs xs) in
    append_assoc made (dealt own front ∷ []) (dealt (drop (i + 1) ns) (dealt others after))
    ∙ ap (λ ys. made ++ ys) ((λ j. first j ∷ dealt (drop (i + 1) ns) (rest j)) ∙ ap (λ ks. dealt ks (dealt cs xs)) (sym (drop_more ns i 0 lt)))
    ∙ so_far

pub features_all : {A : Type 0} (ns : List ℕ) (i : ℕ) (made : List (List (List A))) (rest : List (List A)) (all : List (List (List A))) → length ns ≤ i → made ++ dealt (drop i ns) rest ≡ all → made ≡ all
features_all ns i made rest all past so_far =
    sym (append-nil made) ∙ ap (λ ks. made ++ dealt ks rest) (sym (drop_all i ns past)) ∙ so_far

-- ---- rings in a row, one after another
pub in_all-push : (cs : List ℕ) (n : ℕ) → in_all (cs ++ n ∷ []) ≡ in_all cs + n
in_all-push cs n =
    let both : in_all (cs ++ n ∷ []) ≡ in_all cs + in_all (n ∷ []) = sum_by-append (λ k. k) cs (n ∷ []) in
    let one : in_all (n ∷ []) ≡ n + in_all [] = in_all-cons n [] in
    let none : in_all [] ≡ 0 = refl in
    omega (arith, both, one, none)

empty : {A : Type 0} (xs : List A) → 0 ≡ length xs → xs ≡ []
empty [] e = refl
empty (x ∷ xs) e = absurd (omega (arith, e))

pub dealt-push : {A : Type 0} (cs : List ℕ) (xs : List A) (n : ℕ) (ys : List A) → in_all cs ≡ length xs → n ≡ length ys → dealt (cs ++ n ∷ []) (xs ++ ys) ≡ dealt cs xs ++ ys ∷ []
dealt-push [] xs n ys e f =
    ap (λ zs. take n (zs ++ ys) ∷ []) (empty xs e) ∙ ap (λ zs. zs ∷ []) (take_all n ys (omega (arith, f)))
dealt-push (c ∷ cs) xs n ys e f =
    let all : c + in_all cs ≡ length xs = sym (in_all-cons c cs) ∙ e in
    let within : c ≤ length xs = omega (arith, all) in
    let rest : length (drop c xs) ≡ length xs - c = length-drop c xs in
    let left : in_all cs ≡ length (drop c xs) = omega (arith, all, rest) in
    (λ i. take-append-le c xs ys within i ∷ dealt (cs ++ n ∷ []) (drop-append-le c xs ys within i))
    ∙ ap (λ zs. take c xs ∷ zs) (dealt-push cs (drop c xs) n ys left f)

-- the first of the rings that are left, and those after it
pub dealt_next : {A : Type 0} (cs : List ℕ) (i : ℕ) (rest own after : List A) → i < length cs → own ≡ take (get_or cs i 0) rest → after ≡ drop (get_or cs i 0) rest
    → own ∷ dealt (drop (i + 1) cs) after ≡ dealt (drop i cs) rest
dealt_next cs i rest own after lt e f =
    (λ j. e j ∷ dealt (drop (i + 1) cs) (f j)) ∙ ap (λ ks. dealt ks rest) (sym (drop_more cs i 0 lt))

pub ring_more : {A : Type 0} (cs : List ℕ) (i : ℕ) (made : List (List A)) (rest own after : List A) (all : List (List A)) → i < length cs → own ≡ take (get_or cs i 0) rest → after ≡ drop (get_or cs i 0) rest
    → made ++ dealt (drop i cs) rest ≡ all → (made ++ own ∷ []) ++ dealt (drop (i + 1) cs) after ≡ all
ring_more cs i made rest own after all lt e f so_far =
    append_assoc made (own ∷ []) (dealt (drop (i + 1) cs) after) ∙ ap (λ ys. made ++ ys) (dealt_next cs i rest own after lt e f) ∙ so_far

pub rings_all : {A : Type 0} (cs : List ℕ) (i : ℕ) (made : List (List A)) (rest : List A) (all : List (List A)) → length cs ≤ i → made ++ dealt (drop i cs) rest ≡ all → made ≡ all
rings_all cs i made rest all past so_far = sym (append-nil made) ∙ ap (λ ks. made ++ dealt ks rest) (sym (drop_all i cs past)) ∙ so_far
