-- Lists of which each element stands in a relation to each later one: put together, taken apart, and their images.
use Rattle.std.proofs.Common.{suc, ◌+◌, ◌<◌, List, [], ◌∷◌, ◌++◌, length, map, get_or, subst, arith}
use Rattle.std.specs.Prelude.{All}
use Rattle.std.specs.List.{AllPairs}
use Rattle.std.proofs.lemmas.List.{get_or_append_left, get_or-append-add, get_or-map}
use Rattle.std.proofs.lemmas.List.Elements.{All-append, All-map}
use Rattle.std.proofs.lemmas.List.Kept.{AllPairs-cons}
use Rattle.std.proofs.Math.ListN.{length-append, length-map}

module _ {X : Type 0} where
  -- ---- all elements of two lists in turn
  pub all_first : (P : X → Type 0) (xs ys : List X) → All P (xs ++ ys) → All P xs
  all_first P xs ys h i d l = let e = get_or_append_left xs ys d i l in subst P e (h i d (omega (arith, l, length-append xs ys)))

  pub all_second : (P : X → Type 0) (xs ys : List X) → All P (xs ++ ys) → All P ys
  all_second P xs ys h i d l = let e = get_or-append-add xs ys i d in subst P e (h (length xs + i) d (omega (arith, l, length-append xs ys)))

  -- ---- and all pairs of them
  pub pairs_rest : (R : X → X → Type 0) (x : X) (xs : List X) → AllPairs R (x ∷ xs) → AllPairs R xs
  pairs_rest R x xs h = λ i j d l m. h (suc i) (suc j) d (omega arith) (omega (arith, m))

  pub pairs_head : (R : X → X → Type 0) (x : X) (xs : List X) → AllPairs R (x ∷ xs) → All (R x) xs
  pairs_head R x xs h = λ k d l. h 0 (suc k) d (omega arith) (omega (arith, l))

  pub pairs_first : (R : X → X → Type 0) (xs ys : List X) → AllPairs R (xs ++ ys) → AllPairs R xs
  pairs_first R xs ys h i j d l m =
      let first : i < length xs = omega (arith, l, m) in
      let P : X → Type 0 = λ z. R z (get_or xs j d) in
      let Q : X → Type 0 = λ z. R (get_or (xs ++ ys) i d) z in
      subst P (get_or_append_left xs ys d i first) (subst Q (get_or_append_left xs ys d j m) (h i j d l (omega (arith, m, length-append xs ys))))

  pub pairs_second : (R : X → X → Type 0) (xs ys : List X) → AllPairs R (xs ++ ys) → AllPairs R ys
  pairs_second R [] ys h = h
  pairs_second R (x ∷ xs) ys h = pairs_second R xs ys (pairs_rest R x (xs ++ ys) h)

  pub all_pairs_append : (R : X → X → Type 0) (xs ys : List X) → AllPairs R xs → AllPairs R ys → All (λ a. All (R a) ys) xs → AllPairs R (xs ++ ys)
  all_pairs_append R [] ys h k m = k
  all_pairs_append R (x ∷ xs) ys h k m =
      AllPairs-cons R x (xs ++ ys) (All-append (R x) xs ys (pairs_head R x xs h) (m 0 x (omega arith)))
      (all_pairs_append R xs ys (pairs_rest R x xs h) k (λ i d l. m (suc i) d (omega (arith, l))))

-- ---- images
pub all_from_map : {X Y : Type 0} (P : Y → Type 0) (f : X → Y) (xs : List X) → All P (map f xs) → All (λ x. P (f x)) xs
all_from_map P f xs h i d l = subst P (get_or-map f xs i d (f d) l) (h i (f d) (omega (arith, l, length-map xs f)))

pub pairs_map : {X Y : Type 0} (R : Y → Y → Type 0) (f : X → Y) (xs : List X) → AllPairs (λ a b. R (f a) (f b)) xs → AllPairs R (map f xs)
pairs_map R f [] h = λ i j d l m. absurd (omega (arith, m))
pairs_map R f (x ∷ xs) h =
    AllPairs-cons R (f x) (map f xs) (All-map (R (f x)) f xs (pairs_head (λ a b. R (f a) (f b)) x xs h)) (pairs_map R f xs (pairs_rest (λ a b. R (f a) (f b)) x xs h))

pub pairs_from_map : {X Y : Type 0} (R : Y → Y → Type 0) (f : X → Y) (xs : List X) → AllPairs R (map f xs) → AllPairs (λ a b. R (f a) (f b)) xs
pairs_from_map {X} {Y} R f xs h i j d l m =
    let P : Y → Type 0 = λ z. R z (f (get_or xs j d)) in
    let Q : Y → Type 0 = λ z. R (get_or (map f xs) i (f d)) z in
    subst P (get_or-map f xs i d (f d) (omega (arith, l, m))) (subst Q (get_or-map f xs j d (f d) m) (h i j (f d) l (omega (arith, m, length-map xs f))))
