-- What lists, their images and their unions contain.
use Rattle.std.specs.Prelude.{◌≡◌, ℕ, zero, suc, ◌+◌, ◌<◌, ◌⊎◌, List, [], ◌∷◌, ◌++◌, length, map, flat_map, All, Any, Contains}
use Rattle.std.proofs.Common.{inl, inr, refl, ap, sym, ◌∙◌, subst, arith, drop, get_or, add-one, drop-cons}
use Rattle.std.proofs.lemmas.List.Elements.{Contains-append_left, Contains-append_right, Contains-append_cases}

-- an element of a list with a property
pub any_from : {X : Type 0} (P : X → Type 0) (xs : List X) (x : X) → Contains xs x → P x → Any P xs
any_from P xs x c h = (c.0, x, c.1, c.2, h)

-- what has the property is in the list
pub any_contains : {X : Type 0} (P : X → Type 0) (xs : List X) (a : Any P xs) → Contains xs a.1
any_contains P xs a = (a.0, a.2, a.3)

-- an element with a property in the first of two lists
pub any_left : {X : Type 0} (P : X → Type 0) (xs ys : List X) → Any P xs → Any P (xs ++ ys)
any_left P xs ys a = any_from P (xs ++ ys) a.1 (Contains-append_left xs ys a.1 (any_contains P xs a)) a.4

-- an element is the first, or is in the rest
pub Contains-cons_cases : {X : Type 0} (a : X) (xs : List X) (x : X) → Contains (a ∷ xs) x → (a ≡ x) ⊎ Contains xs x
Contains-cons_cases a xs x (zero, l, e) = inl e
Contains-cons_cases a xs x (suc k, l, e) = inr (k, omega (arith, l), e)

-- an empty list has no element
pub none_in_empty : {X : Type 0} (x : X) → Contains [] x → ⊥
none_in_empty x c = omega (arith, c.1)

-- the first element
pub contains_first : {X : Type 0} (a : X) (xs : List X) → Contains (a ∷ xs) a
contains_first a xs = (0, omega arith, refl)

-- an element of the rest
pub contains_rest : {X : Type 0} (a : X) (xs : List X) (x : X) → Contains xs x → Contains (a ∷ xs) x
contains_rest a xs x c = (suc c.0, omega (arith, c.1), c.2)

-- what one of the lists has is in their union
pub in_flat_map : {X Y : Type 0} (f : X → List Y) (xs : List X) (x : X) (y : Y) → Contains xs x → Contains (f x) y → Contains (flat_map f xs) y
in_flat_map f [] x y c d = absurd (none_in_empty x c)
in_flat_map {X} {Y} f (a ∷ xs) x y c d = by (λ m. in_flat_map f xs x y m d) (Contains-cons_cases a xs x c) where
  by : (Contains xs x → Contains (flat_map f xs) y) → (a ≡ x) ⊎ Contains xs x → Contains (f a ++ flat_map f xs) y
  by more (inl e) = let Q : X → Type 0 = λ z. Contains (f z) y in Contains-append_left (f a) (flat_map f xs) y (subst Q (sym e) d)
  by more (inr m) = Contains-append_right (f a) (flat_map f xs) y (more m)

-- what a union of lists has, one of them has
pub from_flat_map : {X Y : Type 0} (f : X → List Y) (xs : List X) (y : Y) → Contains (flat_map f xs) y → (x : X) × Contains xs x × Contains (f x) y
from_flat_map f [] y c = absurd (none_in_empty y c)
from_flat_map {X} {Y} f (a ∷ xs) y c = by (from_flat_map f xs y) (Contains-append_cases (f a) (flat_map f xs) y c) where
  by : (Contains (flat_map f xs) y → (x : X) × Contains xs x × Contains (f x) y) → Contains (f a) y ⊎ Contains (flat_map f xs) y → (x : X) × Contains (a ∷ xs) x × Contains (f x) y
  by more (inl d) = (a, contains_first a xs, d)
  by more (inr d) = let r = more d in (r.0, contains_rest a xs r.0 r.1, r.2)

-- the image of what a list has is in the list of images
pub contains_map : {X Y : Type 0} (f : X → Y) (xs : List X) (x : X) → Contains xs x → Contains (map f xs) (f x)
contains_map f [] x c = absurd (none_in_empty x c)
contains_map {X} {Y} f (a ∷ xs) x c = by (contains_map f xs x) (Contains-cons_cases a xs x c) where
  by : (Contains xs x → Contains (map f xs) (f x)) → (a ≡ x) ⊎ Contains xs x → Contains (f a ∷ map f xs) (f x)
  by more (inl e) = let same : f a ≡ f x = ap f e in (0, omega arith, same)
  by more (inr m) = contains_rest (f a) (map f xs) (f x) (more m)

-- what is in a list of images is the image of one in the list
pub from_map : {X Y : Type 0} (f : X → Y) (xs : List X) (y : Y) → Contains (map f xs) y → (x : X) × Contains xs x × (f x ≡ y)
from_map f [] y c = absurd (none_in_empty y c)
from_map {X} {Y} f (x ∷ xs) y c = by (from_map f xs y) (Contains-cons_cases (f x) (map f xs) y c) where
  by : (Contains (map f xs) y → (z : X) × Contains xs z × (f z ≡ y)) → (f x ≡ y) ⊎ Contains (map f xs) y → (z : X) × Contains (x ∷ xs) z × (f z ≡ y)
  by more (inl e) = (x, contains_first x xs, e)
  by more (inr d) = let r = more d in (r.0, contains_rest x xs r.0 r.1, r.2)

-- what is true of each is true of one in the middle
pub in_middle : {X : Type 0} (P : X → Type 0) (xs : List X) (x : X) (ys : List X) → All P (xs ++ x ∷ ys) → P x
in_middle P [] x ys all = all zero x (omega arith)
in_middle P (y ∷ xs) x ys all = in_middle P xs x ys (λ k d h. all (suc k) d (omega arith))

-- what is left of a list from an index on
pub drop_there : {X : Type 0} (xs : List X) (i : ℕ) (x : X) → i < length xs → x ≡ get_or xs i x → drop i xs ≡ x ∷ drop (i + 1) xs
drop_there xs i x h e =
    drop-cons xs i x h ∙ ap (λ y. y ∷ drop (suc i) xs) (sym e) ∙ ap (λ k. x ∷ drop k xs) (sym (add-one i))
