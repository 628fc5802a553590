-- Names: their test for equality, tests of all names of a list, and names among others.
use Rattle.std.specs.Prelude.{◌≡◌, Bool, true, false, ◌||◌, List, [], ◌∷◌, ◌++◌, bytes_eq}
use Rattle.std.specs.List.{list_any, list_all}
use Rattle.std.proofs.Common.{refl, ap, ◌∙◌}
use Rattle.std.proofs.lemmas.Bool.{and_parts, and_from, or_parts}
use Rattle.std.proofs.lemmas.List.Folds.{list_any-append}
use Rattle.std.proofs.lemmas.Slice.Eq.{bytes_eq-Decides}
use Rattle.overlay_terms.specs.Layers.{Name}
use Rattle.overlay_terms.specs.Orderly.{is_among}

-- names that the test finds equal are the same
pub same_name : (a b : Name) → bytes_eq a b ≡ true → a ≡ b
same_name a b = (bytes_eq-Decides a b).0

-- the test finds a name equal to itself
pub name_itself : (a : Name) → bytes_eq a a ≡ true
name_itself a = (bytes_eq-Decides a a).1 refl

-- false after a test
pub or_false : (b : Bool) → (b || false) ≡ b
or_false true = refl
or_false false = refl

-- a test of all follows from another, and from one that none passes
pub list_all_but : {X : Type 0} (p r q : X → Bool) → ((x : X) → p x ≡ true → r x ≡ false → q x ≡ true) → (xs : List X) → list_all p xs ≡ true → list_any r xs ≡ false → list_all q xs ≡ true
list_all_but p r q h [] all none = refl
list_all_but p r q h (x ∷ xs) all none =
    let a = and_parts (p x) (list_all p xs) all in
    let b = or_parts (r x) (list_any r xs) none in
    and_from (q x) (list_all q xs) (h x a.0 b.0) (list_all_but p r q h xs a.1 b.1)

-- a test of all follows from another
pub list_all_so : {X : Type 0} (p q : X → Bool) → ((x : X) → p x ≡ true → q x ≡ true) → (xs : List X) → list_all p xs ≡ true → list_all q xs ≡ true
list_all_so p q h [] all = refl
list_all_so p q h (x ∷ xs) all =
    let a = and_parts (p x) (list_all p xs) all in
    and_from (q x) (list_all q xs) (h x a.0) (list_all_so p q h xs a.1)

-- whether a name is among some names and one more
pub is_among-push : (known : List Name) (m n : Name) → is_among (known ++ m ∷ []) n ≡ (is_among known n || bytes_eq m n)
is_among-push known m n =
    list_any-append (λ other. bytes_eq other n) known (m ∷ []) ∙ ap (λ b. is_among known n || b) (or_false (bytes_eq m n))
