-- Names, and the indices of layers.
use Rattle.std.proofs.Common.{◌≡◌, ℕ, ◌+◌, Bool, true, false, cond, ◌||◌, nat_lt, List, [], ◌∷◌, length, refl, sym, ◌∙◌, arith, bytes_eq}
use Rattle.std.proofs.lemmas.Bool.Decides.{same_from_decides, nat_tests}
use Rattle.std.proofs.lemmas.Slice.Eq.{bytes_eq-Decides}
use Rattle.overlay_terms.specs.Layers.{Name, Layer}
use Rattle.overlay_terms.specs.Commands.{index_of, stands}

pub same_name : (a b : List ℕ) → bytes_eq a b ≡ true → a ≡ b
same_name a b = (bytes_eq-Decides a b).0

pub equal_names : (a b : List ℕ) → a ≡ b → bytes_eq a b ≡ true
equal_names a b = (bytes_eq-Decides a b).1

pub own_name : (a : List ℕ) → bytes_eq a a ≡ true
own_name a = equal_names a a refl

pub turned : (a b : List ℕ) → bytes_eq a b ≡ bytes_eq b a
turned a b = same_from_decides {P = a ≡ b} (bytes_eq a b) (bytes_eq b a) (bytes_eq-Decides a b) (λ h. sym (same_name b a h), λ e. equal_names b a (sym e))

pub stands_is : (layers : List Layer) (name : Name) → stands layers name ≡ nat_lt (index_of layers name) (length layers)
stands_is [] name = refl
stands_is (layer ∷ layers) name = split (bytes_eq layer.name name) (stands_is layers name) where
  split : (b : Bool) → stands layers name ≡ nat_lt (index_of layers name) (length layers) → (b || stands layers name) ≡ nat_lt (cond b 0 (index_of layers name + 1)) (length (layer ∷ layers))
  split true h = grind (arith, nat_tests)
  split false h = h ∙ grind (arith, nat_tests)
