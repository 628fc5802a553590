-- Bytes that are added one value after another, and lists of none.
use Rattle.std.proofs.Common.{◌≡◌, ℕ, ◌+◌, ◌<◌, Bool, true, ◌==◌, List, [], ◌∷◌, ◌++◌, refl, ap, sym, ◌∙◌, length, take, get_or, arith}
use Rattle.std.specs.Prelude.{flat_map}
use Rattle.std.proofs.lemmas.Bool.{eqb-true}
use Rattle.std.proofs.lemmas.List.{take_more, flat_map_more}

-- those of one value more
pub one_more : {X : Type 0} (f : X → List ℕ) (old now new : List ℕ) (xs : List X) (i : ℕ) (d : X) → i < length xs
    → now ≡ old ++ flat_map f (take i xs) → new ≡ now ++ f (get_or xs i d) → new ≡ old ++ flat_map f (take (i + 1) xs)
one_more f old now new xs i d lt so_far is =
    is ∙ ap (λ bytes. bytes ++ f (get_or xs i d)) so_far ∙ flat_map_more f old (take i xs) (get_or xs i d) ∙ ap (λ ys. old ++ flat_map f ys) (sym (take_more xs i d lt))

-- a list that is found empty has no elements
pub nothing_of : {X : Type 0} (xs : List X) (b : Bool) → b ≡ (length xs == 0) → b ≡ true → xs ≡ []
nothing_of [] b is e = refl
nothing_of (x ∷ xs) b is e = absurd (omega (arith, eqb-true (length (x ∷ xs)) 0 (sym is ∙ e)))
