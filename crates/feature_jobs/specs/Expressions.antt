-- What a job's expression is at a point, over what its layers are there: of two features and the core, or of a block's layers.
use Rattle.std.specs.Prelude.{◌≡◌, ℕ, zero, suc, ◌+◌, ◌/◌, ◌%◌, Bool, false, not, ◌&&◌, List, [], ◌∷◌, ◌++◌, map, Some, None, codes}
use Rattle.overlay_terms.specs.Trees.{Tree, leaf, combine, intersection, truth, Steps, steps_value}
use Rattle.overlay_terms.specs.Layers.{Name, named}
use Rattle.layer_expr.specs.Grammar.{ReadsAs}
use Rattle.layer_expr.specs.StepList.{Reached, evaluated}

-- what a layer of some layers with numbers is at a point
abbrev pub Bits : Type 0
Bits = ℕ → Bool

-- what the first of two features has, what both have, and what each has alone
abbrev pub of_first : Bits → Bool
of_first bits = bits 0

abbrev pub of_both : Bits → Bool
of_both bits = bits 0 && bits 1

abbrev pub first_alone : Bits → Bool
first_alone bits = bits 0 && not (bits 1)

abbrev pub second_alone : Bits → Bool
second_alone bits = bits 1 && not (bits 0)

-- steps are those of such a part, within the core, which is the third layer
abbrev pub AreInCore : (Bits → Bool) → Steps → Type 0
AreInCore part steps = (bits : Bits) → steps_value steps bits ≡ (part bits && bits 2)

-- what the names of two features and of the core are at a point
abbrev pub bits_of_two : Bits → Name → Bool
bits_of_two bits = named false ((codes "A", bits 0) ∷ (codes "B", bits 1) ∷ (codes "Core", bits 2) ∷ [])

-- steps are those of the expression that a text spells over two features and the core
pub record AreOfTwo (text : List ℕ) (steps : Steps) : Type 0 where
  pub asked : Tree Name
  pub spelled : ReadsAs text asked
  pub value : (bits : Bits) → steps_value steps bits ≡ truth (bits_of_two bits) asked

-- the name of a layer of a block: L and two letters by its number
abbrev pub layer_name : ℕ → Name
layer_name k = 76 ∷ (97 + k / 26) ∷ (97 + k % 26) ∷ []

-- the names of so many layers
abbrev pub layer_names : ℕ → List Name
layer_names zero = []
layer_names (suc k) = layer_names k ++ layer_name k ∷ []

-- a layer that is no expression
abbrev pub plain : Name → Reached
plain name = (name, None)

-- layers with these names, an expression over them, and another one over all of these
abbrev pub with_two : List Name → Tree Name → Tree Name → List Reached
with_two names asked last = (map plain names ++ (codes "Asked", Some asked) ∷ []) ++ (codes "Within", Some last) ∷ []

-- what of an expression lies in the core
abbrev pub within_core : Tree Name
within_core = combine intersection (leaf (codes "Core")) (leaf (codes "Asked"))

-- steps are those of the expression that a text spells over so many layers and the core, within that core
pub record AreAsked (text : List ℕ) (layers : ℕ) (steps : Steps) : Type 0 where
  pub asked : Tree Name
  pub spelled : ReadsAs text asked
  pub value : (bits : Bits) → steps_value steps bits ≡ evaluated (with_two (layer_names layers ++ codes "Core" ∷ []) asked within_core) bits
