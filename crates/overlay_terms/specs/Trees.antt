-- Expressions over layers, and lists of definitions that name one another by number.
use Rattle.std.specs.Prelude.{ℕ, ◌-◌, ◌&&◌, ◌||◌, [], ◌∷◌, ◌++◌, if◌then◌else◌, ◌==◌}
use Rattle.std.specs.Prelude.{Bool, false, not, List, fold, slice_get, unwrap_or}
use Rattle.std.specs.Int.{bit_at}

-- the set operations of ISO 19125-1:2004, 6.1.2.4: Intersection, Union, Difference and SymDifference
pub data Operation : Type 0 where
  intersection : Operation
  union : Operation
  difference : Operation
  sym_difference : Operation

-- what an operation gives at a point, from what its operands are there
abbrev pub combined : Operation → Bool → Bool → Bool
combined intersection l r = l && r
combined union l r = l || r
combined difference l r = l && not r
combined sym_difference l r = if l then not r else r

-- an expression over leaves of any type
pub data Tree (A : Type 0) : Type 0 where
  leaf : A → Tree A
  combine : Operation → Tree A → Tree A → Tree A

-- what an expression is, where each leaf is true or false
abbrev pub truth : {A : Type 0} → (A → Bool) → Tree A → Bool
truth at (leaf a) = at a
truth at (combine o l r) = combined o (truth at l) (truth at r)

-- the leaves, from left to right
abbrev pub leaves : {A : Type 0} → Tree A → List A
leaves (leaf a) = a ∷ []
leaves (combine o l r) = leaves l ++ leaves r

-- the same expression over other leaves
abbrev pub relabel : {A B : Type 0} → (A → B) → Tree A → Tree B
relabel f (leaf a) = leaf (f a)
relabel f (combine o l r) = combine o (relabel f l) (relabel f r)

-- what a leaf is: whether a base layer has the point (its bit), or an earlier definition, by its number
pub data Source : Type 0 where
  base_bit : ℕ → Source
  definition : ℕ → Source

-- how many base layers there are, and definitions over them in order
pub record Steps : Type 0 where
  pub bases : ℕ
  pub definitions : List (Tree Source)

-- what a leaf is, from the bits of the base layers and the definitions so far
abbrev pub source_value : (ℕ → Bool) → List Bool → Source → Bool
source_value bits known (base_bit k) = bits k
source_value bits known (definition k) = unwrap_or (slice_get known k) false

-- what each definition is, in order
abbrev pub definition_values : (ℕ → Bool) → List (Tree Source) → List Bool
definition_values bits definitions = fold (λ known t. known ++ truth (source_value bits known) t ∷ []) [] definitions

-- the last value of a list; the given one where the list is empty
abbrev pub last_or : Bool → List Bool → Bool
last_or b [] = b
last_or b (x ∷ xs) = last_or x xs

-- what the last definition is, or the last base layer where nothing is defined (a derived layer has a definition)
abbrev pub steps_value : Steps → (ℕ → Bool) → Bool
steps_value steps bits = last_or (bits (steps.bases - 1)) (definition_values bits steps.definitions)

-- the bits of a mask
abbrev pub mask_bits : ℕ → ℕ → Bool
mask_bits mask k = bit_at mask k == 1
