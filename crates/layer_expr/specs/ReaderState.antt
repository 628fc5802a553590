-- Where a reader of tokens is after some of them. The reader cites this, and what a record of a definition spells:
-- what an expression is, the grammar says alone.
use Rattle.std.specs.Prelude.{ℕ, List, [], ◌∷◌, Option, Some, None, option_and_then}
use Rattle.overlay_terms.specs.Trees.{Operation, intersection, union, difference, sym_difference, Tree, leaf, combine}
use Rattle.layer_expr.specs.Token.{Kind, name, operator, open_bracket, close_bracket, stray}
use Rattle.layer_expr.specs.Grammar.{Written, a_name, in_brackets, joined}

-- how what is read is put together: from a name, from what is in brackets, from two operands
pub record Making (A : Type 0) : Type 0 where
  pub of_name : List ℕ → A
  pub of_brackets : A → A
  pub of_join : Operation → A → A → A

-- with the brackets that are written, and as a tree
abbrev pub written_making : Making Written
written_making = record { of_name = a_name; of_brackets = in_brackets; of_join = joined }

abbrev pub tree_making : Making (Tree (List ℕ))
tree_making = record { of_name = leaf; of_brackets = λ t. t; of_join = combine }

-- what waits within a pair of brackets for its right operand: a sum with its operator, and a product with its `&`
pub data Frame (A : Type 0) : Type 0 where
  frame : Option (Operation × A) → Option A → Frame A

-- the frames outside the open brackets, the innermost first, and what waits within: an
-- operand comes next, or it was read
pub data ReaderState (A : Type 0) : Type 0 where
  awaits : List (Frame A) → Option (Operation × A) → Option A → ReaderState A
  holds : List (Frame A) → Option (Operation × A) → A → ReaderState A

-- an operand after the product that waits for it, and a product after the sum that waits for it
abbrev pub times : {A : Type 0} → Making A → Option A → A → A
times m None a = a
times m (Some l) a = m.of_join intersection l a

abbrev pub plus : {A : Type 0} → Making A → Option (Operation × A) → A → A
plus m None p = p
plus m (Some left) p = m.of_join left.0 left.1 p

-- after an operator
abbrev pub after_operator : {A : Type 0} → Making A → Operation → List (Frame A) → Option (Operation × A) → A → ReaderState A
after_operator m intersection outer left a = awaits outer left (Some a)
after_operator m union outer left a = awaits outer (Some (union, plus m left a)) None
after_operator m difference outer left a = awaits outer (Some (difference, plus m left a)) None
after_operator m sym_difference outer left a = awaits outer (Some (sym_difference, plus m left a)) None

-- after a closing bracket, if a bracket is open
abbrev pub closed : {A : Type 0} → Making A → List (Frame A) → A → Option (ReaderState A)
closed m [] a = None
closed m (frame left factor ∷ outer) a = Some (holds outer left (times m factor (m.of_brackets a)))

-- after one more token, if it can come there
abbrev pub moved : {A : Type 0} → Making A → Kind → ReaderState A → Option (ReaderState A)
moved m (name n) (awaits outer left factor) = Some (holds outer left (times m factor (m.of_name n)))
moved m (operator o) (awaits outer left factor) = None
moved m open_bracket (awaits outer left factor) = Some (awaits (frame left factor ∷ outer) None None)
moved m close_bracket (awaits outer left factor) = None
moved m stray (awaits outer left factor) = None
moved m (name n) (holds outer left a) = None
moved m (operator o) (holds outer left a) = Some (after_operator m o outer left a)
moved m open_bracket (holds outer left a) = None
moved m close_bracket (holds outer left a) = closed m outer (plus m left a)
moved m stray (holds outer left a) = None

-- after some more tokens
abbrev pub after_kinds : {A : Type 0} → Making A → Option (ReaderState A) → List Kind → Option (ReaderState A)
after_kinds m s [] = s
after_kinds m s (k ∷ ks) = after_kinds m (option_and_then (moved m k) s) ks

abbrev pub at_start : {A : Type 0} → ReaderState A
at_start = awaits [] None None

-- the whole, if the tokens may end here
abbrev pub finished : {A : Type 0} → Making A → ReaderState A → Option A
finished m (awaits outer left factor) = None
finished m (holds [] left a) = Some (plus m left a)
finished m (holds (f ∷ outer) left a) = None
