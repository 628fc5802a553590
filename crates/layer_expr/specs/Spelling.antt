-- The one text that is written for an expression: one space on each side of an operator, and brackets
-- only where the tree needs them.
use Rattle.std.specs.Prelude.{ℕ, ◌≤◌, Bool, not, ◌&&◌, IsTrue, List, ◌++◌, length, codes, if◌then◌else◌}
use Rattle.std.specs.List.{list_all}
use Rattle.overlay_terms.specs.Trees.{Operation, intersection, union, difference}
use Rattle.overlay_terms.specs.Trees.{sym_difference, Tree, leaf, combine, leaves}
use Rattle.layer_expr.specs.Name.{is_name}
use Rattle.layer_expr.specs.Grammar.{Written, a_name, in_brackets, joined, Level, is_intersection}
use Rattle.layer_expr.specs.Grammar.{level_of, is_atom, is_sum, written_kinds, tokens_max}

-- what is written, in brackets where they are needed
abbrev pub bracketed_if : Bool → Written → Written
bracketed_if needed w = if needed then in_brackets w else w

-- a left operand needs brackets where it is a sum under `&`
abbrev pub left_needs_brackets : Operation → Level → Bool
left_needs_brackets o level = is_intersection o && is_sum level

-- a right operand needs them where it is a sum, and where it is a product under `&`
abbrev pub right_needs_brackets : Operation → Level → Bool
right_needs_brackets o level = if is_intersection o then not (is_atom level) else is_sum level

-- an expression with the brackets that it needs
abbrev pub canonical : Tree (List ℕ) → Written
canonical (leaf n) = a_name n
canonical (combine o l r) =
    joined o (bracketed_if (left_needs_brackets o (level_of (canonical l))) (canonical l)) (bracketed_if (right_needs_brackets o (level_of (canonical r))) (canonical r))

-- an operator is written with a space on each side
abbrev pub operation_text : Operation → List ℕ
operation_text intersection = codes " & "
operation_text union = codes " | "
operation_text difference = codes " - "
operation_text sym_difference = codes " ^ "

-- what is written, as bytes
abbrev pub written_text : Written → List ℕ
written_text (a_name n) = n
written_text (in_brackets w) = codes "(" ++ (written_text w ++ codes ")")
written_text (joined o l r) = written_text l ++ (operation_text o ++ written_text r)

-- the bytes of an expression, with the brackets that it needs and no others
abbrev pub expression_text : Tree (List ℕ) → List ℕ
expression_text tree = written_text (canonical tree)

-- an expression over layers: each leaf is a name, and what is written has at most 64 tokens
abbrev pub IsExpression : Tree (List ℕ) → Type 0
IsExpression tree = IsTrue (list_all is_name (leaves tree)) × (length (written_kinds (canonical tree)) ≤ tokens_max)
