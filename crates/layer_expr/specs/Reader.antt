-- Where the reader of the code is, and how a step of it is refused.
use Rattle.std.specs.Prelude.{◌≡◌, ◌⊎◌, ℕ, Bool, true, false, List, reverse, map, Option, Some, None, is_some, IsTrue}
use Rattle.overlay_terms.specs.Trees.{Tree}
use Rattle.overlay_terms.specs.Trees as terms
use Rattle.layer_expr.specs.Name.{is_name}
use Rattle.layer_expr.specs.Expr.{operation, tree}
use Rattle.layer_expr.specs.Token.{Kind, name, operator, open_bracket, close_bracket, stray}
use Rattle.layer_expr.specs.ReaderState.{tree_making, after_operator, moved, finished, frame, awaits, holds}
use Rattle.layer_expr.specs.ReaderState as pure
use Rattle.layer_expr.specs.declared.expr.Node.{Node}
use Rattle.layer_expr.specs.declared.expr.Operation.{Operation}
use Rattle.layer_expr.specs.declared.fault.ExprFault.{ExprFault}
use Rattle.layer_expr.specs.declared.fault.ExprFault.TheVariants.{ExprSyntax, BadName, OutOfMemory}
use Rattle.layer_expr.specs.declared.reader.Left.{Left}
use Rattle.layer_expr.specs.declared.reader.Frame.{Frame}
use Rattle.layer_expr.specs.declared.reader.Within.{Within}
use Rattle.layer_expr.specs.declared.reader.Within.TheVariants.{Awaits, Holds}
use Rattle.layer_expr.specs.declared.reader.Reader.{Reader}

abbrev pub left_tree : Option Left → Option (terms.Operation × Tree (List ℕ))
left_tree None = None
left_tree (Some left) = Some (operation left.operation, tree left.operand)

abbrev pub factor_tree : Option Node → Option (Tree (List ℕ))
factor_tree None = None
factor_tree (Some node) = Some (tree node)

abbrev pub frame_tree : Frame → pure.Frame (Tree (List ℕ))
frame_tree f = frame (left_tree f.left) (factor_tree f.factor)

-- the frames of the open brackets, the innermost first
abbrev pub outer_trees : List Frame → List (pure.Frame (Tree (List ℕ)))
outer_trees frames = reverse (map frame_tree frames)

abbrev pub within_state : List (pure.Frame (Tree (List ℕ))) → Within → pure.ReaderState (Tree (List ℕ))
within_state outer (Awaits left factor) = awaits outer (left_tree left) (factor_tree factor)
within_state outer (Holds left operand) = holds outer (left_tree left) (tree operand)

abbrev pub state_of : Reader → pure.ReaderState (Tree (List ℕ))
state_of reader = within_state (outer_trees reader.outer.items) reader.within

-- what waits after an operator, whatever is open round it
abbrev pub IsAfterOperator : Operation → Option Left → Node → Within → Type 0
IsAfterOperator o left operand within =
    (outer : List (pure.Frame (Tree (List ℕ))))
    → within_state outer within ≡ after_operator tree_making (operation o) outer (left_tree left) (tree operand)

-- whether a token that is a name is a name of a layer
abbrev pub is_good : Kind → Bool
is_good (name n) = is_name n
is_good (operator o) = true
is_good open_bracket = true
is_good close_bracket = true
is_good stray = true

-- a reader after one more token of a kind, which can come there and, if it is a name, is a name of a layer
abbrev pub IsNext : Kind → Reader → Reader → Type 0
IsNext kind old new = (moved tree_making kind (state_of old) ≡ Some (state_of new)) × IsTrue (is_good kind)

-- memory ran out, or the token cannot come there, or it could but is no name of a layer
abbrev pub IsStepFault : Kind → ℕ → pure.ReaderState (Tree (List ℕ)) → ExprFault → Type 0
IsStepFault kind at s fault =
    (fault ≡ OutOfMemory)
    ⊎ ((fault ≡ ExprSyntax at) × (moved tree_making kind s ≡ None))
    ⊎ ((fault ≡ BadName) × (is_good kind ≡ false) × IsTrue (is_some (moved tree_making kind s)))

-- memory ran out, or the expression is not whole
abbrev pub IsEndFault : ℕ → pure.ReaderState (Tree (List ℕ)) → ExprFault → Type 0
IsEndFault at s fault =
    (fault ≡ OutOfMemory) ⊎ ((fault ≡ ExprSyntax at) × (finished tree_making s ≡ None))
