-- The grammar of expressions, by what is written: names, brackets, and operations that group to the left, `&` tighter
-- than the others.
use Rattle.std.specs.Prelude.{◌≡◌, ℕ, ◌+◌, ◌<◌, ◌≤◌, ◌⊎◌, Bool, false, true, not, IsTrue, ◌&&◌, List, []}
use Rattle.std.specs.Prelude.{◌∷◌, ◌++◌, map, length, take, slice_get, All, Option, Some, None, nat_le}
use Rattle.overlay_terms.specs.Trees.{Operation, intersection, union, difference, sym_difference, Tree, leaf, combine}
use Rattle.layer_expr.specs.declared.fault.ExprFault.{ExprFault}
use Rattle.layer_expr.specs.declared.fault.ExprFault.TheVariants.{ExprSyntax, ExprTooLong, BadName}
use Rattle.layer_expr.specs.Name.{name_max}
use Rattle.layer_expr.specs.Token.{Kind, name, operator, open_bracket, close_bracket, Token, tokens_of}

-- the most tokens of an expression
abbrev pub tokens_max : ℕ
tokens_max = 64

-- an expression with the brackets that are written
pub data Written : Type 0 where
  a_name : List ℕ → Written
  in_brackets : Written → Written
  joined : Operation → Written → Written → Written

-- whether an operator is `&`, which binds tighter than the others
abbrev pub is_intersection : Operation → Bool
is_intersection intersection = true
is_intersection other = false

-- atom := name | '(' sum ')'; product := atom ('&' atom)*; sum := product (('|' | '-' | '^') product)*. How loosely
-- what is written binds: an atom, a product of at least two atoms, a sum of at least two products
pub data Level : Type 0 where
  atom : Level
  product : Level
  sum : Level

-- what is joined by `&` is a product, what is joined by another operator a sum; a name, or what is in brackets, is an atom
abbrev pub level_of : Written → Level
level_of (a_name n) = atom
level_of (in_brackets w) = atom
level_of (joined o l r) = by_operation o where
  by_operation : Operation → Level
  by_operation intersection = product
  by_operation other = sum

-- whether it is a name, or is in brackets
abbrev pub is_atom : Level → Bool
is_atom atom = true
is_atom other = false

-- whether its outermost operator is `|`, `-` or `^`
abbrev pub is_sum : Level → Bool
is_sum sum = true
is_sum other = false

-- whether what is written groups as the grammar says: the left operand of `&` is no sum and the right one an atom; the
-- right operand of another operator is no sum
abbrev pub is_grouped : Written → Bool
is_grouped (a_name n) = true
is_grouped (in_brackets w) = is_grouped w
is_grouped (joined o l r) = is_grouped l && is_grouped r && by_operation o where
  by_operation : Operation → Bool
  by_operation intersection = not (is_sum (level_of l)) && is_atom (level_of r)
  by_operation other = not (is_sum (level_of r))

-- the tokens of what is written
abbrev pub written_kinds : Written → List Kind
written_kinds (a_name n) = name n ∷ []
written_kinds (in_brackets w) = open_bracket ∷ written_kinds w ++ close_bracket ∷ []
written_kinds (joined o l r) = written_kinds l ++ operator o ∷ written_kinds r

-- the expression, without its brackets
abbrev pub written_tree : Written → Tree (List ℕ)
written_tree (a_name n) = leaf n
written_tree (in_brackets w) = written_tree w
written_tree (joined o l r) = combine o (written_tree l) (written_tree r)

-- tokens without their offsets
abbrev pub kinds_of : List Token → List Kind
kinds_of tokens = map (λ (t : Token). t.kind) tokens

-- the tokens are those of what is written
pub record Spells (tokens : List Token) (written : Written) : Type 0 where
  pub grouped : IsTrue (is_grouped written)
  pub spelled : kinds_of tokens ≡ written_kinds written

-- the tokens are those of a whole expression
abbrev pub IsSum : List Token → Type 0
IsSum tokens = (written : Written) × Spells tokens written

-- the tokens may begin an expression: with some more they are one
abbrev pub IsBegun : List Token → Type 0
IsBegun tokens = (more : List Token) × IsSum (tokens ++ more)

-- whether a token is no name of more than 32 bytes
abbrev pub is_name_short : Token → Bool
is_name_short token = by_kind token.kind where
  by_kind : Kind → Bool
  by_kind (name n) = nat_le (length n) name_max
  by_kind kind = true

-- no token so far is at fault
pub record IsGoodSoFar (tokens : List Token) : Type 0 where
  pub begun : IsBegun tokens
  pub few : length tokens ≤ tokens_max
  pub names : All (λ token. IsTrue (is_name_short token)) tokens

-- the token at an index is the first at fault: it is one too many; it cannot come there; it is too long a name. At the
-- end of the tokens the expression is not whole, and the fault is reported at the length of the bytes
abbrev pub IsFaultAt : List ℕ → ℕ → Option Token → ExprFault → Type 0
IsFaultAt bytes i None fault = ¬ (IsSum (tokens_of bytes)) × (fault ≡ ExprSyntax (length bytes))
IsFaultAt bytes i (Some token) fault =
    ((i ≡ tokens_max) × (fault ≡ ExprTooLong))
    ⊎ ((i < tokens_max) × ¬ (IsBegun (take (i + 1) (tokens_of bytes))) × (fault ≡ ExprSyntax token.at))
    ⊎ ((i < tokens_max) × IsBegun (take (i + 1) (tokens_of bytes)) × (is_name_short token ≡ false) × (fault ≡ BadName))

-- the bytes are refused by their first fault
abbrev pub IsRefusedBy : List ℕ → ExprFault → Type 0
IsRefusedBy bytes fault =
    (i : ℕ) × IsGoodSoFar (take i (tokens_of bytes)) × IsFaultAt bytes i (slice_get (tokens_of bytes) i) fault

-- the bytes are an expression
abbrev pub ReadsAs : List ℕ → Tree (List ℕ) → Type 0
ReadsAs bytes tree =
    (written : Written) × Spells (tokens_of bytes) written × IsGoodSoFar (tokens_of bytes) × (tree ≡ written_tree written)
