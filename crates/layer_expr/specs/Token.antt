-- The tokens of an expression: names, operators and brackets, with white space between.
use Rattle.std.specs.Prelude.{ℕ, ◌+◌, ◌==◌, Bool, false, true, ◌&&◌, List, [], ◌∷◌, take_while, if◌then◌else◌}
use Rattle.std.specs.Char.{is_ascii_alphabetic}
use Rattle.overlay_terms.specs.Blank.{is_blank}
use Rattle.overlay_terms.specs.Trees.{Operation, intersection, union, difference, sym_difference}
use Rattle.layer_expr.specs.Name.{is_name_byte}

-- a name of any length, an operator, a bracket, or a byte that begins no token
pub data Kind : Type 0 where
  name : List ℕ → Kind
  operator : Operation → Kind
  open_bracket : Kind
  close_bracket : Kind
  stray : Kind

-- a token and the offset of its first byte
pub record Token : Type 0 where
  pub at : ℕ
  pub kind : Kind

-- `&`, `|`, `-`, `^`, the brackets, and any other byte
abbrev pub sign_kind : ℕ → Kind
sign_kind b =
    if b == 38 then operator intersection
    else (if b == 124 then operator union
    else (if b == 45 then operator difference
    else (if b == 94 then operator sym_difference
    else (if b == 40 then open_bracket
    else (if b == 41 then close_bracket else stray)))))

-- the tokens of bytes that begin at an offset, where a name may still be going on: a name begins with a
-- letter and is as long as can be
abbrev pub tokens_after : Bool → ℕ → List ℕ → List Token
tokens_after in_name at [] = []
tokens_after in_name at (b ∷ bs) =
    if in_name && is_name_byte b then tokens_after in_name (at + 1) bs
    else (if is_blank b then tokens_after false (at + 1) bs
    else (if is_ascii_alphabetic b then record { at = at; kind = name (take_while is_name_byte (b ∷ bs)) } ∷ tokens_after true (at + 1) bs
    else record { at = at; kind = sign_kind b } ∷ tokens_after false (at + 1) bs))

-- the tokens of a whole expression, each with its offset from the expression's beginning
abbrev pub tokens_of : List ℕ → List Token
tokens_of bytes = tokens_after false 0 bytes
