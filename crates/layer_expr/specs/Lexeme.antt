-- The tokens as the code has them.
use Rattle.std.specs.Prelude.{ℕ, List, slice_range}
use Rattle.layer_expr.specs.Expr.{operation}
use Rattle.layer_expr.specs.Token.{Kind, name, operator, open_bracket, close_bracket, stray, Token}
use Rattle.layer_expr.specs.declared.lexeme.Sort.{Sort}
use Rattle.layer_expr.specs.declared.lexeme.Sort.TheVariants.{Name, Sign}
use Rattle.layer_expr.specs.declared.lexeme.Sign as code
use Rattle.layer_expr.specs.declared.lexeme.Sign.TheVariants.{Operator, OpenBracket, CloseBracket, Stray}
use Rattle.layer_expr.specs.declared.lexeme.Lexeme.{Lexeme}

abbrev pub kind_of_sign : code.Sign → Kind
kind_of_sign (Operator o) = operator (operation o)
kind_of_sign OpenBracket = open_bracket
kind_of_sign CloseBracket = close_bracket
kind_of_sign Stray = stray

-- a token of some bytes: a name has the bytes from its first to its end
abbrev pub kind_in : List ℕ → ℕ → ℕ → Sort → Kind
kind_in bytes at end Name = name (slice_range bytes at end)
kind_in bytes at end (Sign s) = kind_of_sign s

abbrev pub token_in : List ℕ → Lexeme → Token
token_in bytes lexeme = record { at = lexeme.at; kind = kind_in bytes lexeme.at lexeme.end lexeme.sort }
