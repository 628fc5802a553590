-- The tokens of bytes as the reader sees them. Only its private functions cite this: what a
-- text is, the grammar says alone.
use Rattle.std.specs.Prelude.{ℕ, ℤ, ◌≡◌, ◌<◌, ◌≤◌, List, ◌∷◌, drop, length, map}
use Rattle.wkt_form.specs.declared.number.Number.TheVariants.{Whole}
use Rattle.wkt_form.specs.declared.token.Symbol.{Symbol}
use Rattle.wkt_form.specs.declared.token.Symbol.TheVariants as symbols
use Rattle.wkt_form.specs.declared.token.Token as code
use Rattle.wkt_form.specs.Token.{Token, tokens_from}
use Rattle.wkt_form.specs.Grammar.{in_upper_case}
use Rattle.wkt_form.specs.Symbol.{symbol_of}

abbrev pub seen_token : Token → code.Token
seen_token t = record { at = t.at; symbol = symbol_of (in_upper_case t.kind) }

-- the tokens of bytes that begin at an offset
abbrev pub seen_from : ℕ → List ℕ → List code.Token
seen_from at bytes = map seen_token (tokens_from at bytes)

-- the tokens from an offset on are one of this symbol, and those from a later offset on
pub record IsNext (symbol : Symbol) (bytes : List ℕ) (at after : ℕ) : Type 0 where
  pub offset : ℕ
  pub seen : seen_from at (drop at bytes) ≡ record { at = offset; symbol = symbol } ∷ seen_from after (drop after bytes)
  pub on : at < after
  pub within : after ≤ length bytes

-- the tokens from an offset on are the numbers of a point and a comma, and those from a later offset on
pub record IsNextPoint (x y : ℤ) (bytes : List ℕ) (at after : ℕ) : Type 0 where
  pub after_x : ℕ
  pub after_y : ℕ
  pub first : IsNext (symbols.Number (Whole x)) bytes at after_x
  pub second : IsNext (symbols.Number (Whole y)) bytes after_x after_y
  pub comma : IsNext symbols.Comma bytes after_y after
