-- The tokens of a Well-Known Text: words, runs of number bytes, brackets and commas, with white space between.
use Rattle.std.specs.Prelude.{ℕ, ◌+◌, ◌==◌, Bool, ◌||◌, List, [], ◌∷◌, if◌then◌else◌}
use Rattle.std.specs.Char.{is_ascii_alphabetic, is_ascii_digit}
use Rattle.overlay_terms.specs.Blank.{is_blank}
use Rattle.overlay_terms.specs.Bytes.{begins}
use Rattle.wkt_form.specs.Number.{is_sign, is_point}

-- a word, a run of digits, signs and points, a bracket, a comma, or a byte that begins no token
pub data Kind : Type 0 where
  word : List ℕ → Kind
  run : List ℕ → Kind
  open_bracket : Kind
  close_bracket : Kind
  comma : Kind
  stray : Kind

-- a token and the offset of its first byte
pub record Token : Type 0 where
  pub at : ℕ
  pub kind : Kind

-- digits, signs and points make a run
abbrev pub is_run_byte : ℕ → Bool
is_run_byte b = is_ascii_digit b || is_sign b || is_point b

-- a byte before a word or a run makes it longer
abbrev pub longer : ℕ → Kind → Kind
longer b (word bs) = word (b ∷ bs)
longer b (run bs) = run (b ∷ bs)
longer b kind = kind

-- a byte before the first token makes that token longer, which then begins at the byte's offset
abbrev pub first_longer : ℕ → ℕ → List Token → List Token
first_longer at b [] = []
first_longer at b (t ∷ ts) = record { at = at; kind = longer b t.kind } ∷ ts

-- the tokens of bytes that begin at an offset: words and runs are as long as can be
abbrev pub tokens_from : ℕ → List ℕ → List Token
tokens_from at [] = []
tokens_from at (b ∷ bs) =
    let rest = tokens_from (at + 1) bs in
    if is_blank b then rest
    else (if is_ascii_alphabetic b then (if begins is_ascii_alphabetic bs then first_longer at b rest else record { at = at; kind = word (b ∷ []) } ∷ rest)
    else (if is_run_byte b then (if begins is_run_byte bs then first_longer at b rest else record { at = at; kind = run (b ∷ []) } ∷ rest)
    else (if b == 40 then record { at = at; kind = open_bracket } ∷ rest
    else (if b == 41 then record { at = at; kind = close_bracket } ∷ rest
    else (if b == 44 then record { at = at; kind = comma } ∷ rest
    else record { at = at; kind = stray } ∷ rest)))))

-- the tokens of a whole text, each with its offset from the text's beginning
abbrev pub tokens_of : List ℕ → List Token
tokens_of bytes = tokens_from 0 bytes
