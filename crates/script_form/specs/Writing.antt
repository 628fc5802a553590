-- What a call appends to a writer, whether its writes fail or not.
use Rattle.std.specs.Prelude.{◌≡◌, ℕ, ◌<◌, List, ◌++◌, length, Option, Result, MatchResult}
use Rattle.std.specs.Io.KnownBytes.{Appends}

-- a front of a text that lacks at least its last byte
pub record IsCutShort (text front : List ℕ) : Type 0 where
  pub unwritten : List ℕ
  pub split : text ≡ front ++ unwritten
  pub lost : 0 < length unwritten

-- a text is written whole, or a write failed and a front of it is written that lacks at least its last byte
abbrev pub Writes : {A E : Type 0} → Result A E → Option (List ℕ) → Option (List ℕ) → List ℕ → Type 0
Writes result old new text =
    MatchResult result (λ _. Appends old new text) (λ _. (front : List ℕ) × IsCutShort text front × Appends old new front)
