-- The rule of the history, and what its steps say.
use Rattle.std.specs.Prelude.{ℕ, ◌≡◌, ◌==◌, suc, true, List, [], ◌∷◌, ◌++◌, length, MatchBool}
use Rattle.logbook.specs.Pages.{Cell, Step, View, Book, Named}
use Rattle.overlay_terms.specs.Histories.{Entry}
use Rattle.book_history.specs.Logs.{IsLog}

-- the word is the number of entries after the first
pub record IsLogKept (cells : List Cell) (log : List Entry) : Type 0 where
  pub more : ℕ
  pub words : cells ≡ (more, true) ∷ []
  pub long : suc more ≡ length log
  pub legal : IsLog log

abbrev pub head_of : Book → Named
head_of b = record { tracked = true; key = 0; book = b }

-- the entry was added to all that had been seen; or the history was longer, and was seen
abbrev pub Adds : Step Entry → View Entry ℕ → ℕ → View Entry ℕ → Type 0
Adds s v found w = MatchBool (found == s.old) ((w.0 ≡ v.0 ++ s.ask ∷ []) × IsLog w.0) (IsLog w.0)
