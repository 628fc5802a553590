-- Which numbers a log may report durable.
use Rattle.std.specs.Prelude.{◌≡◌, ◌⊎◌, ℕ, List}
use mathlib.Core.List.{IsPrefix}
use Rattle.overlay_terms.specs.Histories.{Entry}
use Rattle.book_history.specs.Logs.{history_of, newest_in}

-- what may be reported of a beginning of a log: a number that was stored, or a fault for which a store failed
pub record MayBeReported {A : Type 0} (stored : List Entry → A → Type 0) (log : List Entry) (reported : A) : Type 0 where
  pub was : List Entry
  pub longer : IsPrefix was log
  pub holds : stored was reported

-- the number that a log reports durable is that of its first version, or was stored
abbrev pub ReportsStored : (List Entry → ℕ → Type 0) → List Entry → Type 0
ReportsStored stored log = ((newest_in log).durable ≡ (history_of log).start.durable) ⊎ MayBeReported stored log (newest_in log).durable
