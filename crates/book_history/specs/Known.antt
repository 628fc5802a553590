-- What a session knows.
use Rattle.std.specs.Prelude.{◌≡◌, ◌⊎◌, ℕ, List}
use Rattle.logbook.specs.Pages.{Book}
use Rattle.overlay_terms.specs.Batches.{Batch}
use Rattle.overlay_terms.specs.Histories.{Entry, History, commands_of}
use Rattle.book_history.specs.Logs.{history_of}

-- which book it is of, its number, the log that it has seen, and the batches that it made
pub record Known : Type 0 where
  pub book : Book
  pub session : ℕ
  pub log : List Entry
  pub made : List Batch

-- the history that a session has seen
abbrev pub seen : Known → History
seen known = history_of known.log

-- the batches of a session in what it has seen are those that it made
abbrev pub IsOwn : Known → Type 0
IsOwn known = commands_of known.session (seen known).entries ≡ known.made

-- a refusal leaves a session so: as it was, where the fault is that the book is gone; else it made nothing, and its
-- batches in what it has seen are those that it made
abbrev pub LeavesSession : {F : Type 0} → F → Known → Known → F → Type 0
LeavesSession gone was now fault =
    ((fault ≡ gone) × (now ≡ was)) ⊎ (¬ (fault ≡ gone) × (now.made ≡ was.made) × IsOwn now)
