-- A history as one log, whose first entry holds the version that the history begins with.
use Rattle.std.specs.Prelude.{◌≡◌, ℕ, List, [], ◌∷◌, ◌++◌}
use Rattle.overlay_terms.specs.Batches.{Batch}
use Rattle.overlay_terms.specs.Histories.{Version, Event, accepted, durable_to, Entry}
use Rattle.overlay_terms.specs.Histories.{History, AllFollow, GoesOnBy, newest}
use Rattle.overlay_terms.specs.Histories.{empty_version}

-- what happened, and the version after it
abbrev pub entry : Event → Version → Entry
entry event version = record { event = event; version = version }

-- the event of a first entry: a report of 0, which `history_of` drops
abbrev pub no_event : Event
no_event = durable_to 0

-- the history of a log
abbrev pub history_of : List Entry → History
history_of [] = record { start = empty_version; entries = [] }
history_of (first ∷ entries) = record { start = first.version; entries = entries }

-- a log of versions that follow one another
abbrev pub IsLog : List Entry → Type 0
IsLog [] = ⊥
IsLog (first ∷ entries) = (first.event ≡ no_event) × AllFollow first.version entries

-- the version of the last entry
abbrev pub newest_in : List Entry → Version
newest_in log = newest (history_of log)

-- a session's batch is accepted last, and its version has this number
pub record IsAccepted (session : ℕ) (before : History) (batch : Batch) (after : History) (number : ℕ) : Type 0 where
  pub between : List Entry
  pub version : Version
  pub goes_on : GoesOnBy before (between ++ entry (accepted session batch) version ∷ []) after
  pub numbered : version.number ≡ number
