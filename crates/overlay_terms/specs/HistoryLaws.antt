-- Laws over histories: what the newest version is, by its start and the accepted batches.
use Rattle.std.specs.Prelude.{◌≡◌, ℕ, ◌+◌, ◌==◌, List, map, filter, fold, length}
use Rattle.overlay_terms.specs.Batches.{Batch, applied_all, AllBatchesAccepted}
use Rattle.overlay_terms.specs.Histories.{Version, Entry, History, IsHistory, newest}
use Rattle.overlay_terms.specs.Histories.{commands_in, commands_of, accepted_in}

-- a version is an earlier one with batches made: each is accepted by the layers before it,
-- changes them, and counts as one
pub record IsWithCommands (start : Version) (batches : List Batch) (version : Version) : Type 0 where
  pub accepted : AllBatchesAccepted start.layers batches
  pub number : version.number ≡ start.number + length batches
  pub layers : version.layers ≡ fold applied_all start.layers batches

-- the newest version of a history is its start with the accepted batches of all sessions made
abbrev pub NewestHasCommands : Type 0
NewestHasCommands =
    (history : History) → IsHistory history
    → IsWithCommands history.start (accepted_in history.entries) (newest history)

-- the batches of a session are those among all that are listed with its number
abbrev pub OwnAreAmongAll : Type 0
OwnAreAmongAll =
    (session : ℕ) (entries : List Entry)
    → commands_of session entries ≡ map (λ c. c.1) (filter (λ c. c.0 == session) (commands_in entries))
