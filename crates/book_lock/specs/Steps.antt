-- What the lock's methods leave a token with.
use Rattle.std.specs.Prelude.{◌≡◌, ◌⊎◌, ◌++◌, ◌∷◌, ◌<◌, [], ℕ, zero, suc, Bool, true, false, IsTrue, List, None}
use mathlib.Core.List.{IsPrefix}
use Rattle.overlay_terms.specs.Histories as terms
use Rattle.overlay_terms.specs.Histories.{Tile, Entry, accepted, commands_of, kept, durable_to, tile_at, FollowsBatch, FollowsTile, FollowsReport, StaysAtReport}
use Rattle.overlay_terms.specs.Batches.{Batch}
use Rattle.overlay_terms.specs.Layers.{Name}
use Rattle.overlay_terms.specs.Tiles.{Input}
use Rattle.versions.specs.Finish.{IsAwaited}
use Rattle.book_history.specs.Known.{Known}
use Rattle.book_history.specs.Logs.{entry, newest_in, IsLog}
use Rattle.book_history.specs.BookLogs.{BookLog}
use Rattle.book_lock.specs.declared.refused.Refused.{Refused}
use Rattle.book_lock.specs.declared.refused.Refused.TheVariants.{Gone, Closing, Version}

-- a session has looked: it has seen this log, which goes on from what it saw; its batches there are those that it made
pub record HasLooked (was : Known) (log : List Entry) (now : Known) : Type 0 where
  pub longer : IsPrefix was.log log
  pub knows : now ≡ record { book = was.book; session = was.session; log = log; made = was.made }
  pub own : commands_of was.session log ≡ was.made
  pub valid : IsLog log

-- a session's batch is accepted: its entry is added to a log that goes on from what the session saw, the newest version
-- then has this number, and the session has seen all of it and made the batch
pub record IsAcceptedIn (log : List Entry) (was : Known) (batch : Batch) (after : List Entry) (now : Known) (number : ℕ) : Type 0 where
  pub longer : IsPrefix was.log log
  pub follows : FollowsBatch (newest_in log) batch (newest_in after)
  pub added : after ≡ log ++ entry (accepted was.session batch) (newest_in after) ∷ []
  pub numbered : (newest_in after).number ≡ number
  pub knows : now ≡ record { book = was.book; session = was.session; log = after; made = was.made ++ batch ∷ [] }
  pub own : commands_of was.session after ≡ was.made ++ batch ∷ []
  pub valid : IsLog after

-- a session is turned away: it has looked, and gets the reason; or the log is behind what it saw, and nothing changed
abbrev pub IsTurnedAway : {F : Type 0} → List Entry → Known → Refused F → Refused F → Known → Type 0
IsTurnedAway log was why refused now =
    ((refused ≡ why) × HasLooked was log now) ⊎ ((refused ≡ Gone) × (now ≡ was))

-- what a session submits is refused: the book is gone, and nothing changed; or it closes, where it may, or its newest
-- version refuses that, and the session has looked
abbrev pub IsRefusedIn : {F : Type 0} → List Entry → Known → (terms.Version → F → Type 0) → Bool → Refused F → Known → Type 0
IsRefusedIn log was refuses closing Gone now = now ≡ was
IsRefusedIn log was refuses closing Closing now = IsTrue closing × HasLooked was log now
IsRefusedIn log was refuses closing (Version fault) now = refuses (newest_in log) fault × HasLooked was log now

-- a built tile that is awaited is kept, by its entry; or it is not awaited, nor is it there, and nothing changes
abbrev pub IsFinishedIn : List Entry → Name → Input → Tile → Bool → List Entry → Type 0
IsFinishedIn log name input tile true after =
    IsAwaited (newest_in log) name input × FollowsTile (newest_in log) name input.column tile (newest_in after)
    × (after ≡ log ++ entry (kept name input.column tile) (newest_in after) ∷ [])
IsFinishedIn log name input tile false after =
    ¬ (IsAwaited (newest_in log) name input) × (tile_at (newest_in log).tiles name input.column ≡ None) × (after ≡ log)

-- built tiles are finished one after another
abbrev pub AreFinishedIn : List Entry → Name → List (Input × Tile) → List Entry → Type 0
AreFinishedIn log name [] after = after ≡ log
AreFinishedIn log name (built ∷ more) after =
    (is_kept : Bool) × (next : List Entry) × IsFinishedIn log name built.0 built.1 is_kept next × AreFinishedIn next name more after

-- a report of a number adds its entry, or it changes nothing and so adds none
abbrev pub IsReportedIn : List Entry → ℕ → List Entry → Type 0
IsReportedIn log number after =
    (FollowsReport (newest_in log) number (newest_in after)
    × (after ≡ log ++ entry (durable_to number) (newest_in after) ∷ []))
    ⊎ (StaysAtReport (newest_in log) number (newest_in after) × (after ≡ log))

-- the sessions that a book begins with: each has another number, has seen this log, and made nothing
abbrev pub beginners : BookLog → ℕ → List Known
beginners book_log zero = []
beginners book_log (suc n) =
    beginners book_log n ++ record { book = book_log.book; session = n; log = book_log.log; made = [] } ∷ []

-- a log has all that a session has seen, and of its batches just those that it made
pub record HasAllOf (log : List Entry) (session : Known) : Type 0 where
  pub longer : IsPrefix session.log log
  pub own : commands_of session.session log ≡ session.made

-- a log is level with a session: it has all of it, and the book counts its batches
pub record IsLevel (log : List Entry) (session : Known) : Type 0 where
  pub has_all : HasAllOf log session
  pub seat : session.session < 4
