-- What was published since a version, and whether a later version's tiles are all its own.
use Rattle.std.specs.Prelude.{◌≡◌, ℕ, ◌+◌, ◌≤◌, ◌==◌, List, [], length, filter_map, Option, Some, None, if◌then◌else◌}
use Rattle.overlay_terms.specs.Layers.{Name}
use Rattle.overlay_terms.specs.Histories.{Tile, Finished, tile_at, Version, Event, accepted}
use Rattle.overlay_terms.specs.Histories.{kept, durable_to, Entry, AllFollow, last_version}
use Rattle.commit_plan.specs.Staying.{LiveContent}
use Rattle.logbook.specs.Pages.{Book}
use Rattle.book_history.specs.BookLogs.{BookLog}
use Rattle.book_history.specs.Logs.{newest_in}

-- the tile that an event keeps
abbrev pub tile_kept : Event → Option Finished
tile_kept (accepted session batch) = None
tile_kept (kept name column tile) = Some (record { name = name; column = column; tile = tile })
tile_kept (durable_to number) = None

-- the tiles that were kept in some entries, in order
abbrev pub kept_in : List Entry → List Finished
kept_in entries = filter_map (λ (e : Entry). tile_kept e.event) entries

-- the number that an event reports durable
abbrev pub number_reported : Event → Option ℕ
number_reported (durable_to number) = Some number
number_reported event = None

-- the numbers that were reported durable in some entries, in order
abbrev pub reported_in : List Entry → List ℕ
reported_in entries = filter_map (λ (e : Entry). number_reported e.event) entries

-- each tile of a later version is the earlier one's
abbrev pub HasTilesOf : Version → Version → Type 0
HasTilesOf old new =
    (name : Name) (k : ℕ) (tile : Tile) → tile_at new.tiles name k ≡ Some tile → tile_at old.tiles name k ≡ Some tile

-- they are where none was kept since: a batch adds no tile, nor does a report
abbrev pub TilesStay : Type 0
TilesStay = (version : Version) (entries : List Entry) → AllFollow version entries → kept_in entries ≡ []
    → HasTilesOf version (last_version version entries)

-- the one report that is known of, where two versions differ in what is durable
abbrev pub reports_between : Version → Version → ℕ
reports_between old new = if old.durable == new.durable then 0 else 1

-- no more entries lie between two versions than the number rose, but for a report
abbrev pub AreFew : Version → ℕ → Version → Type 0
AreFew old entries new = old.number + entries ≤ new.number + reports_between old new

-- then no tile was kept between them; and they are that few wherever none was, and at most one number was reported
pub record AreReportedByNumbers (version : Version) (entries : List Entry) : Type 0 where
  pub none : AreFew version (length entries) (last_version version entries) → kept_in entries ≡ []
  pub few : kept_in entries ≡ [] → length (reported_in entries) ≤ 1
      → AreFew version (length entries) (last_version version entries)

abbrev pub NumbersTell : Type 0
NumbersTell = (version : Version) (entries : List Entry) → AllFollow version entries → AreReportedByNumbers version entries

-- what is remembered of a root: its tiles are those of the version that ends a log of the store's book
abbrev pub IsRemembered : Book → LiveContent → Option BookLog → Type 0
IsRemembered book root None = Unit {0}
IsRemembered book root (Some mark) = (mark.book ≡ book) × (root.tiles ≡ (newest_in mark.log).tiles)
