-- A tile that can be handed out, and one that is: what it is to be built from.
use Rattle.std.specs.Prelude.{◌≡◌, Bool, List, false, refl}
use Rattle.std.specs.Coded.{Coded, code_by, coded_list, coded×}
use mathlib.Core.List.{IsPrefix}
use Rattle.logbook.specs.Pages.{Book, book_coded}
use Rattle.overlay_terms.specs.Histories.{Entry, Tile, Version}
use Rattle.overlay_terms.specs.InputCode.{input_code}
use Rattle.overlay_terms.specs.Layers.{Name}
use Rattle.overlay_terms.specs.Tiles.{Input, input_of}
use Rattle.versions.specs.Finish.{IsPending}
use Rattle.overlay_terms.specs.CommandCode.{name_code}
use Rattle.book_history.specs.Codes.{entry_code}
use Rattle.book_history.specs.Logs.{newest_in, IsLog}
use Rattle.book_lock.specs.Steps.{IsFinishedIn}
use Rattle.version_book.specs.HeldTiles.{is_held}
use Rattle.version_book.specs.declared.held_tiles.HeldTile.{HeldTile}

-- which book a job is of, the log at which it was handed out, the name of its layer, and what its tile is built from
pub record Handed : Type 0 where
  pub book : Book
  pub log : List Entry
  pub name : Name
  pub input : Input

-- the tile was pending in the newest version of the log, and this was its input there
pub record IsJob (job : Handed) : Type 0 where
  pub valid : IsLog job.log
  pub pending : IsPending (newest_in job.log) job.name job.input.column
  pub present : job.input ≡ input_of (newest_in job.log).layers job.name job.input.column

-- a job was spent with a tile, at a log that goes on from that of the job: where the tile was awaited there, the last
-- entry now keeps it; where not, the log stayed as it was
pub record IsFinishedBy (job : Handed) (tile : Tile) (is_kept : Bool) (after : List Entry) : Type 0 where
  pub log : List Entry
  pub goes_on : IsPrefix job.log log
  pub finished : IsFinishedIn log job.name job.input tile is_kept after

-- a job as data that a model's value may hold
abbrev pub handed_code : Coded Handed
handed_code =
    code_by (Book × (List Entry × (Name × Input))) (coded× book_coded (coded× (coded_list entry_code) (coded× name_code input_code))) (λ j. (j.book, (j.log, (j.name, j.input)))) (λ p. record { book = p.0; log = p.1.0; name = p.1.1.0; input = p.1.1.1 }) (λ _. refl)

-- a tile can be handed out: it is pending, it is neither handed out nor marked, and this is its present input
pub record IsHandedOut (version : Version) (held : List HeldTile) (name : Name) (input : Input) : Type 0 where
  pub pending : IsPending version name input.column
  pub free : is_held name input.column held ≡ false
  pub present : input ≡ input_of version.layers name input.column
