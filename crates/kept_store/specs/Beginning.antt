-- What a server begins with.
use Rattle.std.specs.Prelude.{Option, Some, None}
use Rattle.logbook.specs.Pages.{Book}
use Rattle.disk_model.specs.declared.disk.Disk.{Ghosts}
use Rattle.overlay_terms.specs.Histories.{Version, empty_version}
use Rattle.flush_core.specs.declared.flusher.Flusher.{Flusher}
use Rattle.overlay_engine.specs.declared.engine.Engine.{Engine}
use Rattle.book_history.specs.BookLogs.{no_book}

-- the version that a server begins with
abbrev pub start_of : {D : Type 0} {g : Ghosts D} → Option (Engine D g) → Version
start_of None = empty_version
start_of (Some engine) = engine.version

-- the store that it commits to
abbrev pub flusher_of : {D : Type 0} {g : Ghosts D} → Option (Engine D g) → Option (Flusher D g)
flusher_of None = None
flusher_of (Some engine) = Some engine.flusher

-- the name of that store
abbrev pub name_in : {D : Type 0} {g : Ghosts D} → Option (Flusher D g) → Book
name_in None = no_book
name_in (Some flusher) = flusher.commit.name
