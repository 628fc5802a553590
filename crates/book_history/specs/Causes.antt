-- What happened, as an event of the definitions.
use Rattle.std.specs.Prelude.{ℕ, ◌≡◌, ◌<◌, map}
use Rattle.logbook.specs.Pages.{Book}
use Rattle.overlay_terms.specs.Batches.{Batch}
use Rattle.overlay_terms.specs.Histories.{Event, accepted, kept, durable_to}
use Rattle.layer_book.specs.Command.{command}
use Rattle.tile_build.specs.Tile.{tile_of}
use Rattle.book_history.specs.declared.entry.Cause.{Cause}
use Rattle.book_history.specs.declared.entry.Cause.TheVariants.{Accepted, Kept, Durable}

abbrev pub event_of : Cause → Event
event_of (Accepted session changes) = accepted session (map command changes.now)
event_of (Kept name column tile) = kept name.now column.now (tile_of tile.now)
event_of (Durable receipt) = durable_to receipt.now.number

-- commands are those of a session that the book counts
abbrev pub HasSeat : Cause → Type 0
HasSeat (Accepted session changes) = session < 4
HasSeat (Kept name column tile) = Unit {0}
HasSeat (Durable receipt) = Unit {0}

-- commands were asked for; of a tile that is kept and of a number nobody needs to ask
abbrev pub IsAskedFor : (ℕ → Batch → Type 0) → Cause → Type 0
IsAskedFor asked (Accepted session changes) = asked session (map command changes.now)
IsAskedFor asked (Kept name column tile) = Unit {0}
IsAskedFor asked (Durable receipt) = Unit {0}

-- a receipt is of the book's own store; of commands and of a tile that is kept there is none
abbrev pub IsOwnReceipt : Book → Cause → Type 0
IsOwnReceipt own (Accepted session changes) = Unit {0}
IsOwnReceipt own (Kept name column tile) = Unit {0}
IsOwnReceipt own (Durable receipt) = receipt.now.store ≡ own
