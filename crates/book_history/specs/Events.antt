-- Events of the code as events of the definitions.
use Rattle.overlay_terms.specs.Histories as terms
use Rattle.tile_build.specs.Tile.{tile_of}
use Rattle.book_history.specs.declared.entry.Event.{Event}
use Rattle.book_history.specs.declared.entry.Event.TheVariants.{Accepted, Kept, Durable}

abbrev pub written : Event → terms.Event
written (Accepted session batch) = terms.accepted session batch
written (Kept name column tile) = terms.kept name column (tile_of tile)
written (Durable number) = terms.durable_to number
