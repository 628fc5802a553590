use Rattle.std.proofs.Common.{take}
use Rattle.store_terms.specs.Choices.{optional}
use Rattle.store_terms.specs.Catalog.{extent}
use Rattle.record_writing.specs.Putting.{ArePut}
use Rattle.record_writing.proofs.catalog_writing.put_tiles.Given as goal

abbrev pub invariant-loop-tile : goal.invariant-loop-tile
invariant-loop-tile l = ArePut (optional extent) (take l.tile-index l.tiles) l.initial.out.items l.out.items
