use Rattle.std.proofs.Common.{◌≡◌, ◌++◌, map, length}
use Rattle.std.specs.Vec.Iter.{into_iter_items, into_iter_len}
use Rattle.tile_build.specs.Tile.{finished_of}
use Rattle.layer_tiles.specs.Table.{laid, tiles_in, IsLaid}
use Rattle.layer_tiles.proofs.table.Table.filled.Given as goal

-- the table has the tiles so far, and those to come are after them
abbrev pub invariant-loop-tile : goal.invariant-loop-tile
invariant-loop-tile l = record {
  all : l.yielded ++ into_iter_items l.tile-iterator ≡ into_iter_items l.initial.tile-iterator;
  layers : l.table.layers ≡ l.initial.table.layers;
  tiles : tiles_in l.table ≡ map finished_of l.yielded;
  valid : IsLaid (laid l.table);
  left : into_iter_len l.tile-iterator ≡ length (into_iter_items l.tile-iterator);
}
