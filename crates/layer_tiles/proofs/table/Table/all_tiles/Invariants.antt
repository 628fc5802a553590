use Rattle.std.proofs.Common.{◌≡◌, map, take}
use Rattle.tile_build.specs.Tile.{finished_of}
use Rattle.layer_tiles.specs.Table.{placed_rows, tiles_of}
use Rattle.layer_tiles.proofs.table.Table.all_tiles.Given as goal

-- the tiles of the layers so far
abbrev pub invariant-loop-place : goal.invariant-loop-place
invariant-loop-place l = map finished_of l.list.items ≡ tiles_of (take l.place l.self.layers) (take l.place (placed_rows l.self.rows))
