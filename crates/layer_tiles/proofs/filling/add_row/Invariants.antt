use Rattle.std.proofs.Common.{◌≡◌, ◌++◌, map, take}
use Rattle.tile_build.specs.Tile.{finished_of}
use Rattle.layer_tiles.specs.Table.{places_in, row_tiles}
use Rattle.layer_tiles.proofs.filling.add_row.Given as goal

-- the tiles of the columns so far are added
abbrev pub invariant-loop-number : goal.invariant-loop-number
invariant-loop-number l = map finished_of l.list.items ≡ map finished_of l.initial.list.items ++ row_tiles l.name 0 (take l.number (places_in l.row))
