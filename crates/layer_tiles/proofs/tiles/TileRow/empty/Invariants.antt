use Rattle.std.proofs.Common.{◌≡◌, map, replicate, None}
use Rattle.layer_tiles.specs.Table.{tile_in_slot}
use Rattle.layer_tiles.proofs.tiles.TileRow.empty.Given as goal

-- so many empty slots
abbrev pub invariant-loop : goal.invariant-loop
invariant-loop l = map tile_in_slot l.slots.items ≡ replicate l.counter None
