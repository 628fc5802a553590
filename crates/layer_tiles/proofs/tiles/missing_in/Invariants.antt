use Rattle.std.proofs.Common.{◌≡◌, ◌+◌, ◌≤◌, map, drop}
use Rattle.layer_tiles.specs.Table.{count_missing, tile_in_slot}
use Rattle.layer_tiles.proofs.tiles.missing_in.Given as goal

-- those so far and those of the other slots
abbrev pub invariant-loop-slot : goal.invariant-loop-slot
invariant-loop-slot l = (count_missing (map tile_in_slot l.slots) ≡ l.missing + count_missing (map tile_in_slot (drop l.slot-index l.slots))) × (l.missing ≤ l.slot-index)
