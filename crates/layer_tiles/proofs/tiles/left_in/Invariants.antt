use Rattle.std.proofs.Common.{◌≡◌, map, get_or, false, None, if◌then◌else◌}
use Rattle.std.specs.List.{range_with_len}
use Rattle.layer_tiles.specs.Table.{row_of, tile_in_slot}
use Rattle.layer_tiles.proofs.tiles.left_in.Given as goal

-- what is left of the tiles so far
abbrev pub invariant-loop-i : goal.invariant-loop-i
invariant-loop-i l = map tile_in_slot l.left.items ≡ map (λ k. if get_or l.marks k false then None else get_or (row_of l.parts) k None) (range_with_len 0 l.i)
