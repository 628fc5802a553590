use Rattle.std.proofs.Common.{◌≡◌, take}
use Rattle.arrange.proofs.tile_input.TileInput.try_copy.Given as goal

-- what is copied so far
abbrev pub invariant-loop-m : goal.invariant-loop-m
invariant-loop-m l = l.marked.items ≡ take l.m-index l.m-items
