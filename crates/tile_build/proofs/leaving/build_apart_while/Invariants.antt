use Rattle.std.proofs.Common.{◌+◌, ◌≤◌}
use Rattle.tile_build.specs.StripTiles.{AreUpTo}
use Rattle.tile_build.proofs.leaving.build_apart_while.Given as goal

-- the first columns have their tiles
abbrev pub invariant-loop-number : goal.invariant-loop-number
invariant-loop-number g l = record {
  from : l.input.strip.first ≤ l.number;
  to : l.number ≤ l.input.strip.last + 1;
  built : AreUpTo l.input l.number l.list.items;
}
