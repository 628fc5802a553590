use Rattle.std.proofs.Common.{◌+◌, ◌≤◌}
use Rattle.crossing_sweep.specs.NodeNames.{named_ends}
use Rattle.tile_build.specs.StripTiles.{AreUpTo}
use Rattle.tile_build.proofs.StripSplit.{IsSplitAt}
use Rattle.tile_build.proofs.strip_tiles.split.Given as goal

-- the first columns have their tiles, of the rows before one
abbrev pub invariant-loop-number : goal.invariant-loop-number
invariant-loop-number l = record {
  from : l.input.strip.first ≤ l.number;
  to : l.number ≤ l.input.strip.last + 1;
  built : AreUpTo l.input l.number l.list.items;
  split : IsSplitAt (named_ends l.names) l.rows l.number l.start;
}
