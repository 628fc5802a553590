use Rattle.std.proofs.Common.{◌≡◌, ◌-◌, ◌≤◌, ◌++◌}
use Rattle.version_book.specs.HeldTiles.{tiles_from}
use Rattle.version_book.proofs.held_tiles.HeldTiles.hand_out_strip.Given as goal

-- the tiles of the columns so far are handed out
abbrev pub invariant-loop-number : goal.invariant-loop-number
invariant-loop-number l = record {
  from : l.fn.strip.first ≤ l.number;
  done : l.self.list.items ≡ l.fn.self.list.items ++ tiles_from l.name l.fn.strip.first (l.number - l.fn.strip.first);
}
