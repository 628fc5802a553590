use Rattle.std.proofs.Common.{◌≡◌, ◌++◌, take, drop}
use Rattle.version_book.specs.HeldTiles.{strip_given_back}
use Rattle.version_book.proofs.held_tiles.HeldTiles.give_back_strip.Given as goal

abbrev pub invariant-loop-tile : goal.invariant-loop-tile
invariant-loop-tile l = l.tile-items ≡ strip_given_back l.name l.first l.end (take l.tile-index l.fn.self.list.items) ++ drop l.tile-index l.fn.self.list.items
