use Rattle.std.proofs.Common.{◌≡◌, ℕ, ◌<◌, get_or, false, None}
use Rattle.layer_tiles.proofs.tiles.TileRow.has_none_of.Given as goal

-- no column so far that is marked, or not, as is asked for, has a tile
abbrev pub invariant-loop-number : goal.invariant-loop-number
invariant-loop-number l = (k : ℕ) → k < l.number → get_or l.marks k false ≡ l.marked → get_or l.self k None ≡ None
