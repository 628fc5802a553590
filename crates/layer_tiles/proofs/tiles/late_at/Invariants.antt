use Rattle.std.proofs.Common.{◌≡◌, drop, get_or, List, Option, None}
use Rattle.layer_tiles.specs.TileCode.{Named}
use Rattle.layer_tiles.specs.Table.{put_all}
use Rattle.layer_tiles.proofs.tiles.late_at.Given as goal

-- none of the tiles so far is of the column
abbrev pub invariant-loop-one : goal.invariant-loop-one
invariant-loop-one l = (row : List (Option Named)) → get_or (put_all l.late row) l.number None ≡ get_or (put_all (drop l.one-index l.late) row) l.number None
