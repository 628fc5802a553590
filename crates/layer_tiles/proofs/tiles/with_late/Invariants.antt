use Rattle.std.proofs.Common.{◌≡◌, set, take, List, Option, Some}
use Rattle.tile_build.specs.Tile.{named_pieces}
use Rattle.layer_tiles.specs.TileCode.{Named}
use Rattle.layer_tiles.specs.Table.{put_all}
use Rattle.layer_tiles.proofs.tiles.with_late.Given as goal

-- the tile lies over those so far
abbrev pub invariant-loop-one : goal.invariant-loop-one
invariant-loop-one l = (row : List (Option Named)) → put_all l.with.items row ≡ set (put_all (take l.one-index l.late) row) l.fn.column (Some (named_pieces l.fn.tile.value))
