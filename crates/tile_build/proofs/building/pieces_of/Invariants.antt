use Rattle.std.proofs.Common.{◌≡◌, map, take}
use Rattle.exact_point.specs.NamedPiece.{ends_of}
use Rattle.crossing_sweep.specs.NodeNames.{named_ends}
use Rattle.tile_build.proofs.building.pieces_of.Given as goal

-- the first rows are pieces
abbrev pub invariant-loop-row : goal.invariant-loop-row
invariant-loop-row l = map ends_of l.list.items ≡ map (named_ends l.names) (take l.row-index l.rows)
