use Rattle.std.proofs.Common.{◌≡◌, map, take}
use Rattle.std.specs.Prelude.{All}
use Rattle.swept_area.specs.SweptLaws.{IsSegment}
use Rattle.sided_pieces.specs.Sided.{named, sided_of}
use Rattle.sided_pieces.proofs.finding.pieces_of.Given as goal

-- the first rows are pieces
abbrev pub invariant-loop-row : goal.invariant-loop-row
invariant-loop-row l = record {
  rows : map sided_of l.list.items ≡ map (named l.names) (take l.row-index l.rows);
  segments : All (λ p. IsSegment p.support) l.list.items;
}
