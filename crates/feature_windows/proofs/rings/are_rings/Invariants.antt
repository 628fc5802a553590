use Rattle.std.proofs.Common.{drop}
use Rattle.std.specs.Prelude.{All}
use Rattle.overlay_terms.specs.InputLaws.{IsClosed}
use Rattle.block_reading.specs.Block.{dealt}
use Rattle.feature_windows.proofs.rings.are_rings.Given as goal

-- all are closed if those are that are left
abbrev pub invariant-loop-count : goal.invariant-loop-count
invariant-loop-count l = All IsClosed (dealt (drop l.count-index l.counts) l.rest) → All IsClosed (dealt l.counts l.points)
