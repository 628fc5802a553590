use Rattle.std.proofs.Common.{drop}
use Rattle.block_reading.specs.Block.{dealt}
use Rattle.near_steps.proofs.LoopLemmas.{AreUnderWay}
use Rattle.near_steps.proofs.drawing_rings.draw_feature.Given as goal

-- what was added, with what is still drawn, is all
abbrev pub invariant-loop-count : goal.invariant-loop-count
invariant-loop-count l = AreUnderWay l.core l.layer l.initial.marked.items l.marked.items (dealt l.counts l.points) (dealt (drop l.count-index l.counts) l.rest)
