use Rattle.std.proofs.Common.{drop}
use Rattle.near_steps.proofs.LoopLemmas.{IsUnderWay}
use Rattle.near_steps.proofs.drawing_rings.draw_line.Given as goal

-- what was added, with what is still drawn, is all
abbrev pub invariant-loop-p : goal.invariant-loop-p
invariant-loop-p l = IsUnderWay l.core l.layer l.initial.marked.items l.marked.items l.points l.last (drop l.p-index l.rest)
