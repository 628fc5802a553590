use Rattle.std.proofs.Common.{drop}
use Rattle.near_steps.specs.Cores.{box_of}
use Rattle.near_steps.proofs.LoopLemmas.{IsThinning}
use Rattle.near_steps.proofs.reducing.thinned.Given as goal

-- what is kept, with what is left of those that follow, is all
abbrev pub invariant-loop-p : goal.invariant-loop-p
invariant-loop-p l = IsThinning (box_of l.core) l.kept.items l.points l.last (drop l.p-index l.rest)
