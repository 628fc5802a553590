use Rattle.overlay_grid.proofs.ManySegments.{AreDoneTo}
use Rattle.overlay_grid.proofs.columns.mark_bases.Given as goal

-- what the first base layers change is done
abbrev pub invariant-loop-k : goal.invariant-loop-k
invariant-loop-k l = AreDoneTo l.rise l.bases l.initial.turns l.turns l.initial.edges l.edges l.k
