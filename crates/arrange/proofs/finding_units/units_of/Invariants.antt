use Rattle.std.proofs.Common.{length, ◌-◌}
use Rattle.arrange.proofs.LineLemmas.{HaveLines}
use Rattle.arrange.proofs.finding_units.units_of.Given as goal

-- the units of the first lines are listed
abbrev pub invariant-loop-start : goal.invariant-loop-start
invariant-loop-start l = HaveLines l.lines.items l.start l.list.items

abbrev pub decreases-loop-start : goal.decreases-loop-start
decreases-loop-start l = length l.lines.items - l.start
