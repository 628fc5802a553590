use Rattle.std.proofs.Common.{map}
use Rattle.arrange.specs.Lines.{line_marked}
use Rattle.arrange.proofs.RunLemmas.{HavePassed}
use Rattle.arrange.proofs.finding_units.units_on_line.Given as goal

-- the ends before this one are counted, and the units up to it are listed
abbrev pub invariant-loop-i : goal.invariant-loop-i
invariant-loop-i l = HavePassed (map line_marked l.run) l.ends.items l.i l.passed l.list.items
