use Rattle.std.proofs.Common.{◌≡◌, map, take}
use Rattle.arrange.specs.LineEnds.{both_ends}
use Rattle.arrange.specs.Lines.{line_marked}
use Rattle.arrange.proofs.finding_units.ends_of.Given as goal

-- the ends of the first segments
abbrev pub invariant-loop-segment : goal.invariant-loop-segment
invariant-loop-segment l = l.ends.items ≡ both_ends (map line_marked (take l.segment-index l.run))
