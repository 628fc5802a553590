use Rattle.std.proofs.Common.{◌≡◌, map, take}
use Rattle.arrange.specs.Marked.{marked_of}
use Rattle.arrange.specs.Lines.{line_marked}
use Rattle.arrange.proofs.finding_units.lines_of.Given as goal

-- the first segments have their lines
abbrev pub invariant-loop-m : goal.invariant-loop-m
invariant-loop-m l = map line_marked l.lines.items ≡ map marked_of (take l.m-index l.marked)
