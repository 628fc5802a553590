use Rattle.std.proofs.Common.{◌≡◌, ℕ, ◌<◌, ◌≤◌, get_or}
use Rattle.std.specs.declared.cmp.Ordering.TheVariants.{Equal}
use Rattle.arrange.specs.Lines.{line_cmp}
use Rattle.arrange.specs.declared.line_seg.LineSeg.{LineSeg}
use Rattle.arrange.proofs.finding_units.line_end.Given as goal

-- the segments up to here are on the line of the first
abbrev pub invariant-loop-end : goal.invariant-loop-end
invariant-loop-end l = (k : ℕ) (d : LineSeg) → l.start ≤ k → k < l.end → line_cmp (get_or l.lines l.start d) (get_or l.lines k d) ≡ Equal
