use Rattle.std.proofs.Common.{◌≡◌, ◌++◌, take}
use Rattle.crossing_sweep.specs.Rows.{rows_of}
use Rattle.crossing_sweep.proofs.row.close.Given as goal

abbrev pub invariant-loop-member : goal.invariant-loop-member
invariant-loop-member l = l.rows.items ≡ l.fn.rows.items ++ rows_of l.end (take l.member-index l.bundle)
