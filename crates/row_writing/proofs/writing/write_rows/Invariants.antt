use Rattle.std.proofs.Common.{take}
use Rattle.row_writing.specs.Rows.{AreWritten}
use Rattle.row_writing.proofs.writing.write_rows.Given as goal

-- the rows of the jobs so far are written
abbrev pub invariant-loop-job : goal.invariant-loop-job
invariant-loop-job g l =
    AreWritten (g.A.Answering.answers l.answering) (take l.job-index l.jobs) (g.W.Write.contents l.fn.to) (g.W.Write.contents l.to)
