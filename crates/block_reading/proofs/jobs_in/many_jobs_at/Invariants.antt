use Rattle.std.proofs.Common.{◌≡◌, ◌-◌}
use Rattle.block_reading.specs.Reading.{many}
use Rattle.block_reading.specs.Jobs.{job}
use Rattle.block_reading.proofs.Loops.{with_front}
use Rattle.block_reading.proofs.jobs_in.many_jobs_at.Given as goal

-- what was read, with what is still to be read, is all that is to be read
abbrev pub invariant-loop-at : goal.invariant-loop-at
invariant-loop-at l = with_front l.jobs.items (many (job l.kind) l.at (l.many_are - l.at) l.rest) ≡ many (job l.kind) 0 l.many_are l.bytes
