use Rattle.std.proofs.Common.{◌≡◌, ◌-◌}
use Rattle.block_reading.specs.Reading.{many}
use Rattle.block_reading.specs.Jobs.{member}
use Rattle.block_reading.proofs.Loops.{with_front}
use Rattle.block_reading.proofs.jobs_in.members_at.Given as goal

-- what was read, with what is still to be read, is all that is to be read
abbrev pub invariant-loop : goal.invariant-loop
invariant-loop l = with_front l.members.items (many (λ _. member l.at) l.counter (l.many_are - l.counter) l.rest) ≡ many (λ _. member l.at) 0 l.many_are l.bytes
