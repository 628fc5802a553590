use Rattle.std.proofs.Common.{◌≡◌, ◌-◌}
use Rattle.block_reading.specs.Reading.{many}
use Rattle.block_reading.specs.Jobs.{point}
use Rattle.block_reading.proofs.Loops.{with_front}
use Rattle.block_reading.proofs.shapes_in.points_at.Given as goal

-- what was read, with what is still to be read, is all that is to be read
abbrev pub invariant-loop-at : goal.invariant-loop-at
invariant-loop-at l = with_front l.points.items (many point l.at (l.many_are - l.at) l.rest) ≡ many point 0 l.many_are l.bytes
