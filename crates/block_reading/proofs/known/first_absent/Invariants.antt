use Rattle.std.proofs.Common.{◌≡◌, drop}
use Rattle.block_reading.specs.Block.{first_unknown}
use Rattle.block_reading.proofs.known.first_absent.Given as goal

-- the first is one of those that are left
abbrev pub invariant-loop-at : goal.invariant-loop-at
invariant-loop-at l = first_unknown l.head 0 l.jobs ≡ first_unknown l.head l.at (drop l.at l.jobs)
