use Rattle.std.proofs.Common.{◌≡◌, ◌+◌, take, sum_by}
use Rattle.block_reading.proofs.known.is_sum.Given as goal

-- what is left, and the counts so far, make all
abbrev pub invariant-loop-count : goal.invariant-loop-count
invariant-loop-count l = sum_by (λ n. n) (take l.count-index l.counts) + l.left ≡ l.all
