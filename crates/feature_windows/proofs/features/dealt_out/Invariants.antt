use Rattle.std.proofs.Common.{◌≡◌, ◌++◌, drop}
use Rattle.block_reading.specs.Block.{dealt}
use Rattle.feature_windows.proofs.features.dealt_out.Given as goal

-- the features so far, with those that are left, are all
abbrev pub invariant-loop-count : goal.invariant-loop-count
invariant-loop-count l = l.list.items ++ dealt (drop l.count-index l.ring_counts) (dealt l.counts l.rest) ≡ dealt l.ring_counts (dealt l.point_counts l.points)
