use Rattle.std.proofs.Common.{◌≡◌, ◌++◌, drop}
use Rattle.block_reading.specs.Block.{dealt}
use Rattle.feature_windows.proofs.rings.Rings.of.Given as goal

-- the rings so far, with those that are left, are all
abbrev pub invariant-loop-count : goal.invariant-loop-count
invariant-loop-count l = l.rings ++ dealt (drop l.count-index l.counts) l.rest ≡ dealt l.counts l.points
