use Rattle.std.proofs.Common.{◌+◌, ◌-◌, ◌≤◌, take, drop, length}
use Rattle.std.specs.List.{AllByRecursion}
use Rattle.extent_map.proofs.extents.count_before.Given as goal

-- those below come before it, those from above on do not
abbrev pub invariant-loop-low : goal.invariant-loop-low
invariant-loop-low l = record {
  order : l.low ≤ l.high;
  within : l.high ≤ length l.taken;
  before : AllByRecursion (λ e. e.block + e.blocks ≤ l.extent.block) (take l.low l.taken);
  others : AllByRecursion (λ e. e.block + e.blocks ≤ l.extent.block → ⊥) (drop l.high l.taken);
}

abbrev pub decreases-loop-low : goal.decreases-loop-low
decreases-loop-low l = l.high - l.low
