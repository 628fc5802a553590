use Rattle.std.proofs.Common.{◌+◌, ◌<◌, ◌≤◌, ℕ, take}
use Rattle.std.specs.List.{AllByRecursion}
use Rattle.extent_map.specs.Extents.{IsUnused}
use Rattle.extent_map.proofs.first_fit.lowest.Given as goal

abbrev pub invariant-loop-i : goal.invariant-loop-i
invariant-loop-i l = record {
  behind : 2 ≤ l.start;
  before : AllByRecursion (λ e. e.block + e.blocks ≤ l.start) (take l.i l.taken);
  lowest : (s : ℕ) → 2 ≤ s → s < l.start → IsUnused l.taken s l.need → ⊥;
}
