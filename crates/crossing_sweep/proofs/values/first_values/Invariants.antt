use Rattle.std.proofs.Common.{◌≡◌, length}
use Rattle.crossing_sweep.specs.Values.{AreFirst}
use Rattle.crossing_sweep.proofs.values.first_values.Given as goal

-- what the steps are over the masks so far is listed
abbrev pub invariant-loop-mask : goal.invariant-loop-mask
invariant-loop-mask l = record {
  count : length l.values.items ≡ l.mask;
  known : AreFirst l.fn.input.steps l.values.items;
}
