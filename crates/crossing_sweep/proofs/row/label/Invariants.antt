use Rattle.std.proofs.Common.{◌≡◌, true, map, take}
use Rattle.crossing_sweep.specs.Rows.{mask_over, AreBegun, HasValue}
use Rattle.crossing_sweep.specs.Values.{AreValues}
use Rattle.crossing_sweep.proofs.row.label.Given as goal

abbrev pub invariant-loop-member : goal.invariant-loop-member
invariant-loop-member l = record {
  units : map (λ m. m.unit) l.stay ≡ map (λ m. m.unit) l.fn.stay;
  begun : AreBegun l.fn.input.steps l.fn.under l.fn.begin true (take l.member-index l.stay);
  mask : l.mask ≡ mask_over l.fn.under (take l.member-index l.stay);
  value : HasValue l.fn.input.steps l.mask l.value;
  known : AreValues l.fn.input.steps l.values;
}
