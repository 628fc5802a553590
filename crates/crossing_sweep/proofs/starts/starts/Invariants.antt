use Rattle.std.proofs.Common.{◌≡◌, map, filter, take}
use Rattle.std.specs.Prelude.{All}
use Rattle.exact_point.specs.Place.{place}
use Rattle.arrange.specs.declared.unit.Unit.{Unit}
use Rattle.crossing_sweep.specs.Passing.{IsEntry}
use Rattle.crossing_sweep.specs.Start.{is_met}
use Rattle.crossing_sweep.proofs.starts.starts.Given as goal

-- those of the first units that have a place of the strip are listed, each with the first of these
abbrev pub invariant-loop-unit : goal.invariant-loop-unit
invariant-loop-unit l = record {
  units : map (λ s. s.unit) l.list.items ≡ filter (λ (u : Unit). is_met l.fn.input.strip u.seg) (take l.unit-index l.unit-items);
  entries : All (λ s. IsEntry l.fn.input.strip s.unit.seg (place s.at)) l.list.items;
}
