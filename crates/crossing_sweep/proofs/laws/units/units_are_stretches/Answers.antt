use Rattle.crossing_sweep.proofs.UnitStretchLemmas.{units_are_stretches}
use Rattle.crossing_sweep.proofs.laws.units.units_are_stretches.Goals as goal

pub returns : goal.returns
returns c = units_are_stretches
