use Rattle.crossing_sweep.proofs.Carried.{sides_are_carried}
use Rattle.crossing_sweep.proofs.laws.sides.sides_are_carried.Goals as goal

pub returns : goal.returns
returns c = sides_are_carried
