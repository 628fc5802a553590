use Rattle.crossing_sweep.proofs.StatusLemmas.{sides_fall}
use Rattle.crossing_sweep.proofs.laws.status.sides_fall.Goals as goal

pub returns : goal.returns
returns c = sides_fall
