use Rattle.crossing_sweep.proofs.StatusLemmas.{neighbours_cross}
use Rattle.crossing_sweep.proofs.laws.status.neighbours_cross.Goals as goal

pub returns : goal.returns
returns c = neighbours_cross
