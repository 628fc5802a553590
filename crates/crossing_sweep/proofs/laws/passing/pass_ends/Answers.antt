use Rattle.crossing_sweep.proofs.PassLemmas.{pass_ends}
use Rattle.crossing_sweep.proofs.laws.passing.pass_ends.Goals as goal

pub returns : goal.returns
returns c = pass_ends
