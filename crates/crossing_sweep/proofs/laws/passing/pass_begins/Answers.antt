use Rattle.crossing_sweep.proofs.BeginLemmas.{pass_begins}
use Rattle.crossing_sweep.proofs.laws.passing.pass_begins.Goals as goal

pub returns : goal.returns
returns c = pass_begins
