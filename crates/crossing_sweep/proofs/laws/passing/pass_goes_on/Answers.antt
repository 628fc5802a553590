use Rattle.crossing_sweep.proofs.PassLemmas.{pass_goes_on}
use Rattle.crossing_sweep.proofs.laws.passing.pass_goes_on.Goals as goal

pub returns : goal.returns
returns c = pass_goes_on
