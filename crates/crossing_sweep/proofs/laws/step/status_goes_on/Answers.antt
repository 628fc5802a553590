use Rattle.crossing_sweep.proofs.StepLemmas.{status_goes_on}
use Rattle.crossing_sweep.proofs.laws.step.status_goes_on.Goals as goal

pub returns : goal.returns
returns c = status_goes_on
