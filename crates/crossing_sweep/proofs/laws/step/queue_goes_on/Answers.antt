use Rattle.crossing_sweep.proofs.StepLemmas.{queue_goes_on}
use Rattle.crossing_sweep.proofs.laws.step.queue_goes_on.Goals as goal

pub returns : goal.returns
returns c = queue_goes_on
