use Rattle.crossing_sweep.proofs.TurnLemmas.{status_turned_round}
use Rattle.crossing_sweep.proofs.laws.status.turned_round.Goals as goal

pub returns : goal.returns
returns c = status_turned_round
