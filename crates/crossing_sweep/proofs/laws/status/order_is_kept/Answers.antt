use Rattle.crossing_sweep.proofs.StatusLemmas.{order_is_kept}
use Rattle.crossing_sweep.proofs.laws.status.order_is_kept.Goals as goal

pub returns : goal.returns
returns c = order_is_kept
