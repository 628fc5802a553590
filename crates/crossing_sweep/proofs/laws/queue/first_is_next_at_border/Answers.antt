use Rattle.crossing_sweep.proofs.BorderLemmas.{first_is_next_at_border}
use Rattle.crossing_sweep.proofs.laws.queue.first_is_next_at_border.Goals as goal

pub returns : goal.returns
returns c = first_is_next_at_border
