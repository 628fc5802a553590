use Rattle.crossing_sweep.proofs.BorderLemmas.{next_is_queued_at_border}
use Rattle.crossing_sweep.proofs.laws.queue.next_is_queued_at_border.Goals as goal

pub returns : goal.returns
returns c = next_is_queued_at_border
