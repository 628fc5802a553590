use Rattle.crossing_sweep.proofs.QueueLemmas.{first_is_next}
use Rattle.crossing_sweep.proofs.laws.queue.first_is_next.Goals as goal

pub returns : goal.returns
returns c = first_is_next
