use Rattle.crossing_sweep.proofs.QueueLemmas.{next_is_queued}
use Rattle.crossing_sweep.proofs.laws.queue.next_is_queued.Goals as goal

pub returns : goal.returns
returns c = next_is_queued
