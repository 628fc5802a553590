use Rattle.crossing_sweep.proofs.ClosedLemmas.{stretch_is_closed}
use Rattle.crossing_sweep.proofs.laws.sides.stretch_is_closed.Goals as goal

pub returns : goal.returns
returns c = stretch_is_closed
