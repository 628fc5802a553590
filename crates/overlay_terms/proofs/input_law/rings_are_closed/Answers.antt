use Rattle.overlay_terms.proofs.ClosedRings.{rings_are_closed}
use Rattle.overlay_terms.proofs.input_law.rings_are_closed.Goals as goal

pub returns : goal.returns
returns c = rings_are_closed
