use Rattle.overlay_terms.proofs.ClosedLayers.{layers_are_closed}
use Rattle.overlay_terms.proofs.input_law.layers_are_closed.Goals as goal

pub returns : goal.returns
returns c = layers_are_closed
