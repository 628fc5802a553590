use Rattle.overlay_terms.proofs.InputLayers.{input_of_is_input}
use Rattle.overlay_terms.proofs.input_law.input_of_is_input.Goals as goal

pub returns : goal.returns
returns c = input_of_is_input
