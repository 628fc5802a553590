use Rattle.overlay_terms.proofs.ClosedInputs.{closed_is_input}
use Rattle.overlay_terms.proofs.input_law.closed_is_input.Goals as goal

pub returns : goal.returns
returns c = closed_is_input
