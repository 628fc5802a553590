use Rattle.overlay_terms.specs.SameInput.{same_input-Decides}
use Rattle.arrange.proofs.tile_input.same_inputs_are_equal.Goals as goal

pub returns : goal.returns
returns c = same_input-Decides
