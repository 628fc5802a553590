use Rattle.overlay_terms.specs.SameInput.{same_steps-Decides}
use Rattle.layer_expr.proofs.step_list.same_are_equal.Goals as goal

pub returns : goal.returns
returns c = same_steps-Decides
