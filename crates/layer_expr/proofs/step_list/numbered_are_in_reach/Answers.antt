use Rattle.layer_expr.proofs.ReachedLayers.{numbered_are_in_reach}
use Rattle.layer_expr.proofs.step_list.numbered_are_in_reach.Goals as goal

pub returns : goal.returns
returns c = numbered_are_in_reach
