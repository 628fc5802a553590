use Rattle.layer_expr.proofs.ReachedLayers.{numbered_by_content}
use Rattle.layer_expr.proofs.step_list.numbered_by_content.Goals as goal

pub returns : goal.returns
returns c = numbered_by_content
