use Rattle.layer_expr.proofs.StepEvaluation.{steps_value-numbered}
use Rattle.layer_expr.proofs.step_list.steps_evaluate.Goals as goal

pub returns : goal.returns
returns c = steps_value-numbered
