use Rattle.feature_jobs.proofs.ExpressionLemmas.{are_of_first}
use Rattle.feature_jobs.proofs.RowLemmas.{of_ok}
use Rattle.feature_jobs.proofs.known.own_steps.Goals as goal

pub returns : goal.returns
returns c = of_ok c.of_two.result are_of_first c.of_two.ensures
