use Rattle.std.proofs.Common.{◌∙◌}
use Rattle.layer_expr.specs.StepList.{evaluated}
use Rattle.feature_jobs.specs.Expressions.{with_two}
use Rattle.feature_jobs.proofs.ExpressionLemmas.{is_within_core}
use Rattle.feature_jobs.proofs.RowLemmas.{of_ok}
use Rattle.feature_jobs.proofs.expressions.within_core.Goals as goal

pub returns : goal.returns
returns c =
    let names = c.deref.ensures.value ∙ c.in_ok-names.ensures in
    let within = is_within_core c.in_ok-within.within c.in_ok-within.ensures.ok in
    of_ok c.steps_within.result
    (λ steps value. record {
      asked = c.in_ok-own.own;
      spelled = c.in_ok-own.ensures.ok;
      value = λ bits. value bits ∙ (λ i. evaluated (with_two (names i) c.in_ok-own.own (within i)) bits);
    })
    c.steps_within.ensures
