use Rattle.feature_jobs.proofs.ExpressionLemmas.{are_of_both, are_first_alone, are_second_alone}
use Rattle.feature_jobs.proofs.relation.pair_steps.Goals as goal

pub returns : goal.returns
returns c = record {
  both = are_of_both c.in_ok-of_two.field-0 c.in_ok-of_two.ensures;
  first_alone = are_first_alone c.in_ok-of_two-4.field-0 c.in_ok-of_two-4.ensures;
  second_alone = are_second_alone c.in_ok-of_two-5.field-0 c.in_ok-of_two-5.ensures;
}
