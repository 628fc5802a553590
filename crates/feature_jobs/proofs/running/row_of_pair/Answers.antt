use Rattle.feature_jobs.specs.Answers.{without, of_pair}
use Rattle.feature_jobs.proofs.RowLemmas.{of_ok}
use Rattle.feature_jobs.proofs.running.row_of_pair.Goals as goal

pub returns-in-Ok : goal.returns-in-Ok
returns-in-Ok c = of_ok c.pair_row.result (λ row has shared. of_pair c.in-Ok.one (c.in-Ok.ensures shared) has) c.pair_row.ensures

pub returns-in-Err : goal.returns-in-Err
returns-in-Err c = of_ok c.row_of_fault.result (λ row is _. without is) c.row_of_fault.ensures
