use Rattle.feature_jobs.specs.Answers.{of_found}
use Rattle.feature_jobs.proofs.RowLemmas.{of_ok}
use Rattle.feature_jobs.proofs.running.row_of_cells.Goals as goal

pub returns-in-Ok : goal.returns-in-Ok
returns-in-Ok c = of_ok c.cells_row.result (λ row has. of_found c.in-Ok.found c.in-Ok.ensures has) c.cells_row.ensures
