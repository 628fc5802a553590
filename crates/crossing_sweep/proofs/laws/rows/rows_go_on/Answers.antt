use Rattle.crossing_sweep.proofs.RowLemmas.{rows_go_on}
use Rattle.crossing_sweep.proofs.laws.rows.rows_go_on.Goals as goal

pub returns : goal.returns
returns c = rows_go_on
