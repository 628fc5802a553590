use Rattle.crossing_sweep.proofs.RowOrder.{rows_are_some}
use Rattle.crossing_sweep.proofs.laws.rows.rows_are_some.Goals as goal

pub returns : goal.returns
returns c = rows_are_some
