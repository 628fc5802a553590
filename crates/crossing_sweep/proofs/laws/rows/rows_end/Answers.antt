use Rattle.crossing_sweep.proofs.RowOrder.{rows_end}
use Rattle.crossing_sweep.proofs.laws.rows.rows_end.Goals as goal

pub returns : goal.returns
returns c = rows_end
