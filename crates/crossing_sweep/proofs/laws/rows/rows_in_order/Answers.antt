use Rattle.crossing_sweep.proofs.RowOrder.{rows_in_order}
use Rattle.crossing_sweep.proofs.laws.rows.rows_in_order.Goals as goal

pub returns : goal.returns
returns c = rows_in_order
