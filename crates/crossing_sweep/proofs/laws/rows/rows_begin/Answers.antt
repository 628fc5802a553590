use Rattle.crossing_sweep.proofs.RowOrder.{rows_begin}
use Rattle.crossing_sweep.proofs.laws.rows.rows_begin.Goals as goal

pub returns : goal.returns
returns c = rows_begin
