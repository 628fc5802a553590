use Rattle.crossing_sweep.proofs.RowOrder.{rows_tell_oversize}
use Rattle.crossing_sweep.proofs.laws.rows.rows_tell_oversize.Goals as goal

pub returns : goal.returns
returns c = rows_tell_oversize
