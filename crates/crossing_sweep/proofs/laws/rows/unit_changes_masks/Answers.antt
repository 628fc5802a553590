use Rattle.crossing_sweep.proofs.UnitBits.{unit_changes_masks}
use Rattle.crossing_sweep.proofs.laws.rows.unit_changes_masks.Goals as goal

pub returns : goal.returns
returns c = unit_changes_masks
