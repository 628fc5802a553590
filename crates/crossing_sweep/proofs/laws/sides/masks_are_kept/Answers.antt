use Rattle.crossing_sweep.proofs.KeptLemmas.{masks_are_kept}
use Rattle.crossing_sweep.proofs.laws.sides.masks_are_kept.Goals as goal

pub returns : goal.returns
returns c = masks_are_kept
