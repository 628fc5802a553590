use Rattle.crossing_sweep.proofs.MaskLemmas.{masks_step_up}
use Rattle.crossing_sweep.proofs.laws.sides.masks_step_up.Goals as goal

pub returns : goal.returns
returns c = masks_step_up
