use Rattle.crossing_sweep.proofs.LeaningLaws.{leaning_keeps}
use Rattle.crossing_sweep.proofs.laws.leaning.leaning_keeps.Goals as goal

pub returns : goal.returns
returns c = leaning_keeps
