use Rattle.overlay_engine.proofs.Covering as lemmas
use Rattle.overlay_engine.proofs.laws.covered_rests.Goals as goal

pub returns : goal.returns
returns g c = lemmas.covered_rests g.D.Disk
