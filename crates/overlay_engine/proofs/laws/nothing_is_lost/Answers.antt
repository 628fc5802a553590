use Rattle.overlay_engine.proofs.Lived as lemmas
use Rattle.overlay_engine.proofs.laws.nothing_is_lost.Goals as goal

pub returns : goal.returns
returns g c = lemmas.nothing_is_lost g.D.Disk
