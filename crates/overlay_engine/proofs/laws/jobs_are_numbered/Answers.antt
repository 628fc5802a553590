use Rattle.overlay_engine.proofs.Reported as lemmas
use Rattle.overlay_engine.proofs.laws.jobs_are_numbered.Goals as goal

pub returns : goal.returns
returns g c = lemmas.jobs_are_numbered g.D.Disk
