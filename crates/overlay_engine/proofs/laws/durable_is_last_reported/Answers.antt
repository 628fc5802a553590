use Rattle.overlay_engine.proofs.Reported as lemmas
use Rattle.overlay_engine.proofs.laws.durable_is_last_reported.Goals as goal

pub returns : goal.returns
returns g c = lemmas.durable_is_last_reported g.D.Disk
