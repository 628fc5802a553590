use Rattle.overlay_engine.proofs.Reported as lemmas
use Rattle.overlay_engine.proofs.laws.crash_keeps_reported.Goals as goal

pub returns : goal.returns
returns g c = lemmas.crash_keeps_reported g.D.Disk
