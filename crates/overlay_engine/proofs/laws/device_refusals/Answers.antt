use Rattle.overlay_engine.proofs.Counted as lemmas
use Rattle.overlay_engine.proofs.laws.device_refusals.Goals as goal

pub returns : goal.returns
returns g c = lemmas.device_refusals g.D.Disk
