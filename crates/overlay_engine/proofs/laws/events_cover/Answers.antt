use Rattle.overlay_engine.proofs.Covering as lemmas
use Rattle.overlay_engine.proofs.laws.events_cover.Goals as goal

pub returns : goal.returns
returns g c = lemmas.events_cover g.D.Disk
