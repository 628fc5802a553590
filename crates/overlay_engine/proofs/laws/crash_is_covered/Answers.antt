use Rattle.overlay_engine.proofs.Covering as lemmas
use Rattle.overlay_engine.proofs.laws.crash_is_covered.Goals as goal

pub returns : goal.returns
returns g c = lemmas.covers_leaves g.D.Disk
