use Rattle.overlay_engine.proofs.Counted as lemmas
use Rattle.overlay_engine.proofs.laws.commit_calls.Goals as goal

pub returns : goal.returns
returns g c = lemmas.commit_calls g.D.Disk
