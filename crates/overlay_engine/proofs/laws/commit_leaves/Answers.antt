use Rattle.overlay_engine.proofs.CommitLeft as lemmas
use Rattle.overlay_engine.proofs.laws.commit_leaves.Goals as goal

pub returns : goal.returns
returns g c = lemmas.commit_leaves g.D.Disk
