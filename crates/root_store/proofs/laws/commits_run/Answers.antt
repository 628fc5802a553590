use Rattle.root_store.proofs.Known.{runs_known}
use Rattle.root_store.proofs.laws.commits_run.Goals as goal

pub returns : goal.returns
returns g c = runs_known g.D.Disk
