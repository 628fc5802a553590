use Rattle.root_store.proofs.Known.{stands_known}
use Rattle.root_store.proofs.laws.stores_stand.Goals as goal

pub returns : goal.returns
returns g c = stands_known g.D.Disk
