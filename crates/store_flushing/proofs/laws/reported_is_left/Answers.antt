use Rattle.kept_store.proofs.Storage as lemmas
use Rattle.store_flushing.proofs.laws.reported_is_left.Goals as goal

pub returns : goal.returns
returns g c = lemmas.reported_is_left g.D.Disk
