use Rattle.kept_store.proofs.Storage as lemmas
use Rattle.store_flushing.proofs.laws.store_begins.Goals as goal

pub returns : goal.returns
returns g c = lemmas.store_begins g.D.Disk
