use Rattle.store_flushing.proofs.Rested as lemmas
use Rattle.store_flushing.proofs.laws.store_is_known.Goals as goal

pub returns : goal.returns
returns g c = lemmas.store_is_known g.D.Disk g.met.D.Disk.seen_may_stay
