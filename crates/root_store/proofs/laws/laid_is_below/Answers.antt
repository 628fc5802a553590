use Rattle.root_store.proofs.LaidLemmas as lemmas
use Rattle.root_store.proofs.laws.laid_is_below.Goals as goal

pub returns : goal.returns
returns g c = lemmas.laid_is_below g.D.Disk
