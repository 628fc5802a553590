use Rattle.kept_store.proofs.SinceLemmas as lemmas
use Rattle.store_flushing.proofs.laws.tiles_stay.Goals as goal

pub returns : goal.returns
returns c = lemmas.tiles_stay
