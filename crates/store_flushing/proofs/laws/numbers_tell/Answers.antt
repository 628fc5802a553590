use Rattle.kept_store.proofs.SinceLemmas as lemmas
use Rattle.store_flushing.proofs.laws.numbers_tell.Goals as goal

pub returns : goal.returns
returns c = lemmas.numbers_tell
