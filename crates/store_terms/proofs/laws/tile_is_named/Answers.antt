use Rattle.store_terms.proofs.RecordLemmas as lemmas
use Rattle.store_terms.proofs.laws.tile_is_named.Goals as goal

pub returns : goal.returns
returns c = lemmas.tile_is_named
