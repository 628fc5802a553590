use Rattle.store_terms.proofs.RecordLemmas as lemmas
use Rattle.store_terms.proofs.laws.held_is_placed.Goals as goal

pub returns : goal.returns
returns c = lemmas.held_is_placed
