use Rattle.store_terms.proofs.HeldLemmas as lemmas
use Rattle.store_terms.proofs.laws.held_is_spelled.Goals as goal

pub returns : goal.returns
returns c = lemmas.held_is_spelled
