use Rattle.store_terms.proofs.SpelledLemmas as lemmas
use Rattle.store_terms.proofs.laws.spelled_is_held.Goals as goal

pub returns : goal.returns
returns c = lemmas.spelled_is_held
