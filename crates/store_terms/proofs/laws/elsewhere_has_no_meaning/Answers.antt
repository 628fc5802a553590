use Rattle.store_terms.proofs.FrameLemmas as lemmas
use Rattle.store_terms.proofs.laws.elsewhere_has_no_meaning.Goals as goal

pub returns : goal.returns
returns c = lemmas.elsewhere_has_no_meaning
