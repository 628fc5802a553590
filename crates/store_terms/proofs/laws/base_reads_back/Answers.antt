use Rattle.store_terms.proofs.BaseLemmas as lemmas
use Rattle.store_terms.proofs.laws.base_reads_back.Goals as goal

pub returns : goal.returns
returns c = lemmas.base_reads_back
