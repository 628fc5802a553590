use Rattle.store_terms.proofs.BodyLemmas as lemmas
use Rattle.store_terms.proofs.laws.body_reads_back.Goals as goal

pub returns : goal.returns
returns c = lemmas.body_again
