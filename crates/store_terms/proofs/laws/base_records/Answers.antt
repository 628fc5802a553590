use Rattle.store_terms.proofs.LayoutLemmas as lemmas
use Rattle.store_terms.proofs.laws.base_records.Goals as goal

pub returns : goal.returns
returns c = lemmas.rings_is
