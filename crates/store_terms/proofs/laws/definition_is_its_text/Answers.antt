use Rattle.store_terms.proofs.RecordLemmas as lemmas
use Rattle.store_terms.proofs.laws.definition_is_its_text.Goals as goal

pub returns : goal.returns
returns c = lemmas.definition_is_its_text
