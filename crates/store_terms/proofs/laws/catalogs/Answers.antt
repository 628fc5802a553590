use Rattle.store_terms.proofs.LayoutLemmas as lemmas
use Rattle.store_terms.proofs.laws.catalogs.Goals as goal

pub returns : goal.returns
returns c = lemmas.catalog_is
