use Rattle.store_terms.proofs.LayoutLemmas as lemmas
use Rattle.store_terms.proofs.laws.tile_records.Goals as goal

pub returns : goal.returns
returns c = lemmas.named_tile_is
