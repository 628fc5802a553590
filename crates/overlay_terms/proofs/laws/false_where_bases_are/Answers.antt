use Rattle.overlay_terms.proofs.ValueLemmas.{false_where_bases_are}
use Rattle.overlay_terms.proofs.laws.false_where_bases_are.Goals as goal

pub returns : goal.returns
returns c = false_where_bases_are
