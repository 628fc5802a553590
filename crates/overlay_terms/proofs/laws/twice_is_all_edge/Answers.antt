use Rattle.overlay_terms.proofs.ParityLemmas.{twice_is_all_edge}
use Rattle.overlay_terms.proofs.laws.twice_is_all_edge.Goals as goal

pub returns : goal.returns
returns c = twice_is_all_edge
