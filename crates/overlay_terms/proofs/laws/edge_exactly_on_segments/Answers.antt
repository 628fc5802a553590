use Rattle.overlay_terms.proofs.EdgeLemmas.{edge_exactly_on_segments}
use Rattle.overlay_terms.proofs.laws.edge_exactly_on_segments.Goals as goal

pub returns : goal.returns
returns c = edge_exactly_on_segments
