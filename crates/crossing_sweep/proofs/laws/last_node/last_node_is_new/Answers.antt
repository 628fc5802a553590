use Rattle.crossing_sweep.proofs.LastNodeLemmas.{last_node_is_new}
use Rattle.crossing_sweep.proofs.laws.last_node.last_node_is_new.Goals as goal

pub returns : goal.returns
returns c = last_node_is_new
