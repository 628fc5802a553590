use Rattle.crossing_sweep.proofs.NextNode.{nodes_run_out}
use Rattle.crossing_sweep.proofs.laws.next_node.nodes_run_out.Goals as goal

pub returns : goal.returns
returns c = nodes_run_out
