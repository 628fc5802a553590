use Rattle.crossing_sweep.proofs.NodeCount.{nodes_are_few}
use Rattle.crossing_sweep.proofs.laws.rows.nodes_are_few.Goals as goal

pub returns : goal.returns
returns c = nodes_are_few
