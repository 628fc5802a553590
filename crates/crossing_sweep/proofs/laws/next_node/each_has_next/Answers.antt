use Rattle.crossing_sweep.proofs.NextNode.{each_has_next}
use Rattle.crossing_sweep.proofs.laws.next_node.each_has_next.Goals as goal

pub returns : goal.returns
returns c = each_has_next
