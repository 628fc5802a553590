use Rattle.layer_expr.proofs.LawLemmas as laws
use Rattle.layer_expr.proofs.laws.one_tree.Goals as goal

pub returns : goal.returns
returns c = laws.one_tree
