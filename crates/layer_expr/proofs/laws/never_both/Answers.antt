use Rattle.layer_expr.proofs.LawLemmas as laws
use Rattle.layer_expr.proofs.laws.never_both.Goals as goal

pub returns : goal.returns
returns c = laws.never_both
