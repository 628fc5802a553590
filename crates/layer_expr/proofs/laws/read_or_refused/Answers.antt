use Rattle.layer_expr.proofs.LawLemmas as laws
use Rattle.layer_expr.proofs.laws.read_or_refused.Goals as goal

pub returns : goal.returns
returns c = laws.read_or_refused
