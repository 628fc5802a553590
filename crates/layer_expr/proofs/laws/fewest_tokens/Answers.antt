use Rattle.layer_expr.proofs.LawLemmas.{fewest}
use Rattle.layer_expr.proofs.laws.fewest_tokens.Goals as goal

pub returns : goal.returns
returns c = fewest
