use Rattle.layer_expr.proofs.SpellingLemmas as spelling
use Rattle.layer_expr.proofs.laws.read_is_expression.Goals as goal

pub returns : goal.returns
returns c = spelling.read_is_expression
