use Rattle.layer_expr.proofs.SpellingLemmas.{reads_back}
use Rattle.layer_expr.proofs.laws.written_reads_back.Goals as goal

pub returns : goal.returns
returns c = reads_back
