use Rattle.overlay_terms.proofs.InputLemmas.{input_law}
use Rattle.overlay_terms.proofs.input_law.input_law.Goals as goal

pub returns : goal.returns
returns c = input_law
