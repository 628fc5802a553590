use Rattle.overlay_terms.proofs.ParityLemmas.{direction_has_no_meaning}
use Rattle.overlay_terms.proofs.laws.direction_has_no_meaning.Goals as goal

pub returns : goal.returns
returns c = direction_has_no_meaning
