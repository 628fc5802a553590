use Rattle.overlay_terms.proofs.AcceptedLemmas.{accepted_is_orderly}
use Rattle.overlay_terms.proofs.laws.accepted_is_orderly.Goals as goal

pub returns : goal.returns
returns c = accepted_is_orderly
