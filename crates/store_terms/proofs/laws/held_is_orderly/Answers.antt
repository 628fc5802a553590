use Rattle.store_terms.proofs.OrderlyHeld.{held_is_orderly}
use Rattle.store_terms.proofs.laws.held_is_orderly.Goals as goal

pub returns : goal.returns
returns c = held_is_orderly
