use Rattle.overlay_terms.proofs.KeptHistories.{layers_stay_orderly}
use Rattle.overlay_terms.proofs.kept_law.layers_stay_orderly.Goals as goal

pub returns : goal.returns
returns c = layers_stay_orderly
