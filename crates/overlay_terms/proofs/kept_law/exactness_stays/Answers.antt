use Rattle.overlay_terms.proofs.KeptHistories.{exactness_stays}
use Rattle.overlay_terms.proofs.kept_law.exactness_stays.Goals as goal

pub returns : goal.returns
returns c = exactness_stays
