use Rattle.overlay_terms.proofs.KeptHistories.{history_is_exact}
use Rattle.overlay_terms.proofs.kept_law.history_is_exact.Goals as goal

pub returns : goal.returns
returns c = history_is_exact
