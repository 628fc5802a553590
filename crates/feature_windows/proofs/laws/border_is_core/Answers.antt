use Rattle.feature_windows.proofs.BorderLemmas.{border_is}
use Rattle.feature_windows.proofs.laws.border_is_core.Goals as goal

pub returns : goal.returns
returns c = border_is
