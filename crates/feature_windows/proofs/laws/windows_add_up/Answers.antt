use Rattle.feature_windows.proofs.LawLemmas.{add_up}
use Rattle.feature_windows.proofs.laws.windows_add_up.Goals as goal

pub returns : goal.returns
returns c = add_up
