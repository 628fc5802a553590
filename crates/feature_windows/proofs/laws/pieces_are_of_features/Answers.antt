use Rattle.feature_windows.proofs.LawLemmas.{of_features}
use Rattle.feature_windows.proofs.laws.pieces_are_of_features.Goals as goal

pub returns : goal.returns
returns c = of_features
