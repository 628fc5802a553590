use Rattle.overlay_terms.proofs.StepLaws.{nothing_from_nothing}
use Rattle.overlay_terms.proofs.laws.nothing_from_nothing.Goals as goal

pub returns : goal.returns
returns c = nothing_from_nothing
