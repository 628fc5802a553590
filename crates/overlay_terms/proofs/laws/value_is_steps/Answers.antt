use Rattle.overlay_terms.proofs.ValueLemmas.{value_is_steps}
use Rattle.overlay_terms.proofs.laws.value_is_steps.Goals as goal

pub returns : goal.returns
returns c = value_is_steps
