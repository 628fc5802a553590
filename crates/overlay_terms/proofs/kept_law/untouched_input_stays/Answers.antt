use Rattle.overlay_terms.proofs.KeptCommands.{untouched_input_stays}
use Rattle.overlay_terms.proofs.kept_law.untouched_input_stays.Goals as goal

pub returns : goal.returns
returns c = untouched_input_stays
