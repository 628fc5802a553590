use Rattle.overlay_terms.proofs.KeptCommands.{only_reach_is_touched}
use Rattle.overlay_terms.proofs.kept_law.only_reach_is_touched.Goals as goal

pub returns : goal.returns
returns c = only_reach_is_touched
