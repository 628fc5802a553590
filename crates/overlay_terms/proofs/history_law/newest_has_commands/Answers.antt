use Rattle.overlay_terms.proofs.HistoryFolds.{newest_has_commands}
use Rattle.overlay_terms.proofs.history_law.newest_has_commands.Goals as goal

pub returns : goal.returns
returns c = newest_has_commands
