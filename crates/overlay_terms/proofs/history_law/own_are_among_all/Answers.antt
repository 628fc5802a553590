use Rattle.overlay_terms.proofs.HistoryFolds.{own_are_among_all}
use Rattle.overlay_terms.proofs.history_law.own_are_among_all.Goals as goal

pub returns : goal.returns
returns c = own_are_among_all
