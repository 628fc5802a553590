use Rattle.extent_map.proofs.Exclusive as lemmas
use Rattle.extent_map.proofs.laws.planned_is_not_full.Goals as goal

pub returns : goal.returns
returns c = lemmas.planned_is_not_full
