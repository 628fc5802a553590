use Rattle.swept_area.proofs.LawLemmas.{area_is_near}
use Rattle.swept_area.proofs.laws.area_is_near.Goals as goal

pub returns : goal.returns
returns c = area_is_near
