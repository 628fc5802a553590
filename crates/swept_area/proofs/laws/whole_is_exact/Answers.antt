use Rattle.swept_area.proofs.LawLemmas.{whole_is_exact}
use Rattle.swept_area.proofs.laws.whole_is_exact.Goals as goal

pub returns : goal.returns
returns c = whole_is_exact
