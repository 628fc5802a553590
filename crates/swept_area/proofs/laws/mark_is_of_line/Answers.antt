use Rattle.swept_area.proofs.OneLine.{is_of_line}
use Rattle.swept_area.proofs.laws.mark_is_of_line.Goals as goal

pub returns : goal.returns
returns c = is_of_line
