use Rattle.range_laws.proofs.Ranges.{one_range}
use Rattle.range_laws.proofs.laws.one_range.Goals as goal

pub returns : goal.returns
returns c = one_range
