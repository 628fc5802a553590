use Rattle.std.proofs.Common.{rules}
use Rattle.crossing_sweep.proofs.starts.is_met.Goals as goal

-- found by search alone: it is written here so that a wrong body is refused without working out what to write
pub returns : goal.returns
returns c = search rules
