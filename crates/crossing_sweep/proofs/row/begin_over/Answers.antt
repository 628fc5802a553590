use Rattle.std.proofs.Common.{rules}
use Rattle.crossing_sweep.proofs.row.begin_over.Goals as goal

-- found by search alone: it is written here so that a wrong body is refused without working out what to write
pub returns-clause-begun : goal.returns-clause-begun
returns-clause-begun c = search rules
