use Rattle.std.proofs.Common.{rules}
use Rattle.root_store.proofs.finding.newer.Goals as goal

-- found by search alone: they are here so that a wrong body is refused without working out what to write
pub returns-then-b-a-clause-gives : goal.returns-then-b-a-clause-gives
returns-then-b-a-clause-gives c = search rules

pub returns-else-b-a-clause-gives : goal.returns-else-b-a-clause-gives
returns-else-b-a-clause-gives c = search rules
