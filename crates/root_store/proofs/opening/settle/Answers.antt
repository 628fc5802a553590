use Rattle.std.proofs.Common.{rules}
use Rattle.root_store.proofs.opening.settle.Goals as goal

-- found by search alone: it is here so that a wrong body is refused without working out what to write
pub returns-clause-only : goal.returns-clause-only
returns-clause-only g c = search rules
