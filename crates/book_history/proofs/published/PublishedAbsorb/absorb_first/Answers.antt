use Rattle.std.proofs.Common.{rules}
use Rattle.book_history.proofs.published.PublishedAbsorb.absorb_first.Goals as goal

-- found by search alone: it is here so that a wrong body is refused without working out what to write
pub returns-clause-absorbed : goal.returns-clause-absorbed
returns-clause-absorbed c = search rules
