use Rattle.std.proofs.Common.{sym}
use Rattle.store_flushing.proofs.Remembered.{of_book}
use Rattle.store_flushing.proofs.keeper.Keeper.into_parts.Goals as goal

pub returns-clause-book : goal.returns-clause-book
returns-clause-book g c = sym (of_book c.args.self)
