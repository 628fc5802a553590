use Rattle.std.proofs.Common.{subst}
use Rattle.script_form.specs.OpenBatch.{AreReadSoFar}
use Rattle.script_form.proofs.OpenBatchLemmas.{unread-on}
use Rattle.script_form.proofs.joining.read_next.Goals as goal

pub returns-in-Ok-clause-reads : goal.returns-in-Ok-clause-reads
returns-in-Ok-clause-reads c = λ requests read. c.push_next.ensures.reads requests (subst (AreReadSoFar requests) c.in-Ok.is read)

pub returns-in-Err-clause-reads : goal.returns-in-Err-clause-reads
returns-in-Err-clause-reads c = λ requests read. unread-on requests _ _ (subst (AreReadSoFar requests) c.in-Err.is read)
