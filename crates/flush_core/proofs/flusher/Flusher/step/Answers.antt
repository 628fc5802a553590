use Rattle.flush_core.proofs.StepLemmas.{stored_is}
use Rattle.flush_core.proofs.flusher.Flusher.step.Goals as goal

pub returns-clause-stored : goal.returns-clause-stored
returns-clause-stored g c =
    stored_is c.args.self.now.commit c.step.new.self c.step.result c.step.ensures.roots c.step.ensures.same_roots
