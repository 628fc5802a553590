use Rattle.overlay_engine.proofs.HonestLemmas.{makes}
use Rattle.overlay_engine.proofs.engine.Engine.create.Goals as goal

pub returns-in-Ok-clause-makes : goal.returns-in-Ok-clause-makes
returns-in-Ok-clause-makes g c honest =
    makes g.D.Disk c.args.max_blocks c.args.disk c.in-Ok.commit _ (c.in-Ok.ensures.creates honest) c.in-Ok.ensures.root
    c.new.ensures c.empty.ensures
