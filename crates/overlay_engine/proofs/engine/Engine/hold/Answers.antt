use Rattle.std.proofs.Common.{rules}
use Rattle.overlay_engine.proofs.engine.Engine.hold.Goals as goal

-- found by search alone: it is written here so that a wrong body is refused without working out what to write
pub returns-clause-ok : goal.returns-clause-ok
returns-clause-ok g c = search rules
