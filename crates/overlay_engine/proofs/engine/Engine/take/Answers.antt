use Rattle.std.proofs.Common.{rules}
use Rattle.overlay_engine.proofs.engine.Engine.take.Goals as goal

-- found by search alone: it is written here so that a wrong body is refused without working out what to write
pub returns-in-Ok-hold : goal.returns-in-Ok-hold
returns-in-Ok-hold g c = search rules
