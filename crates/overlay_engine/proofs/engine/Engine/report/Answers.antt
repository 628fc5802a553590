use Rattle.std.proofs.Common.{rules}
use Rattle.overlay_engine.proofs.engine.Engine.report.Goals as goal

-- found by search alone: it is written here so that a wrong body is refused without working out what to write
pub returns-in-Ok : goal.returns-in-Ok
returns-in-Ok g c = search rules
