use Rattle.std.proofs.Common.{arith}
use Rattle.std.proofs.lemmas.Grind.{common_steps}
use Rattle.tile_build.proofs.building.pieces_of.Goals as goal

-- found by search alone: it is written here so that a wrong body is refused without working out what to write
pub loop-row-preserved : goal.loop-row-preserved
loop-row-preserved c = grind (arith, common_steps)
