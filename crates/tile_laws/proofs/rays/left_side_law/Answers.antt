use Rattle.tile_laws.proofs.LeftSide.{left_side}
use Rattle.tile_laws.proofs.rays.left_side_law.Goals as goal

pub returns : goal.returns
returns c = left_side
