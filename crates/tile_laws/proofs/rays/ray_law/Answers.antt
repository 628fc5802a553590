use Rattle.tile_laws.proofs.RayLaw.{ray_law}
use Rattle.tile_laws.proofs.rays.ray_law.Goals as goal

pub returns : goal.returns
returns c = ray_law
