use Rattle.tile_laws.proofs.TileExists.{more_is_oversize}
use Rattle.tile_laws.proofs.tile_exists.more_is_oversize.Goals as goal

pub returns : goal.returns
returns c = more_is_oversize
