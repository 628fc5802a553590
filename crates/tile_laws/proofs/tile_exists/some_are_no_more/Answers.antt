use Rattle.tile_laws.proofs.TileExists.{some_are_no_more}
use Rattle.tile_laws.proofs.tile_exists.some_are_no_more.Goals as goal

pub returns : goal.returns
returns c = some_are_no_more
