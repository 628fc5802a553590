use Rattle.tile_laws.proofs.TileExists.{each_has_its_tile}
use Rattle.tile_laws.proofs.tile_exists.each_input_has_its_tile.Goals as goal

pub returns : goal.returns
returns c = each_has_its_tile
