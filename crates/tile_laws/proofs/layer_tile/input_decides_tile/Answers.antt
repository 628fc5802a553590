use Rattle.tile_laws.proofs.LayerTile.{input_decides_tile}
use Rattle.tile_laws.proofs.layer_tile.input_decides_tile.Goals as goal

pub returns : goal.returns
returns c = input_decides_tile
