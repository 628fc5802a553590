use Rattle.tile_laws.proofs.LayerTile.{tile_of_input}
use Rattle.tile_laws.proofs.layer_tile.tile_of_input.Goals as goal

pub returns : goal.returns
returns c = tile_of_input
