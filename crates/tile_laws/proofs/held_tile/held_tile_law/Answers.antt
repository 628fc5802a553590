use Rattle.tile_laws.proofs.HeldTile.{held_tile}
use Rattle.tile_laws.proofs.held_tile.held_tile_law.Goals as goal

pub returns : goal.returns
returns c = held_tile
