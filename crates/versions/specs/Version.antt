-- What is true of every version.
use Rattle.std.specs.Prelude.{◌≤◌}
use Rattle.overlay_terms.specs.Commands.{version_max}
use Rattle.overlay_terms.specs.Histories.{Version}
use Rattle.overlay_terms.specs.KeptLaws.{TilesFit}
use Rattle.layer_book.specs.Layer.{IsBook}
use Rattle.layer_tiles.specs.Tiles.{AreDistinct, AreFormed}

-- a number that a version may have, layers as commands leave them, and tiles of derived layers among
-- them, each of its form and once
pub record IsVersion (version : Version) : Type 0 where
  pub small : version.number ≤ version_max
  pub reported : version.durable ≤ version.number
  pub book : IsBook version.layers
  pub fit : TilesFit version
  pub formed : AreFormed version.tiles
  pub distinct : AreDistinct version.tiles
