-- The layers and tiles of a version, and what a batch leaves of them.
use Rattle.std.specs.Prelude.{ℕ, [], Option, None, if◌then◌else◌}
use Rattle.overlay_terms.specs.Layers.{Name}
use Rattle.overlay_terms.specs.Batches.{Batch, is_touched_by_all}
use Rattle.overlay_terms.specs.Histories.{Tile, Version, tile_at}
use Rattle.layer_tiles.specs.Table.{Laid}

-- no layer and no tile
abbrev pub nothing_laid : Laid
nothing_laid = record { layers = []; tiles = [] }

-- the layers and tiles of a version
abbrev pub laid_of : Version → Laid
laid_of version = record { layers = version.layers; tiles = version.tiles }

-- a version of them
abbrev pub numbered : ℕ → Laid → ℕ → Version
numbered number laid durable = record { number = number; layers = laid.layers; tiles = laid.tiles; durable = durable }

-- what the commands of a batch leave of the tile of a layer and column: nothing, where one of them touches it
abbrev pub left_by_all : Laid → Batch → Name → ℕ → Option Tile
left_by_all laid batch name k = if is_touched_by_all laid.layers batch name k then None else tile_at laid.tiles name k
