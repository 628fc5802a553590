-- Images: what one commit writes, and what opening a store gives back.
use Rattle.std.specs.Prelude.{ℕ, List, map}
use Rattle.overlay_terms.specs.Layers.{Name, Layer}
use Rattle.tile_build.specs.declared.tile.Tile.{Tile}
use Rattle.tile_build.specs.Tile.{finished_of}
use Rattle.layer_tiles.specs.Table.{tiles_in, Tabled}
use Rattle.store_terms.specs.Image.{Held}

-- number, layers and tiles of the code as what a store holds
abbrev pub held : ℕ → List Layer → List (Name × ℕ × Tile) → Held
held number layers tiles = record { number = number; layers = layers; tiles = map finished_of tiles }

-- the same of a table; the names of the ends of its tiles' pieces are left out
abbrev pub table_held : ℕ → Tabled → Held
table_held number table = record { number = number; layers = table.layers; tiles = tiles_in table }
