-- Finished tiles as they are read, one after another.
use Rattle.std.specs.Prelude.{ℕ, IsTrue}
use Rattle.overlay_terms.specs.Layers.{Name}
use Rattle.overlay_terms.specs.Commands.{stands_as_derived}
use Rattle.layer_tiles.specs.Filling.{AreBefore}
use Rattle.layer_tiles.specs.Table.{tiles_in, Tabled}

-- a tile of a derived layer and of this column may follow the tiles of a table
pub record IsNextTo (table : Tabled) (name : Name) (column : ℕ) : Type 0 where
  pub derived_layer : IsTrue (stands_as_derived table.layers name)
  pub before : AreBefore table.layers (tiles_in table) name column
