-- Finished tiles as a file holds them.
use Rattle.std.specs.Prelude.{◌<◌, nat_lt, Bool, ◌&&◌, ◌||◌, IsTrue, List, bytes_eq, All}
use Rattle.std.specs.List.{AllPairs}
use Rattle.overlay_terms.specs.Column.{column_count}
use Rattle.overlay_terms.specs.Layers.{Layer}
use Rattle.overlay_terms.specs.Commands.{index_of, stands_as_derived}
use Rattle.overlay_terms.specs.Histories.{Finished, is_formed}

-- whether a tile comes before another: its layer earlier, or of one layer its column
abbrev pub is_tile_before : List Layer → Finished → Finished → Bool
is_tile_before layers a b =
    nat_lt (index_of layers a.name) (index_of layers b.name) || (bytes_eq a.name b.name && nat_lt a.column b.column)

-- tiles as a file holds them: of derived layers and of columns that there are, right or not but of their form, in the
-- order of the layers, then of the columns
pub record AreStored (layers : List Layer) (tiles : List Finished) : Type 0 where
  pub derived_layers : All (λ f. IsTrue (stands_as_derived layers f.name)) tiles
  pub known_columns : All (λ f. f.column < column_count) tiles
  pub formed : All (λ f. IsTrue (is_formed f.tile f.column)) tiles
  pub ordered : AllPairs (λ a b. IsTrue (is_tile_before layers a b)) tiles
