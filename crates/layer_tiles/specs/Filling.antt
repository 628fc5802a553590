-- Tables that grow in the order of a file.
use Rattle.std.specs.Prelude.{◌≡◌, ℕ, ◌<◌, IsTrue, List, [], ◌∷◌, ◌++◌, All}
use Rattle.overlay_terms.specs.Column.{column_count}
use Rattle.overlay_terms.specs.Layers.{Name, Layer}
use Rattle.overlay_terms.specs.Histories.{Tile, oversize, Finished, is_formed}
use Rattle.overlay_terms.specs.Commands.{stands_as_derived}
use Rattle.overlay_terms.specs.StoredTiles.{is_tile_before}

-- a finished tile of a layer and column
abbrev pub finished_as : Name → ℕ → Tile → Finished
finished_as name column tile = record { name = name; column = column; tile = tile }

-- each of some tiles is before that of a layer and column, whatever it is
abbrev pub AreBefore : List Layer → List Finished → Name → ℕ → Type 0
AreBefore layers tiles name column =
    All (λ f. IsTrue (is_tile_before layers f (finished_as name column oversize))) tiles

-- a tile that may come after some: of a derived layer and of a column that there is, of its
-- form, and each of them before it
pub record IsNextTile (layers : List Layer) (tiles : List Finished) (f : Finished) : Type 0 where
  pub derived_layer : IsTrue (stands_as_derived layers f.name)
  pub known_column : f.column < column_count
  pub formed : IsTrue (is_formed f.tile f.column)
  pub behind : AreBefore layers tiles f.name f.column

-- layers with one more after them
abbrev pub IsLonger : List Layer → List Layer → Type 0
IsLonger layers longer = (layer : Layer) × (longer ≡ layers ++ layer ∷ [])
