-- Finished tiles as a table: a row for each layer, with a slot for each column.
use Rattle.std.specs.Prelude.{◌≡◌, ℕ, ◌+◌, [], ◌∷◌, ◌++◌, if◌then◌else◌}
use Rattle.std.specs.Prelude.{refl, IsTrue, List, map, set, Option, Some, None, length}
use Rattle.std.specs.List.{AllPairs}
use Rattle.std.specs.Option.{option_map}
use Rattle.std.specs.Arc.{arc_value}
use Rattle.std.specs.Coded.{Coded, code_by, coded_list, coded_option, coded×}
use Rattle.overlay_terms.specs.Column.{column_count, columns}
use Rattle.overlay_terms.specs.Layers.{Name, Layer}
use Rattle.overlay_terms.specs.LayerCode.{layer_code}
use Rattle.overlay_terms.specs.Commands.{Command}
use Rattle.overlay_terms.specs.Touched.{is_touched}
use Rattle.overlay_terms.specs.Histories.{Tile, Finished, tile_at}
use Rattle.overlay_terms.specs.KeptLaws.{AreFitting}
use Rattle.overlay_terms.specs.StoredTiles.{is_tile_before}
use Rattle.tile_build.specs.Tile.{named_pieces}
use Rattle.layer_book.specs.Layer.{IsBook}
use Rattle.layer_tiles.specs.declared.tiles.LateTile.{LateTile}
use Rattle.layer_tiles.specs.declared.tiles.RowParts.{RowParts}
use Rattle.layer_tiles.specs.declared.tiles.Slot.{Slot}
use Rattle.layer_tiles.specs.Tiles.{AreFormed}
use Rattle.layer_tiles.specs.TileCode.{named_code, by_places, Named}

-- the tile in a slot
abbrev pub tile_in_slot : Slot → Option Named
tile_in_slot slot = option_map (λ tile. named_pieces (arc_value tile)) slot.tile

abbrev pub row_code : Coded (List (Option Named))
row_code = coded_list (coded_option named_code)

-- a row after tiles were put into it, the last one first
abbrev pub put_all : List LateTile → List (Option Named) → List (Option Named)
put_all [] row = row
put_all (late ∷ earlier) row = set (put_all earlier row) late.column (Some (named_pieces (arc_value late.tile)))

-- the row of its parts
abbrev pub row_of : RowParts → List (Option Named)
row_of parts = put_all parts.late.items (map tile_in_slot (arc_value parts.slots).items)

-- how many columns of a row have no tile
abbrev pub count_missing : {X : Type 0} → List (Option X) → ℕ
count_missing [] = 0
count_missing (None ∷ row) = count_missing row + 1
count_missing (Some tile ∷ row) = count_missing row

-- a slot for each column; and how many tiles are missing
pub record IsRow (parts : RowParts) (missing : ℕ) : Type 0 where
  pub whole : length (row_of parts) ≡ column_count
  pub told : missing ≡ count_missing (row_of parts)

-- the row that has in each column what is found there
abbrev pub row_by : {X : Type 0} → (ℕ → Option X) → List (Option X)
row_by found = map found columns

-- a row whose tiles are by the places of their pieces' ends
abbrev pub places_in : List (Option Named) → List (Option Tile)
places_in row = map (option_map by_places) row

-- the rows that have for each layer and column what is found there
abbrev pub rows_by : (Name → ℕ → Option Tile) → List Layer → List (List (Option Tile))
rows_by found layers = map (λ (layer : Layer). row_by (found layer.name)) layers

-- the tiles in the slots of a layer, from a column on
abbrev pub row_tiles : Name → ℕ → List (Option Tile) → List Finished
row_tiles name column [] = []
row_tiles name column (None ∷ slots) = row_tiles name (column + 1) slots
row_tiles name column (Some tile ∷ slots) = record { name = name; column = column; tile = tile } ∷ row_tiles name (column + 1) slots

-- the tiles in rows, in the order of their layers, then of the columns
abbrev pub tiles_of : List Layer → List (List (Option Tile)) → List Finished
tiles_of [] rows = []
tiles_of (layer ∷ layers) [] = []
tiles_of (layer ∷ layers) (row ∷ rows) = row_tiles layer.name 0 row ++ tiles_of layers rows

-- layers with their finished tiles
pub record Laid : Type 0 where
  pub layers : List Layer
  pub tiles : List Finished

-- the layers and tiles of a table
abbrev pub laid_in : List Layer → List (List (Option Tile)) → Laid
laid_in layers rows = record { layers = layers; tiles = tiles_of layers rows }

-- layers with a row of finished tiles for each
pub record Tabled : Type 0 where
  pub layers : List Layer
  pub rows : List (List (Option Named))

abbrev pub tabled_code : Coded Tabled
tabled_code =
    code_by (List Layer × List (List (Option Named))) (coded× (coded_list layer_code) (coded_list row_code)) (λ t. (t.layers, t.rows)) (λ t. record { layers = t.0; rows = t.1 }) (λ _. refl)

-- its rows by places
abbrev pub placed_rows : List (List (Option Named)) → List (List (Option Tile))
placed_rows rows = map (λ row. places_in row) rows

-- its finished tiles, in the order of the layers, then of the columns
abbrev pub tiles_in : Tabled → List Finished
tiles_in table = tiles_of table.layers (placed_rows table.rows)

-- its layers and tiles
abbrev pub laid : Tabled → Laid
laid table = laid_in table.layers (placed_rows table.rows)

-- layers as commands leave them, and tiles of derived layers among them, each of its form, in
-- the order of layers and columns
pub record IsLaid (laid : Laid) : Type 0 where
  pub book : IsBook laid.layers
  pub fit : AreFitting laid.layers laid.tiles
  pub formed : AreFormed laid.tiles
  pub ordered : AllPairs (λ a b. IsTrue (is_tile_before laid.layers a b)) laid.tiles

-- each layer has its row, and in the slot of each column its tile
pub record IsTable (layers : List Layer) (rows : List (List (Option Tile))) : Type 0 where
  pub laid : IsLaid (laid_in layers rows)
  pub filled : rows ≡ rows_by (tile_at (tiles_of layers rows)) layers

-- what a command leaves of the tile of a layer and column: nothing, where it touches it
abbrev pub left_at : Laid → Command → Name → ℕ → Option Tile
left_at laid command name k = if is_touched laid.layers command name k then None else tile_at laid.tiles name k
