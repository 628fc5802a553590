-- How many bytes the records of a commit have, in the order in which they are written.
use Rattle.std.specs.Prelude.{ℕ, ◌+◌, ◌*◌, List, [], ◌∷◌, ◌++◌, length, sum_by, Option, Some, None, if◌then◌else◌}
use Rattle.overlay_terms.specs.Column.{column_count}
use Rattle.overlay_terms.specs.Layers.{Name, Content, base, derived, Layer}
use Rattle.overlay_terms.specs.Commands.{is_derived}
use Rattle.layer_expr.specs.Spelling.{expression_text}
use Rattle.layer_tiles.specs.TileCode.{by_places, Named}
use Rattle.layer_tiles.specs.Filling.{finished_as}
use Rattle.layer_tiles.specs.Table.{tiles_in, Tabled}
use Rattle.store_terms.specs.BaseRecord as bases
use Rattle.store_terms.specs.TileRecord.{named_tile}
use Rattle.store_terms.specs.declared.root.RecordExtent.{RecordExtent}
use Rattle.store_terms.specs.Image.{Held}
use Rattle.record_writing.specs.Tiles.{named_at}
use Rattle.commit_plan.specs.declared.image.Image.{Image}
use Rattle.commit_plan.specs.Staying.{LiveContent, layer_stays, tile_record_stays}

-- a layer's own record: its rings, or its expression
abbrev pub own_record : Content → List ℕ
own_record (base rings) = bases.rings.text rings
own_record (derived expression) = expression_text expression

-- how many bytes the record of a column's tile has, by the names of its pieces' ends
abbrev pub tile_size : ℕ → Named → ℕ
tile_size k tile = length (named_tile.text (named_at k tile))

-- so many bytes, of a record that does not stay
abbrev pub if_new : Option RecordExtent → ℕ → List ℕ
if_new None n = n ∷ []
if_new (Some e) n = []

-- those of a layer's own record, if it is new
abbrev pub own_sizes : LiveContent → Layer → List ℕ
own_sizes live layer = if_new (layer_stays live layer) (length (own_record layer.content))

-- those of a tile's record, if it is new
abbrev pub tile_sizes : LiveContent → Name → ℕ → Named → List ℕ
tile_sizes live name k tile = if_new (tile_record_stays live (finished_as name k (by_places tile))) (tile_size k tile)

-- those of the new records of a layer's tiles, from a column on
abbrev pub row_sizes : LiveContent → Name → ℕ → List (Option Named) → List ℕ
row_sizes live name k [] = []
row_sizes live name k (None ∷ row) = row_sizes live name (k + 1) row
row_sizes live name k (Some tile ∷ row) = tile_sizes live name k tile ++ row_sizes live name (k + 1) row

-- those of a layer's new records: its own, then those of its tiles
abbrev pub layer_sizes : LiveContent → Layer → List (Option Named) → List ℕ
layer_sizes live layer row = own_sizes live layer ++ row_sizes live layer.name 0 row

-- those of the new records of layers with their rows; of a layer without one its own record's alone
abbrev pub sizes_of_layers : LiveContent → List Layer → List (List (Option Named)) → List ℕ
sizes_of_layers live [] rows = []
sizes_of_layers live (layer ∷ layers) [] = own_sizes live layer ++ sizes_of_layers live layers []
sizes_of_layers live (layer ∷ layers) (row ∷ rows) = layer_sizes live layer row ++ sizes_of_layers live layers rows

-- those of the catalog's entry of a layer, but for where its finished tiles lie
abbrev pub entry_size : Layer → ℕ
entry_size layer = 14 + length layer.name + (if is_derived layer.content then column_count else 0)

-- those of the catalog: the number of layers, an entry for each, and where each of so many finished tiles lies
abbrev pub catalog_size : List Layer → ℕ → ℕ
catalog_size layers finished = 2 + sum_by entry_size layers + 12 * finished

-- the sizes of all new records, layer by layer, the catalog last
abbrev pub record_sizes : LiveContent → Tabled → List ℕ
record_sizes live table = sizes_of_layers live table.layers table.rows ++ catalog_size table.layers (length (tiles_in table)) ∷ []

-- those of the new records of an image, by the names that its own tiles have
abbrev pub sizes_of : LiveContent → Image → List ℕ
sizes_of live image = record_sizes live image.table.value

-- 1 for a record that is new, 0 for one that stays
abbrev pub new_count : Option RecordExtent → ℕ
new_count None = 1
new_count (Some e) = 0

-- how many records a commit writes beside the catalog: those of layers and of tiles that do not stay
abbrev pub new_records : LiveContent → Held → ℕ
new_records live x =
    sum_by (λ layer. new_count (layer_stays live layer)) x.layers + sum_by (λ t. new_count (tile_record_stays live t)) x.tiles
