-- Laws of the tiles that are kept: the untouched tiles are those whose input stays, so
-- each tile stays that of its input.
use Rattle.std.specs.Prelude.{◌≡◌, ◌↔◌, ℕ, ◌<◌, ◌≤◌, false, IsTrue, List, length, Some, None, bytes_eq}
use Rattle.std.specs.List.{list_any}
use Rattle.overlay_terms.specs.Column.{column_count}
use Rattle.overlay_terms.specs.Layers.{layers_max, Name, Layer}
use Rattle.overlay_terms.specs.Tiles.{input_of}
use Rattle.overlay_terms.specs.Orderly.{IsOrderly}
use Rattle.overlay_terms.specs.Commands.{Command, refusal_of, applied, stands_as_derived}
use Rattle.overlay_terms.specs.Touched.{is_touched, derived_over, name_of}
use Rattle.overlay_terms.specs.Histories.{Tile, Finished, pieces_max, IsTileAt, tile_at}
use Rattle.overlay_terms.specs.Histories.{Version, Event, Follows, History, IsHistory, newest}

-- what a command does not change: the input of the tile of a layer and column, and that the layer is derived
pub record IsUntouched (before after : List Layer) (name : Name) (k : ℕ) : Type 0 where
  pub same_input : input_of after name k ≡ input_of before name k
  pub still_derived : IsTrue (stands_as_derived after name)

-- a command leaves a tile of a derived layer untouched exactly where it leaves the tile's input
-- as it is, and the layer derived
abbrev pub UntouchedInputStays : Type 0
UntouchedInputStays =
    (layers : List Layer) (command : Command) (name : Name) (k : ℕ) → IsTrue (stands_as_derived layers name) →
    (is_touched layers command name k ≡ false) ↔ IsUntouched layers (applied layers command) name k

-- an accepted command touches tiles of those layers alone that reach the name that it puts, defines or takes out
abbrev pub OnlyReachIsTouched : Type 0
OnlyReachIsTouched =
    (layers : List Layer) (command : Command) (name : Name) (k : ℕ) → IsOrderly layers
    → refusal_of layers command ≡ None →
    IsTrue (is_touched layers command name k)
    → IsTrue (list_any (bytes_eq name) (derived_over layers (name_of command)))

-- tiles fit layers: each is of a derived layer among them, and of a column that there is
abbrev pub AreFitting : List Layer → List Finished → Type 0
AreFitting layers tiles =
    (name : Name) (k : ℕ) (tile : Tile) → tile_at tiles name k ≡ Some tile → IsTrue (stands_as_derived layers name) × (k < column_count)

-- tiles are exact for layers: each is that of the present input of its layer and column
abbrev pub AreExact : List Layer → List Finished → Type 0
AreExact layers tiles =
    (name : Name) (k : ℕ) (tile : Tile) → tile_at tiles name k ≡ Some tile → IsTileAt pieces_max (input_of layers name k) tile

-- the tiles of a version fit its layers
abbrev pub TilesFit : Version → Type 0
TilesFit version = AreFitting version.layers version.tiles

-- the tiles of a version are exact for its layers
abbrev pub TilesAreExact : Version → Type 0
TilesAreExact version = AreExact version.layers version.tiles

-- what is published leaves exact tiles exact
abbrev pub ExactnessStays : Type 0
ExactnessStays =
    (old new : Version) (event : Event) → Follows old event new → IsOrderly old.layers → TilesFit old
    → TilesAreExact old →
    TilesFit new × TilesAreExact new

-- what is published leaves orderly layers orderly, and no more than there may be where there were no more
abbrev pub LayersStayOrderly : Type 0
LayersStayOrderly =
    (old new : Version) (event : Event) → Follows old event new →
    (IsOrderly old.layers → IsOrderly new.layers) × (length old.layers ≤ layers_max → length new.layers ≤ layers_max)

-- a version whose layers are orderly, and whose tiles fit and are exact
pub record IsExact (version : Version) : Type 0 where
  pub orderly : IsOrderly version.layers
  pub fit : TilesFit version
  pub exact : TilesAreExact version

-- the newest version of a history is exact where its first one is
abbrev pub HistoryIsExact : Type 0
HistoryIsExact = (history : History) → IsHistory history → IsExact history.start → IsExact (newest history)

-- the newest version of a history has no more layers than there may be where its first one has
abbrev pub HistoryHasRoom : Type 0
HistoryHasRoom =
    (history : History) → IsHistory history → length history.start.layers ≤ layers_max
    → length (newest history).layers ≤ layers_max
