-- Which tiles can be handed out.
use Rattle.std.specs.Prelude.{◌≡◌, ◌<◌, ℕ, IsTrue, IfSome, slice_get, true, false, List, None}
use Rattle.overlay_terms.specs.Column.{column_count}
use Rattle.overlay_terms.specs.Layers.{Layer, Name}
use Rattle.overlay_terms.specs.Commands.{stands_as_derived}
use Rattle.overlay_terms.specs.Histories.{Version, tile_at}
use Rattle.versions.specs.Finish.{IsPending}
use Rattle.version_book.specs.HeldTiles.{is_held}
use Rattle.version_book.specs.declared.held_tiles.HeldTile.{HeldTile}

-- a tile of a layer and column can be handed out: it is pending, and it is neither handed out nor marked
pub record IsFree (version : Version) (held : List HeldTile) (name : Name) (column : ℕ) : Type 0 where
  pub pending : IsPending version name column
  pub there : column < column_count
  pub free : is_held name column held ≡ false

-- each tile of a layer that is not finished is handed out or marked
abbrev pub AreHeld : Version → List HeldTile → Name → Type 0
AreHeld version held name =
    (column : ℕ) → column < column_count → tile_at version.tiles name column ≡ None → is_held name column held ≡ true

-- the same of the layer at a place, counted from 0, where a derived layer is there
abbrev pub AreHeldAt : Version → List HeldTile → ℕ → Type 0
AreHeldAt version held place =
    IfSome (slice_get version.layers place) (λ (layer : Layer). IsTrue (stands_as_derived version.layers layer.name) → AreHeld version held layer.name)

-- no tile can be handed out: each pending one is handed out or marked
abbrev pub AllAreHeld : Version → List HeldTile → Type 0
AllAreHeld version held = (name : Name) → IsTrue (stands_as_derived version.layers name) → AreHeld version held name
