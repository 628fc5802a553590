-- What becomes of a built tile.
use Rattle.std.specs.Prelude.{◌≡◌, ℕ, None, IsTrue}
use Rattle.overlay_terms.specs.Layers.{Name}
use Rattle.overlay_terms.specs.Tiles.{Input, input_of}
use Rattle.overlay_terms.specs.Commands.{stands_as_derived}
use Rattle.overlay_terms.specs.Histories as terms
use Rattle.versions.specs.declared.finishing.Finish.{Finish}
use Rattle.versions.specs.declared.finishing.Finish.TheVariants.{Kept, Stale}

-- the tile of a layer and column is pending, and the layer is derived
abbrev pub IsPending : terms.Version → Name → ℕ → Type 0
IsPending version name k = IsTrue (stands_as_derived version.layers name) × (terms.tile_at version.tiles name k ≡ None)

-- the tile of an input is awaited: it is pending, and the input is the present one
abbrev pub IsAwaited : terms.Version → Name → Input → Type 0
IsAwaited version name input = IsPending version name input.column × (input ≡ input_of version.layers name input.column)

-- a fact for the version that keeps the tile
abbrev pub IfKept : Finish → (terms.Version → Type 0) → Type 0
IfKept (Kept version) P = P version
IfKept Stale P = Unit {0}

-- the tile is kept
abbrev pub IsKept : Finish → Type 0
IsKept (Kept version) = Unit {0}
IsKept Stale = ⊥
