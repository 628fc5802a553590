-- The tile of a layer and column is that of the layer's input there, and so depends on that input alone.
use Rattle.std.specs.Prelude.{◌≡◌, ℕ, ◌<◌, ◌↔◌, List, All, filter_map}
use Rattle.overlay_terms.specs.Plane.{Point}
use Rattle.overlay_terms.specs.Column.{column_count}
use Rattle.overlay_terms.specs.Layers.{Name, Layer, base_of, segments_in_reach, steps_in_reach}
use Rattle.overlay_terms.specs.Tiles.{IsTileOf, input_of}
use Rattle.overlay_terms.specs.InputLaws.{IsRing}

-- the tile of a layer and column: the pieces of the boundary that all the segments and definitions in reach have there
abbrev pub IsTileOfLayer : List Layer → Name → ℕ → List (Point × Point) → Type 0
IsTileOfLayer layers name k tile = IsTileOf (segments_in_reach layers name) (steps_in_reach layers name) k tile

-- each ring of a base layer is a ring
abbrev pub AreOfRings : List Layer → Type 0
AreOfRings layers = All (λ b. All IsRing b.1) (filter_map base_of layers)

-- the tile of a layer and column is the tile of the layer's input there
abbrev pub TileOfInput : Type 0
TileOfInput =
    (layers : List Layer) (name : Name) (k : ℕ) (tile : List (Point × Point)) → AreOfRings layers → k < column_count →
    IsTileOfLayer layers name k tile
    ↔ IsTileOf (input_of layers name k).marked (input_of layers name k).steps (input_of layers name k).column tile

-- it depends on that input alone: layers with the same input have the same tile
abbrev pub InputDecidesTile : Type 0
InputDecidesTile =
    (layers others : List Layer) (name other : Name) (k : ℕ) (tile : List (Point × Point)) → AreOfRings layers
    → AreOfRings others → k < column_count →
    input_of layers name k ≡ input_of others other k
    → IsTileOfLayer layers name k tile ↔ IsTileOfLayer others other k tile
