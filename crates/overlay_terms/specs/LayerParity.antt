-- Laws of the tiles of a layer: where a point off its segments lies.
use Rattle.std.specs.Prelude.{◌≡◌, ℕ, pos, ◌%◌, ◌==◌, ◌<◌, ◌≤◌, ◌<ℤ◌, IsTrue, List, length, filter_map, count_by, All}
use Rattle.overlay_terms.specs.Plane.{Point}
use Rattle.overlay_terms.specs.Column.{column_count, is_in_column}
use Rattle.overlay_terms.specs.Layers.{layers_max, Name, Layer, value_of, base_of, segments_in_reach, steps_in_reach}
use Rattle.overlay_terms.specs.Tiles.{IsTileOf, input_of}
use Rattle.overlay_terms.specs.Orderly.{IsOrderly}
use Rattle.overlay_terms.specs.TileLaws.{is_pair_below, is_off}
use Rattle.overlay_terms.specs.InputLaws.{IsRing}

-- layers as commands leave them: orderly, not too many, and each ring of a base layer closed and in range
pub record AreSound (layers : List Layer) : Type 0 where
  pub orderly : IsOrderly layers
  pub few : length layers ≤ layers_max
  pub rings : All (λ b. All IsRing b.1) (filter_map base_of layers)

-- a point of a column, off the segments that a layer reaches
pub record IsOffLayer (layers : List Layer) (name : Name) (k : ℕ) (q : Point) : Type 0 where
  pub positive : pos 0 <ℤ q.w
  pub within : IsTrue (is_in_column k q)
  pub off : IsTrue (is_off (segments_in_reach layers name) q)

-- off the segments in reach, an odd number of the pieces of a layer's tile is below a point of its column exactly where
-- the point is in the layer
abbrev pub LayerParityLaw : Type 0
LayerParityLaw =
    (layers : List Layer) (name : Name) (k : ℕ) (tile : List (Point × Point)) (q : Point) → AreSound layers
    → k < column_count → IsTileOf (segments_in_reach layers name) (steps_in_reach layers name) k tile →
    IsOffLayer layers name k q → (count_by (is_pair_below q) tile % 2 == 1) ≡ value_of layers name q

-- the same for a tile of the layer's input
abbrev pub InputParityLaw : Type 0
InputParityLaw =
    (layers : List Layer) (name : Name) (k : ℕ) (tile : List (Point × Point)) (q : Point) → AreSound layers
    → k < column_count →
    IsTileOf (input_of layers name k).marked (input_of layers name k).steps (input_of layers name k).column tile
    → IsOffLayer layers name k q → (count_by (is_pair_below q) tile % 2 == 1) ≡ value_of layers name q
