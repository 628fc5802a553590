-- Laws over inputs: the segments that rings leave.
use Rattle.std.specs.Prelude.{◌≡◌, ℕ, ◌+◌, ◌%◌, ◌<◌, ◌≤◌, IsTrue, List, length, filter, filter_map, count_by, All}
use Rattle.overlay_terms.specs.Plane.{WholePoint, Segment, same_whole, is_closed, segments_of, InRange}
use Rattle.overlay_terms.specs.Column.{column_count, touches}
use Rattle.overlay_terms.specs.Trees.{Steps}
use Rattle.overlay_terms.specs.Layers.{layers_max, Name, Layer, Marked, base_of, marked_segments}
use Rattle.overlay_terms.specs.Tiles.{input_of}
use Rattle.overlay_terms.specs.TileLaws.{AreClosed, IsInput}

-- the last point of a ring is its first
abbrev pub IsClosed : List WholePoint → Type 0
IsClosed ring = IsTrue (is_closed ring)

-- a ring as a base layer has it: closed, with coordinates in range
pub record IsRing (ring : List WholePoint) : Type 0 where
  pub closed : IsClosed ring
  pub in_range : All (λ p. InRange p.x × InRange p.y) ring

-- how many ends of segments are at a whole point
abbrev pub segment_ends_at : List Segment → WholePoint → ℕ
segment_ends_at segments v =
    count_by (λ s. same_whole s.left v) segments + count_by (λ s. same_whole s.right v) segments

-- closed rings leave each whole point an end of an even number of segments
abbrev pub RingsAreClosed : Type 0
RingsAreClosed =
    (rings : List (List WholePoint)) (v : WholePoint) → All IsClosed rings
    → segment_ends_at (segments_of rings) v % 2 ≡ 0

-- the segments of base layers are proper, and each whole point is an end of an even number of each layer's segments
abbrev pub LayersAreClosed : Type 0
LayersAreClosed = (bases : List (List (List WholePoint))) → All (All IsRing) bases → AreClosed (marked_segments bases)

-- of closed segments, those with a point in a column are the input of a tile
abbrev pub ClosedIsInput : Type 0
ClosedIsInput =
    (marked : List Marked) (steps : Steps) (k : ℕ) → k < column_count → steps.bases ≤ layers_max
    → All (λ m. m.layer < steps.bases) marked → AreClosed marked →
    IsInput (record { column = k; marked = filter (λ m. touches k m.segment) marked; steps = steps })

-- where the rings of base layers are rings, and no more layers than there may be, the input of the tile of
-- a layer and column is an input
abbrev pub InputOfIsInput : Type 0
InputOfIsInput =
    (layers : List Layer) (name : Name) (k : ℕ) → k < column_count → length layers ≤ layers_max
    → All (λ b. All IsRing b.1) (filter_map base_of layers) →
    IsInput (input_of layers name k)
