-- Nodes, pieces, their sides, and tiles: the pieces of the boundary of a point set of ISO 19125-1:2004, 6.1.2.4, whose
-- left ends lie in one column.
use Rattle.std.specs.Prelude.{◌≡◌, ℕ, ◌%◌, ◌==◌, ◌+ℤ◌, ◌-ℤ◌, ◌*ℤ◌, ◌<ℤ◌, ◌&&◌, ◌||◌, ◌≢◌}
use Rattle.std.specs.Prelude.{pos, Bool, not, IsTrue, List, map, filter, count_by, All, Any, Contains}
use Rattle.std.specs.List.{list_any, AllPairs}
use Rattle.std.specs.Ordering.{int_eq, ordering_then}
use Rattle.std.specs.declared.cmp.Ordering.{Ordering}
use Rattle.std.specs.declared.cmp.Ordering.TheVariants.{Less}
use Rattle.overlay_terms.specs.Column.{columns, border, is_in_column, touches}
use Rattle.overlay_terms.specs.Plane.{Point, Segment, whole, point_cmp, same_place, is_below, is_on}
use Rattle.overlay_terms.specs.Trees.{Steps, steps_value}
use Rattle.overlay_terms.specs.Layers.{Name, Layer, Marked, segments_in_reach, steps_in_reach}

-- whether two segments have the same direction
abbrev pub is_parallel : Segment → Segment → Bool
is_parallel s t =
    int_eq ((s.right.x -ℤ s.left.x) *ℤ (t.right.y -ℤ t.left.y)) ((s.right.y -ℤ s.left.y) *ℤ (t.right.x -ℤ t.left.x))

-- whether both ends of a segment have one x
abbrev pub is_vertical : Segment → Bool
is_vertical s = int_eq s.left.x s.right.x

-- an end of a segment
abbrev pub is_end : List Segment → Point → Bool
is_end segments p = list_any (λ s. same_place p (whole s.left) || same_place p (whole s.right)) segments

-- on two segments that are not parallel
abbrev pub is_crossing : List Segment → Point → Bool
is_crossing segments p = list_any (λ s. is_on s p && list_any (λ t. is_on t p && not (is_parallel s t)) segments) segments

-- on a border of a column and on a segment that is not vertical
abbrev pub is_on_border : List Segment → Point → Bool
is_on_border segments p =
    list_any (λ k. int_eq p.x (border k *ℤ p.w)) columns && list_any (λ s. is_on s p && not (is_vertical s)) segments

-- a node: an end, a crossing, or a place on a border
abbrev pub is_node : List Segment → Point → Bool
is_node segments p = is_end segments p || is_crossing segments p || is_on_border segments p

-- two nodes on one segment, the first before the second, with no node strictly between on it
pub record IsPiece (segments : List Segment) (p r : Point) : Type 0 where
  pub support : Segment
  pub among : Contains segments support
  pub from_positive : pos 0 <ℤ p.w
  pub to_positive : pos 0 <ℤ r.w
  pub from_on : IsTrue (is_on support p)
  pub to_on : IsTrue (is_on support r)
  pub from_node : IsTrue (is_node segments p)
  pub to_node : IsTrue (is_node segments r)
  pub in_order : point_cmp p r ≡ Less
  pub none_between : (q : Point) → pos 0 <ℤ q.w → IsTrue (is_on support q) → point_cmp p q ≡ Less → point_cmp q r ≡ Less → ¬ (IsTrue (is_node segments q))

-- the middle of two points
abbrev pub midpoint : Point → Point → Point
midpoint p r = record { x = (p.x *ℤ r.w) +ℤ (r.x *ℤ p.w); y = (p.y *ℤ r.w) +ℤ (r.y *ℤ p.w); w = pos 2 *ℤ (p.w *ℤ r.w) }

-- which base layers have an odd number of segments below a point
abbrev pub below_bits : List Marked → Point → ℕ → Bool
below_bits marked p k = count_by (λ m. (m.layer == k) && is_below m.segment p) marked % 2 == 1

-- which base layers have an odd number of segments that lie below a point or go through it
abbrev pub over_bits : List Marked → Point → ℕ → Bool
over_bits marked p k = count_by (λ m. (m.layer == k) && (is_below m.segment p || is_on m.segment p)) marked % 2 == 1

-- what the layer is just under a piece, or right of a vertical one, at its middle
abbrev pub under_of : List Marked → Steps → Point → Point → Bool
under_of marked steps p r = steps_value steps (below_bits marked (midpoint p r))

-- what the layer is just over a piece, or left of a vertical one: each base layer's parity changed by its segments at the middle
abbrev pub over_of : List Marked → Steps → Point → Point → Bool
over_of marked steps p r = steps_value steps (over_bits marked (midpoint p r))

-- a piece of the boundary: its left end is in the column, and the layer differs on its two sides
pub record IsBoundary (marked : List Marked) (steps : Steps) (k : ℕ) (p r : Point) : Type 0 where
  pub piece : IsPiece (map (λ m. m.segment) marked) p r
  pub column : IsTrue (is_in_column k p)
  pub sides : under_of marked steps p r ≢ over_of marked steps p r

-- by the left end, then by the right end
abbrev pub pair_cmp : Point × Point → Point × Point → Ordering
pair_cmp a b = ordering_then (point_cmp a.0 b.0) (point_cmp a.1 b.1)

-- the pieces of the boundary in a column, in order and each once
pub record IsTileOf (marked : List Marked) (steps : Steps) (k : ℕ) (tile : List (Point × Point)) : Type 0 where
  pub ordered : AllPairs (λ a b. pair_cmp a b ≡ Less) tile
  pub sound : All (λ a. IsBoundary marked steps k a.0 a.1) tile
  pub complete : (p r : Point) → IsBoundary marked steps k p r → Any (λ a. IsTrue (same_place p a.0 && same_place r a.1)) tile

-- what a tile is made of: its column, segments with their base layers, and definitions
pub record Input : Type 0 where
  pub column : ℕ
  pub marked : List Marked
  pub steps : Steps

-- the input of the tile of a layer and column: the segments in reach that have a point in the column, and the definitions
-- in reach; by the law `tile_of_input` the other segments in reach change nothing
abbrev pub input_of : List Layer → Name → ℕ → Input
input_of layers name k =
    record { column = k; marked = filter (λ m. touches k m.segment) (segments_in_reach layers name); steps = steps_in_reach layers name }
