-- The nodes on a segment within a closed column, and the elementary pieces that begin in a column, in their order.
use Rattle.std.specs.Prelude.{◌≡◌, ℕ, ◌+◌, ◌<◌, ◌⊎◌, ◌%◌, ◌==◌, ◌&&◌, ◌*ℤ◌, ◌<ℤ◌}
use Rattle.std.specs.Prelude.{pos, int_le, Bool, IsTrue, List, map, count_by, All, Any}
use Rattle.std.specs.List.{AllPairs}
use Rattle.std.specs.declared.cmp.Ordering.TheVariants.{Less, Equal}
use Rattle.overlay_terms.specs.Plane.{Point, Segment, point_cmp, same_place, is_on}
use Rattle.overlay_terms.specs.Column.{border, is_in_column}
use Rattle.overlay_terms.specs.Trees.{mask_bits}
use Rattle.overlay_terms.specs.Layers.{layers_max, Marked}
use Rattle.overlay_terms.specs.Tiles.{is_node, IsPiece, midpoint, Input}
use Rattle.exact_point.specs.Crossing.{turn_of}
use Rattle.exact_point.specs.PointName.{HasPlace}
use Rattle.exact_point.specs.PlaceOf.{place_of}
use Rattle.exact_point.specs.declared.point_name.PointName.{PointName}
use Rattle.arrange.specs.declared.piece.Elementary.{Elementary}

-- the segments of a column's input, without their layers
abbrev pub input_segments : Input → List Segment
input_segments input = map (λ (m : Marked). m.segment) input.marked

-- from the left border of a column to its right border, both included
abbrev pub is_in_closed_column : ℕ → Point → Bool
is_in_closed_column k p = int_le (border k *ℤ p.w) p.x && int_le p.x (border (k + 1) *ℤ p.w)

-- a node on a segment, within the closed column
pub record IsNodeOn (input : Input) (s : Segment) (p : Point) : Type 0 where
  pub positive : pos 0 <ℤ p.w
  pub on_segment : IsTrue (is_on s p)
  pub in_column : IsTrue (is_in_closed_column input.column p)
  pub node : IsTrue (is_node (input_segments input) p)

-- all nodes on a segment within the closed column, by their names, from left to right
pub record AreNodesOn (input : Input) (s : Segment) (names : List PointName) : Type 0 where
  pub named : All HasPlace names
  pub sound : All (λ name. IsNodeOn input s (place_of name)) names
  pub ordered : AllPairs (λ a b. point_cmp (place_of a) (place_of b) ≡ Less) names
  pub complete : (p : Point) → IsNodeOn input s p → Any (λ name. IsTrue (same_place p (place_of name))) names

-- the two ends of a piece
abbrev pub ends_of : Elementary → Point × Point
ends_of e = (place_of e.from, place_of e.to)

-- which base layers have an odd number of segments that hold the middle of a piece
abbrev pub on_bits : List Marked → Point → ℕ → Bool
on_bits marked p k = count_by (λ m. (m.layer == k) && is_on m.segment p) marked % 2 == 1

-- a piece of the arrangement that begins in the column
pub record IsElementary (input : Input) (e : Elementary) : Type 0 where
  pub from_named : HasPlace e.from
  pub to_named : HasPlace e.to
  pub from_on : IsTrue (is_on e.support (place_of e.from))
  pub to_on : IsTrue (is_on e.support (place_of e.to))
  pub piece : IsPiece (input_segments input) (place_of e.from) (place_of e.to)
  pub begins : IsTrue (is_in_column input.column (place_of e.from))
  pub mask : (k : ℕ) → k < layers_max
      → mask_bits e.mask k ≡ on_bits input.marked (midpoint (place_of e.from) (place_of e.to)) k

-- by the left end, then by direction, the vertical one last
abbrev pub ComesBefore : Elementary → Elementary → Type 0
ComesBefore a b =
    (point_cmp (place_of a.from) (place_of b.from) ≡ Less)
    ⊎ ((point_cmp (place_of a.from) (place_of b.from) ≡ Equal) × (pos 0 <ℤ turn_of a.support b.support))

-- exactly the pieces that begin in the column, in their order
pub record ArePieces (input : Input) (list : List Elementary) : Type 0 where
  pub sound : All (IsElementary input) list
  pub ordered : AllPairs ComesBefore list
  pub complete : (p r : Point) → IsPiece (input_segments input) p r → IsTrue (is_in_column input.column p)
      → Any (λ e. IsTrue (same_place p (place_of e.from) && same_place r (place_of e.to))) list
