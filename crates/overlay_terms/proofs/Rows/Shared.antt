-- What worked rows are written with: points, rings and layers, and the pieces between the nodes among given points.
use Rattle.std.proofs.Common.{ℕ, ℤ, pos, neg_ℤ, Bool, ◌&&◌, ◌+◌, not, List, [], ◌∷◌, map, filter, flat_map, zip, drop, Ordering, Less, Equal, Greater, is_lt, is_gt}
use Rattle.overlay_terms.specs.Plane.{WholePoint, Point, Segment, whole, point_cmp, is_on}
use Rattle.overlay_terms.specs.Column.{border, is_in_column}
use Rattle.overlay_terms.specs.Trees.{Operation, sym_difference, combined, leaf, combine, Steps}
use Rattle.overlay_terms.specs.Layers.{Name, Layer, Marked, base, derived, segments_in_reach, steps_in_reach}
use Rattle.overlay_terms.specs.Tiles.{is_node, under_of, over_of, pair_cmp, Input, input_of}

abbrev pub minus : ℕ → ℤ
minus n = neg_ℤ (pos n)

-- a point of a ring
abbrev pub at : ℤ → ℤ → WholePoint
at x y = record { x = x; y = y }

-- the point (x / w, y / w)
abbrev pub point : ℤ → ℤ → ℕ → Point
point x y w = record { x = x; y = y; w = pos w }

-- the same, right of the origin and above it
abbrev pub part : ℕ → ℕ → ℕ → Point
part x y w = point (pos x) (pos y) w

abbrev pub place : ℕ → ℕ → Point
place x y = part x y 1

abbrev pub rectangle : ℤ → ℤ → ℤ → ℤ → List WholePoint
rectangle left bottom right top = at left bottom ∷ at right bottom ∷ at right top ∷ at left top ∷ at left bottom ∷ []

-- the square from (low, low) to (high, high)
abbrev pub square : ℕ → ℕ → List WholePoint
square low high = rectangle (pos low) (pos low) (pos high) (pos high)

abbrev pub base_layer : Name → List (List WholePoint) → Layer
base_layer name rings = record { name = name; content = base rings }

-- a layer that is another one
abbrev pub same_layer : Name → Name → Layer
same_layer name other = record { name = name; content = derived (leaf other) }

-- a layer made of two others
abbrev pub made_layer : Name → Operation → Name → Name → Layer
made_layer name operation l r = record { name = name; content = derived (combine operation (leaf l) (leaf r)) }

abbrev pub unmarked : List Marked → List Segment
unmarked marked = map (λ (m : Marked). m.segment) marked

-- the segments of the base layers in reach, without their numbers
abbrev pub reached : List Layer → Name → List Segment
reached layers name = unmarked (segments_in_reach layers name)

-- those of some points that are nodes
abbrev pub nodes_among : List Point → List Layer → Name → List Point
nodes_among points layers name = filter (is_node (reached layers name)) points

abbrev pub neighbours : List Point → List (Point × Point)
neighbours points = zip points (drop 1 points)

-- a pair set in its place among ordered ones, unless it is there
abbrev pub set_in : Point × Point → List (Point × Point) → List (Point × Point)
set_in a [] = a ∷ []
set_in a (b ∷ others) = by_order (pair_cmp a b) (set_in a others) where
  by_order : Ordering → List (Point × Point) → List (Point × Point)
  by_order Less rest = a ∷ b ∷ others
  by_order Equal rest = b ∷ others
  by_order Greater rest = b ∷ rest

abbrev pub in_order : List (Point × Point) → List (Point × Point)
in_order [] = []
in_order (a ∷ others) = set_in a (in_order others)

-- the pieces between some nodes, which are listed in their order
abbrev pub pieces_between : List Point → List Segment → List (Point × Point)
pieces_between nodes segments = in_order (flat_map (λ s. neighbours (filter (is_on s) nodes)) segments)

-- the pieces between the nodes among some points, which are listed in their order
abbrev pub pieces_among : List Point → List Layer → Name → List (Point × Point)
pieces_among points layers name = pieces_between (nodes_among points layers name) (reached layers name)

-- whether the two sides of a piece differ
abbrev pub differs : List Marked → Steps → Point × Point → Bool
differs marked steps a = combined sym_difference (under_of marked steps a.0 a.1) (over_of marked steps a.0 a.1)

-- the pieces of the boundary in a column, between the nodes among some points
abbrev pub boundary_among : List Point → List Layer → Name → ℕ → List (Point × Point)
boundary_among points layers name k =
    filter (λ a. is_in_column k a.0 && differs (segments_in_reach layers name) (steps_in_reach layers name) a) (pieces_among points layers name)

-- the nodes of an input among some points, its column's borders included
abbrev pub nodes_of_input : List Point → Input → List Point
nodes_of_input points input = filter (λ p. is_node (unmarked input.marked) p && is_near p) points where
  is_near : Point → Bool
  is_near p =
      not (is_lt (point_cmp p (whole (at (border input.column) (minus 1048577))))) && not (is_gt (point_cmp p (whole (at (border (input.column + 1)) (pos 1048577)))))

-- the same pieces of the boundary, from the input alone
abbrev pub tile_of_input : List Point → Input → List (Point × Point)
tile_of_input points input =
    filter (λ a. is_in_column input.column a.0 && differs input.marked input.steps a) (pieces_between (nodes_of_input points input) (unmarked input.marked))

-- the pieces of a layer in a column, between the nodes among some points, as its input gives them
abbrev pub tile_among : List Point → List Layer → Name → ℕ → List (Point × Point)
tile_among points layers name k = tile_of_input points (input_of layers name k)
