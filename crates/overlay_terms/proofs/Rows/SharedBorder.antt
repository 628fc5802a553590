-- Two squares A and C side by side, and U, both: their common edge is an edge of U and no piece of its boundary.
use Rattle.std.proofs.Common.{◌≡◌, pos, true, false, List, [], ◌∷◌, refl, map, length, codes}
use Rattle.overlay_terms.specs.Plane.{Point}
use Rattle.overlay_terms.specs.Trees.{union}
use Rattle.overlay_terms.specs.Layers.{Layer, value_of, answer_at, inside, edge, segments_in_reach, steps_in_reach}
use Rattle.overlay_terms.specs.Tiles.{under_of, over_of}
use Rattle.overlay_terms.proofs.Rows.Shared.{part, place, square, rectangle, base_layer, made_layer, nodes_among, pieces_among, boundary_among, tile_among}

abbrev pub layers : List Layer
layers =
    base_layer (codes "A") (square 0 10 ∷ []) ∷ base_layer (codes "C") (rectangle (pos 10) (pos 0) (pos 20) (pos 10) ∷ []) ∷ made_layer (codes "U") union (codes "A") (codes "C") ∷ []

-- the corners of both, and the middle of their common edge
abbrev pub corners : List Point
corners = place 0 0 ∷ place 0 10 ∷ place 10 0 ∷ place 10 5 ∷ place 10 10 ∷ place 20 0 ∷ place 20 10 ∷ []

abbrev boundary : List (Point × Point)
boundary =
    (place 0 0, place 0 10) ∷ (place 0 0, place 10 0) ∷ (place 0 10, place 10 10) ∷ (place 10 0, place 20 0) ∷ (place 10 10, place 20 10)
    ∷ (place 20 0, place 20 10) ∷ []

six_pieces_go_round_both : boundary_among corners layers (codes "U") 16 ≡ boundary
six_pieces_go_round_both = refl

the_input_alone_gives_them : tile_among corners layers (codes "U") 16 ≡ boundary
the_input_alone_gives_them = refl

six_of_the_points_are_nodes : length (nodes_among corners layers (codes "U")) ≡ 6
six_of_the_points_are_nodes = refl

the_common_edge_is_a_seventh_piece : length (pieces_among corners layers (codes "U")) ≡ 7
the_common_edge_is_a_seventh_piece = refl

it_is_inside_on_its_right : under_of (segments_in_reach layers (codes "U")) (steps_in_reach layers (codes "U")) (place 10 0) (place 10 10) ≡ true
it_is_inside_on_its_right = refl

it_is_inside_on_its_left : over_of (segments_in_reach layers (codes "U")) (steps_in_reach layers (codes "U")) (place 10 0) (place 10 10) ≡ true
it_is_inside_on_its_left = refl

a_place_on_it_is_edge : answer_at layers (codes "U") (place 10 5) ≡ edge
a_place_on_it_is_edge = refl

places_beside_it_are_in : map (answer_at layers (codes "U")) (part 19 10 2 ∷ part 21 10 2 ∷ []) ≡ inside ∷ inside ∷ []
places_beside_it_are_in = refl

-- the value speaks of a half-open square: the left and the low edge belong to it
the_value_of_a_place_on_it_is_that_of_the_right_square : map (λ name. value_of layers name (place 10 5)) (codes "A" ∷ codes "C" ∷ codes "U" ∷ []) ≡ false ∷ true ∷ true ∷ []
the_value_of_a_place_on_it_is_that_of_the_right_square = refl
