-- A ring W that crosses itself, and V, the same.
use Rattle.std.proofs.Common.{◌≡◌, pos, true, false, List, [], ◌∷◌, refl, length, codes}
use Rattle.overlay_terms.specs.Plane.{WholePoint, Point, segments_of}
use Rattle.overlay_terms.specs.Layers.{Layer, answer_at, inside, outside, edge}
use Rattle.overlay_terms.specs.Tiles.{is_crossing, is_end, input_of}
use Rattle.overlay_terms.proofs.Rows.Shared.{at, part, place, base_layer, same_layer, nodes_among, pieces_among, boundary_among, tile_among, nodes_of_input}

abbrev bow : List WholePoint
bow = at (pos 0) (pos 0) ∷ at (pos 4) (pos 4) ∷ at (pos 4) (pos 0) ∷ at (pos 0) (pos 4) ∷ at (pos 0) (pos 0) ∷ []

abbrev pub layers : List Layer
layers = base_layer (codes "W") (bow ∷ []) ∷ same_layer (codes "V") (codes "W") ∷ []

-- the corners, the crossing, and (2, 3)
abbrev pub corners : List Point
corners = place 0 0 ∷ place 0 4 ∷ place 2 2 ∷ place 2 3 ∷ place 4 0 ∷ place 4 4 ∷ []

abbrev boundary : List (Point × Point)
boundary =
    (place 0 0, place 0 4) ∷ (place 0 0, place 2 2) ∷ (place 0 4, place 2 2) ∷ (place 2 2, place 4 0) ∷ (place 2 2, place 4 4)
    ∷ (place 4 0, place 4 4) ∷ []

half_two_is_in : answer_at layers (codes "V") (part 1 4 2) ≡ inside
half_two_is_in = refl

two_three_is_out : answer_at layers (codes "V") (place 2 3) ≡ outside
two_three_is_out = refl

four_three_is_edge : answer_at layers (codes "V") (place 4 3) ≡ edge
four_three_is_edge = refl

the_ring_crosses_itself : is_crossing (segments_of (bow ∷ [])) (place 2 2) ≡ true
the_ring_crosses_itself = refl

the_crossing_is_no_end : is_end (segments_of (bow ∷ [])) (place 2 2) ≡ false
the_crossing_is_no_end = refl

six_pieces_are_boundary : boundary_among corners layers (codes "V") 16 ≡ boundary
six_pieces_are_boundary = refl

the_input_alone_gives_them : tile_among corners layers (codes "V") 16 ≡ boundary
the_input_alone_gives_them = refl

they_are_all_pieces : pieces_among corners layers (codes "V") ≡ boundary
they_are_all_pieces = refl

the_input_has_five_nodes : length (nodes_of_input corners (input_of layers (codes "V") 16)) ≡ 5
the_input_has_five_nodes = refl

five_of_the_points_are_nodes : length (nodes_among corners layers (codes "V")) ≡ 5
five_of_the_points_are_nodes = refl
