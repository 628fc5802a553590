-- A square A and its left half G, whose edges run along those of A: what they share, Y, and what one of them has, Z.
use Rattle.std.proofs.Common.{◌≡◌, pos, List, [], ◌∷◌, refl, map, length, codes, filter}
use Rattle.overlay_terms.specs.Plane.{Point, is_on}
use Rattle.overlay_terms.specs.Trees.{intersection, sym_difference}
use Rattle.overlay_terms.specs.Layers.{Layer}
use Rattle.overlay_terms.specs.Tiles.{input_of}
use Rattle.overlay_terms.proofs.Rows.Shared.{at, place, square, rectangle, base_layer, made_layer, nodes_among, pieces_among, boundary_among, tile_among, nodes_of_input}

abbrev pub layers : List Layer
layers =
    base_layer (codes "A") (square 0 10 ∷ []) ∷ base_layer (codes "G") (rectangle (pos 0) (pos 0) (pos 5) (pos 10) ∷ [])
    ∷ made_layer (codes "Y") intersection (codes "A") (codes "G") ∷ made_layer (codes "Z") sym_difference (codes "A") (codes "G") ∷ []

abbrev pub corners : List Point
corners = place 0 0 ∷ place 0 10 ∷ place 3 0 ∷ place 5 0 ∷ place 5 10 ∷ place 10 0 ∷ place 10 10 ∷ []

abbrev shared : List (Point × Point)
shared = (place 0 0, place 0 10) ∷ (place 0 0, place 5 0) ∷ (place 0 10, place 5 10) ∷ (place 5 0, place 5 10) ∷ []

abbrev single : List (Point × Point)
single = (place 5 0, place 5 10) ∷ (place 5 0, place 10 0) ∷ (place 5 10, place 10 10) ∷ (place 10 0, place 10 10) ∷ []

the_shared_half_has_four_pieces : boundary_among corners layers (codes "Y") 16 ≡ shared
the_shared_half_has_four_pieces = refl

so_has_the_other_half : boundary_among corners layers (codes "Z") 16 ≡ single
so_has_the_other_half = refl

each_input_alone_gives_its_tile : map (λ name. tile_among corners layers name 16) (codes "Y" ∷ codes "Z" ∷ []) ≡ shared ∷ single ∷ []
each_input_alone_gives_its_tile = refl

the_input_has_six_nodes : length (nodes_of_input corners (input_of layers (codes "Y") 16)) ≡ 6
the_input_has_six_nodes = refl

an_end_of_g_cuts_the_edge_of_a : filter (is_on (record { left = at (pos 0) (pos 0); right = at (pos 10) (pos 0) })) (nodes_among corners layers (codes "Y")) ≡ place 0 0 ∷ place 5 0 ∷ place 10 0 ∷ []
an_end_of_g_cuts_the_edge_of_a = refl

seven_pieces_are_there_once_each : length (pieces_among corners layers (codes "Y")) ≡ 7
seven_pieces_are_there_once_each = refl
