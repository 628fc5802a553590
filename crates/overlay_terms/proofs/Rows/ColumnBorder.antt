-- A square D across the border x = 0, and E, the same: its edges are cut there, and its pieces stand in two tiles.
use Rattle.std.proofs.Common.{◌≡◌, pos, true, false, List, [], ◌∷◌, refl, map, length, codes}
use Rattle.overlay_terms.specs.Plane.{Point, Segment}
use Rattle.overlay_terms.specs.Column.{border, is_in_column, touches}
use Rattle.overlay_terms.specs.Layers.{Layer}
use Rattle.overlay_terms.specs.Tiles.{is_end, is_on_border, is_node, input_of}
use Rattle.overlay_terms.proofs.Rows.Shared.{minus, at, point, place, rectangle, base_layer, same_layer, reached, pieces_among, boundary_among, tile_among, nodes_of_input, unmarked}

abbrev pub layers : List Layer
layers = base_layer (codes "D") (rectangle (minus 10) (minus 10) (pos 10) (pos 10) ∷ []) ∷ same_layer (codes "E") (codes "D") ∷ []

-- the corners, the places below and above the origin, and the origin
abbrev pub corners : List Point
corners =
    point (minus 10) (minus 10) 1 ∷ point (minus 10) (pos 10) 1 ∷ point (pos 0) (minus 10) 1 ∷ place 0 0 ∷ place 0 10
    ∷ point (pos 10) (minus 10) 1 ∷ place 10 10 ∷ []

abbrev left_tile : List (Point × Point)
left_tile =
    (point (minus 10) (minus 10) 1, point (minus 10) (pos 10) 1) ∷ (point (minus 10) (minus 10) 1, point (pos 0) (minus 10) 1)
    ∷ (point (minus 10) (pos 10) 1, place 0 10) ∷ []

abbrev right_tile : List (Point × Point)
right_tile =
    (point (pos 0) (minus 10) 1, point (pos 10) (minus 10) 1) ∷ (place 0 10, place 10 10) ∷ (point (pos 10) (minus 10) 1, place 10 10) ∷ []

-- the upper and the lower edge, the right and the left one
abbrev low : Segment
low = record { left = at (minus 10) (minus 10); right = at (pos 10) (minus 10) }

abbrev right : Segment
right = record { left = at (pos 10) (minus 10); right = at (pos 10) (pos 10) }

abbrev high : Segment
high = record { left = at (minus 10) (pos 10); right = at (pos 10) (pos 10) }

abbrev left : Segment
left = record { left = at (minus 10) (minus 10); right = at (minus 10) (pos 10) }

column_sixteen_begins_at_zero : border 16 ≡ pos 0
column_sixteen_begins_at_zero = refl

the_place_below_the_origin_is_on_the_border : is_on_border (reached layers (codes "E")) (point (pos 0) (minus 10) 1) ≡ true
the_place_below_the_origin_is_on_the_border = refl

it_is_no_end : is_end (reached layers (codes "E")) (point (pos 0) (minus 10) 1) ≡ false
it_is_no_end = refl

the_origin_is_no_node : is_node (reached layers (codes "E")) (place 0 0) ≡ false
the_origin_is_no_node = refl

six_pieces_go_round : length (pieces_among corners layers (codes "E")) ≡ 6
six_pieces_go_round = refl

three_pieces_are_left_of_the_border : boundary_among corners layers (codes "E") 15 ≡ left_tile
three_pieces_are_left_of_the_border = refl

three_pieces_are_right_of_the_border : boundary_among corners layers (codes "E") 16 ≡ right_tile
three_pieces_are_right_of_the_border = refl

each_input_alone_gives_its_tile : map (tile_among corners layers (codes "E")) (14 ∷ 15 ∷ 16 ∷ 17 ∷ []) ≡ [] ∷ left_tile ∷ right_tile ∷ [] ∷ []
each_input_alone_gives_its_tile = refl

the_left_input_lacks_the_right_edge : unmarked (input_of layers (codes "E") 15).marked ≡ low ∷ high ∷ left ∷ []
the_left_input_lacks_the_right_edge = refl

the_right_input_lacks_the_left_edge : unmarked (input_of layers (codes "E") 16).marked ≡ low ∷ right ∷ high ∷ []
the_right_input_lacks_the_left_edge = refl

the_right_input_has_four_nodes : length (nodes_of_input corners (input_of layers (codes "E") 16)) ≡ 4
the_right_input_has_four_nodes = refl

an_edge_that_ends_on_the_border_touches_both_columns : map (λ k. touches k (record { left = at (minus 10) (pos 0); right = at (pos 0) (pos 0) })) (14 ∷ 15 ∷ 16 ∷ 17 ∷ []) ≡ false ∷ true ∷ true ∷ false ∷ []
an_edge_that_ends_on_the_border_touches_both_columns = refl

an_edge_that_begins_on_the_border_touches_one : map (λ k. touches k (record { left = at (pos 0) (pos 0); right = at (pos 0) (pos 5) })) (15 ∷ 16 ∷ 17 ∷ []) ≡ false ∷ true ∷ false ∷ []
an_edge_that_begins_on_the_border_touches_one = refl

the_border_belongs_to_the_right_column : map (λ k. is_in_column k (point (pos 0) (minus 10) 1)) (15 ∷ 16 ∷ []) ≡ false ∷ true ∷ []
the_border_belongs_to_the_right_column = refl
