-- A unit square Q in the corner of the plane, and R, the same: its right edge is all that the last column holds.
use Rattle.std.proofs.Common.{◌≡◌, ℕ, pos, true, List, [], ◌∷◌, refl, map, length, codes, replicate, filter}
use Rattle.overlay_terms.specs.Plane.{Point, coordinate_max, ring_step_count, segments_of}
use Rattle.overlay_terms.specs.Column.{columns, column_count, border, is_in_column, touches}
use Rattle.overlay_terms.specs.Layers.{Layer, answer_at, outside, edge}
use Rattle.overlay_terms.specs.Tiles.{is_on_border, input_of}
use Rattle.overlay_terms.proofs.Rows.Shared.{minus, at, point, part, place, square, base_layer, same_layer, reached, boundary_among, tile_among, unmarked}

abbrev near : ℕ
near = 1048575

abbrev far : ℕ
far = 1048576

abbrev pub layers : List Layer
layers = base_layer (codes "Q") (square near far ∷ []) ∷ same_layer (codes "R") (codes "Q") ∷ []

abbrev pub corners : List Point
corners = place near near ∷ place near far ∷ place far near ∷ place far far ∷ []

abbrev last_tile : List (Point × Point)
last_tile = (place far near, place far far) ∷ []

abbrev tile_before : List (Point × Point)
tile_before = (place near near, place near far) ∷ (place near near, place far near) ∷ (place near far, place far far) ∷ []

one_piece_begins_in_the_last_column : boundary_among corners layers (codes "R") 32 ≡ last_tile
one_piece_begins_in_the_last_column = refl

three_pieces_begin_in_the_column_before : boundary_among corners layers (codes "R") 31 ≡ tile_before
three_pieces_begin_in_the_column_before = refl

each_input_alone_gives_its_tile : map (tile_among corners layers (codes "R")) (30 ∷ 31 ∷ 32 ∷ []) ≡ [] ∷ tile_before ∷ last_tile ∷ []
each_input_alone_gives_its_tile = refl

the_last_input_has_the_edges_that_reach_the_border : length (unmarked (input_of layers (codes "R") 32).marked) ≡ 3
the_last_input_has_the_edges_that_reach_the_border = refl

the_input_before_lacks_the_right_edge : length (unmarked (input_of layers (codes "R") 31).marked) ≡ 3
the_input_before_lacks_the_right_edge = refl

the_corner_is_edge : answer_at layers (codes "R") (place far far) ≡ edge
the_corner_is_edge = refl

beside_the_square_is_out : answer_at layers (codes "R") (part 2097149 2097151 2) ≡ outside
beside_the_square_is_out = refl

the_corner_is_on_the_last_border : is_on_border (reached layers (codes "R")) (place far far) ≡ true
the_corner_is_on_the_last_border = refl

there_are_thirty_three_columns : length columns ≡ column_count
there_are_thirty_three_columns = refl

the_last_begins_at_the_largest_coordinate : border 32 ≡ pos coordinate_max
the_last_begins_at_the_largest_coordinate = refl

the_first_begins_at_the_smallest : border 0 ≡ minus coordinate_max
the_first_begins_at_the_smallest = refl

a_point_lies_in_one_column : map (λ p. filter (λ k. is_in_column k p) columns) (place far 0 ∷ point (minus 1) (pos 0) 3 ∷ place 65535 0 ∷ place 65536 0 ∷ point (minus far) (pos 0) 1 ∷ []) ≡ (32 ∷ []) ∷ (15 ∷ []) ∷ (16 ∷ []) ∷ (17 ∷ []) ∷ (0 ∷ []) ∷ []
a_point_lies_in_one_column = refl

a_segment_across_the_plane_touches_all : filter (λ k. touches k (record { left = at (minus far) (pos 0); right = at (pos far) (pos 1) })) columns ≡ columns
a_segment_across_the_plane_touches_all = refl

a_ring_of_2050_points_has_2049_steps : ring_step_count (replicate 2050 (at (pos 0) (pos 0)) ∷ []) ≡ 2049
a_ring_of_2050_points_has_2049_steps = refl

equal_points_give_no_segment : segments_of (replicate 2050 (at (pos 0) (pos 0)) ∷ []) ≡ []
equal_points_give_no_segment = refl
