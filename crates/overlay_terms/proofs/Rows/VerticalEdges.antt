-- The tile of I where its two squares overlap: four pieces, two of them vertical.
use Rattle.std.proofs.Common.{◌≡◌, pos, true, false, List, [], ◌∷◌, refl, map, length, codes, filter}
use Rattle.overlay_terms.specs.Plane.{Point, is_on}
use Rattle.overlay_terms.specs.Tiles.{input_of, is_node, under_of, over_of, midpoint, below_bits, over_bits}
use Rattle.overlay_terms.specs.Layers.{Marked, segments_in_reach, steps_in_reach}
use Rattle.overlay_terms.proofs.Rows.Shared.{at, part, place, reached, nodes_among, pieces_among, boundary_among, tile_among, nodes_of_input}
use Rattle.overlay_terms.proofs.Rows.FirstRun.{first_run}

-- the corners and crossings of both squares, and (7, 7)
abbrev pub corners : List Point
corners =
    place 0 0 ∷ place 0 10 ∷ place 5 5 ∷ place 5 10 ∷ place 5 15 ∷ place 7 7 ∷ place 10 0 ∷ place 10 5 ∷ place 10 10 ∷ place 15 5 ∷ place 15 15 ∷ []

abbrev boundary : List (Point × Point)
boundary =
    (place 5 5, place 5 10) ∷ (place 5 5, place 10 5) ∷ (place 5 10, place 10 10) ∷ (place 10 5, place 10 10) ∷ []

ten_of_the_points_are_nodes : length (nodes_among corners first_run (codes "I")) ≡ 10
ten_of_the_points_are_nodes = refl

seven_seven_is_no_node : is_node (reached first_run (codes "I")) (place 7 7) ≡ false
seven_seven_is_no_node = refl

the_top_edge_of_a_holds_three_nodes : filter (is_on (record { left = at (pos 0) (pos 10); right = at (pos 10) (pos 10) })) (nodes_among corners first_run (codes "I")) ≡ place 0 10 ∷ place 5 10 ∷ place 10 10 ∷ []
the_top_edge_of_a_holds_three_nodes = refl

twelve_pieces_join_them : length (pieces_among corners first_run (codes "I")) ≡ 12
twelve_pieces_join_them = refl

four_pieces_are_boundary : boundary_among corners first_run (codes "I") 16 ≡ boundary
four_pieces_are_boundary = refl

the_input_alone_gives_them : tile_among corners first_run (codes "I") 16 ≡ boundary
the_input_alone_gives_them = refl

the_input_has_ten_nodes : length (nodes_of_input corners (input_of first_run (codes "I") 16)) ≡ 10
the_input_has_ten_nodes = refl

all_eight_segments_touch_the_column : (input_of first_run (codes "I") 16).marked ≡ segments_in_reach first_run (codes "I")
all_eight_segments_touch_the_column = refl

four_are_of_each_square : map (λ (m : Marked). m.layer) (segments_in_reach first_run (codes "I")) ≡ 0 ∷ 0 ∷ 0 ∷ 0 ∷ 1 ∷ 1 ∷ 1 ∷ 1 ∷ []
four_are_of_each_square = refl

the_last_column_has_no_input : input_of first_run (codes "I") 32 ≡ record { column = 32; marked = []; steps = steps_in_reach first_run (codes "I") }
the_last_column_has_no_input = refl

the_next_column_has_no_piece : boundary_among corners first_run (codes "I") 9 ≡ []
the_next_column_has_no_piece = refl

-- of the vertical piece from (5, 5) to (5, 10)
just_right_of_it_is_inside : under_of (segments_in_reach first_run (codes "I")) (steps_in_reach first_run (codes "I")) (place 5 5) (place 5 10) ≡ true
just_right_of_it_is_inside = refl

just_left_of_it_is_outside : over_of (segments_in_reach first_run (codes "I")) (steps_in_reach first_run (codes "I")) (place 5 5) (place 5 10) ≡ false
just_left_of_it_is_outside = refl

its_middle_is_halves : midpoint (place 5 5) (place 5 10) ≡ part 10 15 2
its_middle_is_halves = refl

right_of_it_both_are_odd : map (below_bits (segments_in_reach first_run (codes "I")) (part 10 15 2)) (0 ∷ 1 ∷ []) ≡ true ∷ true ∷ []
right_of_it_both_are_odd = refl

left_of_it_a_alone_is_odd : map (over_bits (segments_in_reach first_run (codes "I")) (part 10 15 2)) (0 ∷ 1 ∷ []) ≡ true ∷ false ∷ []
left_of_it_a_alone_is_odd = refl
