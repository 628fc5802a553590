-- A triangle T, a strip S across it, and F, what they share: four corners with thirds.
use Rattle.std.proofs.Common.{◌≡◌, pos, true, false, List, [], ◌∷◌, refl, map, length, codes}
use Rattle.overlay_terms.specs.Plane.{WholePoint, Point, Segment, same_place}
use Rattle.overlay_terms.specs.Trees.{intersection}
use Rattle.overlay_terms.specs.Layers.{Layer, answer_at, inside, outside, edge}
use Rattle.overlay_terms.specs.Tiles.{is_crossing, is_end, is_node, is_parallel}
use Rattle.overlay_terms.proofs.Rows.Shared.{minus, at, point, part, place, rectangle, base_layer, made_layer, nodes_among, pieces_among, boundary_among, tile_among}

abbrev triangle : List WholePoint
triangle = at (pos 0) (pos 0) ∷ at (pos 3) (pos 1) ∷ at (pos 0) (pos 2) ∷ at (pos 0) (pos 0) ∷ []

abbrev pub layers : List Layer
layers =
    base_layer (codes "T") (triangle ∷ []) ∷ base_layer (codes "S") (rectangle (pos 1) (minus 1) (pos 2) (pos 3) ∷ []) ∷ made_layer (codes "F") intersection (codes "T") (codes "S") ∷ []

-- all corners and crossings, and (1, 1)
abbrev pub corners : List Point
corners =
    place 0 0 ∷ place 0 2 ∷ point (pos 1) (minus 1) 1 ∷ part 3 1 3 ∷ place 1 1 ∷ part 3 5 3 ∷ place 1 3
    ∷ point (pos 2) (minus 1) 1 ∷ part 6 2 3 ∷ part 6 4 3 ∷ place 2 3 ∷ place 3 1 ∷ []

abbrev boundary : List (Point × Point)
boundary =
    (part 3 1 3, part 3 5 3) ∷ (part 3 1 3, part 6 2 3) ∷ (part 3 5 3, part 6 4 3) ∷ (part 6 2 3, part 6 4 3) ∷ []

four_pieces_have_fractional_corners : boundary_among corners layers (codes "F") 16 ≡ boundary
four_pieces_have_fractional_corners = refl

the_input_alone_gives_them : tile_among corners layers (codes "F") 16 ≡ boundary
the_input_alone_gives_them = refl

eleven_of_the_points_are_nodes : length (nodes_among corners layers (codes "F")) ≡ 11
eleven_of_the_points_are_nodes = refl

fifteen_pieces_join_them : length (pieces_among corners layers (codes "F")) ≡ 15
fifteen_pieces_join_them = refl

the_middle_of_the_strip_is_in : answer_at layers (codes "F") (part 3 2 2) ≡ inside
the_middle_of_the_strip_is_in = refl

thirds_on_an_edge_are_edge : answer_at layers (codes "F") (part 9 3 9) ≡ edge
thirds_on_an_edge_are_edge = refl

a_rounded_corner_is_out : answer_at layers (codes "F") (part 3 0 2) ≡ outside
a_rounded_corner_is_out = refl

-- the lower edge of T, and the left edge of S as far as y = 3
abbrev lower : Segment
lower = record { left = at (pos 0) (pos 0); right = at (pos 3) (pos 1) }

abbrev strip : Segment
strip = record { left = at (pos 1) (minus 1); right = at (pos 1) (pos 3) }

they_cross_at_one_third : is_crossing (lower ∷ strip ∷ []) (part 3 1 3) ≡ true
they_cross_at_one_third = refl

they_cross_nowhere_else : map (is_crossing (lower ∷ strip ∷ [])) (place 1 0 ∷ place 1 1 ∷ part 3 2 3 ∷ []) ≡ false ∷ false ∷ false ∷ []
they_cross_nowhere_else = refl

the_crossing_is_no_end : is_end (lower ∷ strip ∷ []) (part 3 1 3) ≡ false
the_crossing_is_no_end = refl

any_denominator_names_it : same_place (part 3 1 3) (part 12 4 12) ≡ true
any_denominator_names_it = refl

any_denominator_is_the_node : is_node (lower ∷ strip ∷ []) (part 12 4 12) ≡ true
any_denominator_is_the_node = refl

the_longest_diagonals_cross_at_the_origin : is_crossing (record { left = at (minus 1048576) (minus 1048576); right = at (pos 1048576) (pos 1048576) } ∷ record { left = at (minus 1048576) (pos 1048576); right = at (pos 1048576) (minus 1048576) } ∷ []) (place 0 0) ≡ true
the_longest_diagonals_cross_at_the_origin = refl

overlapping_segments_do_not_cross : is_crossing (record { left = at (pos 0) (pos 0); right = at (pos 4) (pos 4) } ∷ record { left = at (pos 1) (pos 1); right = at (pos 5) (pos 5) } ∷ []) (place 2 2) ≡ false
overlapping_segments_do_not_cross = refl

they_are_parallel : is_parallel (record { left = at (pos 0) (pos 0); right = at (pos 4) (pos 4) }) (record { left = at (pos 1) (pos 1); right = at (pos 5) (pos 5) }) ≡ true
they_are_parallel = refl

a_common_end_is_a_crossing : is_crossing (record { left = at (pos 0) (pos 0); right = at (pos 10) (pos 0) } ∷ record { left = at (pos 10) (pos 0); right = at (pos 10) (pos 10) } ∷ []) (place 10 0) ≡ true
a_common_end_is_a_crossing = refl
