-- N is one square twice, and O the same: nothing is inside, all of it is edge, and no piece is boundary.
use Rattle.std.proofs.Common.{◌≡◌, true, false, List, [], ◌∷◌, refl, map, length, codes}
use Rattle.overlay_terms.specs.Plane.{Point, segments_of, is_inside, is_below}
use Rattle.overlay_terms.specs.Layers.{Layer, answer_at, outside, edge}
use Rattle.overlay_terms.proofs.Rows.Shared.{place, square, base_layer, same_layer, nodes_among, pieces_among, boundary_among, tile_among}
use Rattle.std.specs.Prelude.{count_by}

abbrev pub layers : List Layer
layers = base_layer (codes "N") (square 0 10 ∷ square 0 10 ∷ []) ∷ same_layer (codes "O") (codes "N") ∷ []

abbrev pub corners : List Point
corners = place 0 0 ∷ place 0 10 ∷ place 5 5 ∷ place 10 0 ∷ place 10 10 ∷ []

the_middle_is_out : answer_at layers (codes "O") (place 5 5) ≡ outside
the_middle_is_out = refl

two_segments_are_below_it : count_by (λ s. is_below s (place 5 5)) (segments_of (square 0 10 ∷ square 0 10 ∷ [])) ≡ 2
two_segments_are_below_it = refl

once_it_would_be_inside : map (λ rings. is_inside (segments_of rings) (place 5 5)) ((square 0 10 ∷ []) ∷ (square 0 10 ∷ square 0 10 ∷ []) ∷ []) ≡ true ∷ false ∷ []
once_it_would_be_inside = refl

its_border_is_edge : answer_at layers (codes "O") (place 0 5) ≡ edge
its_border_is_edge = refl

the_segments_are_kept_twice : length (segments_of (square 0 10 ∷ square 0 10 ∷ [])) ≡ 8
the_segments_are_kept_twice = refl

the_nodes_are_its_corners : length (nodes_among corners layers (codes "O")) ≡ 4
the_nodes_are_its_corners = refl

each_piece_is_there_once : pieces_among corners layers (codes "O") ≡ (place 0 0, place 0 10) ∷ (place 0 0, place 10 0) ∷ (place 0 10, place 10 10) ∷ (place 10 0, place 10 10) ∷ []
each_piece_is_there_once = refl

no_piece_is_boundary : boundary_among corners layers (codes "O") 16 ≡ []
no_piece_is_boundary = refl

the_input_alone_gives_none : tile_among corners layers (codes "O") 16 ≡ []
the_input_alone_gives_none = refl
