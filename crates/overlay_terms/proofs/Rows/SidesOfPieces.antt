-- The sides of every piece of the worked rows are the values just beside its middle, and the tiles give the values by parity.
use Rattle.std.proofs.Common.{◌≡◌, ℤ, pos, true, false, neg_ℤ, ◌+ℤ◌, ◌*ℤ◌, ◌%◌, ◌==◌, int_eq, Bool, List, [], ◌∷◌, refl, map, count_by, codes, if◌then◌else◌}
use Rattle.overlay_terms.specs.Plane.{Point}
use Rattle.overlay_terms.specs.Layers.{Name, Layer, value_of, segments_in_reach, steps_in_reach}
use Rattle.overlay_terms.specs.Tiles.{midpoint, under_of, over_of}
use Rattle.overlay_terms.specs.TileLaws.{is_pair_below, is_off, ends_at}
use Rattle.overlay_terms.proofs.Rows.Shared.{minus, at, part, place, pieces_among, boundary_among}
use Rattle.overlay_terms.proofs.Rows.FirstRun.{first_run}
use Rattle.overlay_terms.proofs.Rows.VerticalEdges as squares
use Rattle.overlay_terms.proofs.Rows.ColumnBorder as border
use Rattle.overlay_terms.proofs.Rows.FractionalCorners as fractional
use Rattle.overlay_terms.proofs.Rows.SharedBorder as side_by_side
use Rattle.overlay_terms.proofs.Rows.SelfCrossing as bow
use Rattle.overlay_terms.proofs.Rows.DoubledSquare as doubled
use Rattle.overlay_terms.proofs.Rows.FarCorner as far
use Rattle.overlay_terms.proofs.Rows.CollinearOperands as collinear

-- a point moved by thousandths
abbrev moved : ℤ → ℤ → Point → Point
moved right up p =
    record { x = (p.x *ℤ pos 1000) +ℤ (right *ℤ p.w); y = (p.y *ℤ pos 1000) +ℤ (up *ℤ p.w); w = p.w *ℤ pos 1000 }

-- the middle of a piece moved across it: upwards, or to the left where the piece is vertical
abbrev beside : ℤ → Point × Point → Point
beside step a =
    if int_eq (a.0.x *ℤ a.1.w) (a.1.x *ℤ a.0.w) then moved (neg_ℤ step) (pos 0) (midpoint a.0 a.1) else moved (pos 0) step (midpoint a.0 a.1)

-- the under sides and the over sides of pieces; the values on either side of them
abbrev sides : List Point → List Layer → Name → List (Bool × Bool)
sides points layers name =
    map (λ a. (under_of (segments_in_reach layers name) (steps_in_reach layers name) a.0 a.1, over_of (segments_in_reach layers name) (steps_in_reach layers name) a.0 a.1)) (pieces_among points layers name)

abbrev values_beside : List Point → List Layer → Name → List (Bool × Bool)
values_beside points layers name =
    map (λ a. (value_of layers name (beside (minus 1) a), value_of layers name (beside (pos 1) a))) (pieces_among points layers name)

of_the_two_squares : sides squares.corners first_run (codes "I") ≡ values_beside squares.corners first_run (codes "I")
of_the_two_squares = refl

of_the_square_across_the_border : sides border.corners border.layers (codes "E") ≡ values_beside border.corners border.layers (codes "E")
of_the_square_across_the_border = refl

of_the_triangle_and_the_strip : sides fractional.corners fractional.layers (codes "F") ≡ values_beside fractional.corners fractional.layers (codes "F")
of_the_triangle_and_the_strip = refl

of_the_squares_side_by_side : sides side_by_side.corners side_by_side.layers (codes "U") ≡ values_beside side_by_side.corners side_by_side.layers (codes "U")
of_the_squares_side_by_side = refl

of_the_ring_that_crosses_itself : sides bow.corners bow.layers (codes "V") ≡ values_beside bow.corners bow.layers (codes "V")
of_the_ring_that_crosses_itself = refl

of_the_square_given_twice : sides doubled.corners doubled.layers (codes "O") ≡ values_beside doubled.corners doubled.layers (codes "O")
of_the_square_given_twice = refl

of_the_far_corner : sides far.corners far.layers (codes "R") ≡ values_beside far.corners far.layers (codes "R")
of_the_far_corner = refl

of_the_shared_half : sides collinear.corners collinear.layers (codes "Y") ≡ values_beside collinear.corners collinear.layers (codes "Y")
of_the_shared_half = refl

of_the_other_half : sides collinear.corners collinear.layers (codes "Z") ≡ values_beside collinear.corners collinear.layers (codes "Z")
of_the_other_half = refl

-- whether an odd number of pieces is below each point
abbrev parities : List (Point × Point) → List Point → List Bool
parities tile points = map (λ q. count_by (is_pair_below q) tile % 2 == 1) points

-- points off the edges, some straight above corners
abbrev above : List Point
above = place 5 2 ∷ place 7 7 ∷ place 6 9 ∷ place 10 12 ∷ part 19 19 2 ∷ place 12 7 ∷ place 7 20 ∷ part 3 2 2 ∷ part 5 4 3 ∷ part 1 4 2 ∷ place 2 3 ∷ part 41 11 40 ∷ []

of_the_two_squares_by_parity : parities (boundary_among squares.corners first_run (codes "I") 16) above ≡ map (value_of first_run (codes "I")) above
of_the_two_squares_by_parity = refl

of_fractional_corners_by_parity : parities (boundary_among fractional.corners fractional.layers (codes "F") 16) above ≡ map (value_of fractional.layers (codes "F")) above
of_fractional_corners_by_parity = refl

of_both_squares_by_parity : parities (boundary_among side_by_side.corners side_by_side.layers (codes "U") 16) above ≡ map (value_of side_by_side.layers (codes "U")) above
of_both_squares_by_parity = refl

of_the_bow_by_parity : parities (boundary_among bow.corners bow.layers (codes "V") 16) above ≡ map (value_of bow.layers (codes "V")) above
of_the_bow_by_parity = refl

ten_five_is_on_an_edge_and_the_others_are_off : map (is_off (segments_in_reach side_by_side.layers (codes "U"))) (place 10 5 ∷ place 10 12 ∷ place 7 7 ∷ []) ≡ false ∷ true ∷ true ∷ []
ten_five_is_on_an_edge_and_the_others_are_off = refl

two_segments_of_each_square_end_at_a_common_corner : map (λ k. ends_at (segments_in_reach side_by_side.layers (codes "U")) k (at (pos 10) (pos 0))) (0 ∷ 1 ∷ 2 ∷ []) ≡ 2 ∷ 2 ∷ 0 ∷ []
two_segments_of_each_square_end_at_a_common_corner = refl

a_pair_is_below_from_its_left_end_to_before_its_right : map (λ q. is_pair_below q (part 3 1 3, part 6 2 3)) (part 9 2 9 ∷ place 1 1 ∷ place 2 9 ∷ part 3 1 3 ∷ part 3 1 2 ∷ []) ≡ false ∷ true ∷ false ∷ false ∷ false ∷ []
a_pair_is_below_from_its_left_end_to_before_its_right = refl
