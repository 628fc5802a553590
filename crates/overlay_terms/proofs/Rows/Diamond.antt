-- A diamond P round the origin: a vertex straight below or above a point is counted once.
use Rattle.std.proofs.Common.{◌≡◌, pos, true, false, List, [], ◌∷◌, refl, map, codes}
use Rattle.overlay_terms.specs.Plane.{WholePoint, segments_of, is_below}
use Rattle.overlay_terms.specs.Layers.{Layer, answer_at, inside, outside, edge}
use Rattle.overlay_terms.proofs.Rows.Shared.{minus, at, point, place, base_layer}

abbrev diamond : List WholePoint
diamond = at (pos 0) (minus 2) ∷ at (pos 2) (pos 0) ∷ at (pos 0) (pos 2) ∷ at (minus 2) (pos 0) ∷ at (pos 0) (minus 2) ∷ []

abbrev layers : List Layer
layers = base_layer (codes "P") (diamond ∷ []) ∷ []

the_origin_is_in : answer_at layers (codes "P") (place 0 0) ≡ inside
the_origin_is_in = refl

only_the_segment_that_begins_below_it_counts : map (λ s. is_below s (place 0 0)) (segments_of (diamond ∷ [])) ≡ true ∷ false ∷ false ∷ false ∷ []
only_the_segment_that_begins_below_it_counts = refl

above_the_diamond_is_out : answer_at layers (codes "P") (place 0 3) ≡ outside
above_the_diamond_is_out = refl

its_corners_are_edge : map (answer_at layers (codes "P")) (place 2 0 ∷ place 0 2 ∷ point (minus 2) (pos 0) 1 ∷ []) ≡ edge ∷ edge ∷ edge ∷ []
its_corners_are_edge = refl

beside_a_corner_is_out : map (answer_at layers (codes "P")) (place 3 0 ∷ point (minus 3) (pos 0) 1 ∷ []) ≡ outside ∷ outside ∷ []
beside_a_corner_is_out = refl
