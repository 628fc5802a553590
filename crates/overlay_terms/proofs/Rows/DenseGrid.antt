-- H is 128 flat rectangles, K is 128 upright ones, X is where one of both is: plain answers among 1,024 segments.
use Rattle.std.proofs.Common.{◌≡◌, pos, ◌*◌, ◌+◌, List, [], ◌∷◌, refl, map, length, codes}
use Rattle.std.specs.List.{range_with_len}
use Rattle.overlay_terms.specs.Plane.{WholePoint, segments_of}
use Rattle.overlay_terms.specs.Trees.{sym_difference}
use Rattle.overlay_terms.specs.Layers.{Layer, answer_at, inside, outside}
use Rattle.overlay_terms.proofs.Rows.Shared.{place, rectangle, base_layer, made_layer}

abbrev flat : List (List WholePoint)
flat = map (λ i. rectangle (pos 1) (pos (4 * i)) (pos 511) (pos (4 * i + 2))) (range_with_len 0 128)

abbrev upright : List (List WholePoint)
upright = map (λ i. rectangle (pos (4 * i)) (pos 1) (pos (4 * i + 2)) (pos 511)) (range_with_len 0 128)

abbrev layers : List Layer
layers = base_layer (codes "H") flat ∷ base_layer (codes "K") upright ∷ made_layer (codes "X") sym_difference (codes "H") (codes "K") ∷ []

each_layer_has_512_segments : map (λ rings. length (segments_of rings)) (flat ∷ upright ∷ []) ≡ 512 ∷ 512 ∷ []
each_layer_has_512_segments = refl

between_flat_ones_an_upright_one_is_in : answer_at layers (codes "X") (place 5 3) ≡ inside
between_flat_ones_an_upright_one_is_in = refl

between_both_is_out : answer_at layers (codes "X") (place 3 3) ≡ outside
between_both_is_out = refl

in_both_is_out : answer_at layers (codes "X") (place 5 5) ≡ outside
in_both_is_out = refl
