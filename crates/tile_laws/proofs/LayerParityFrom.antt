-- The parity laws of a layer's tiles, from that of one tile.
use Rattle.std.specs.Prelude.{◌≡◌, ℕ, not, List, filter}
use Rattle.std.proofs.Common.{ap, sym, ◌∙◌}
use Rattle.overlay_terms.specs.Plane.{Point, is_on}
use Rattle.overlay_terms.specs.Column.{touches}
use Rattle.overlay_terms.specs.Trees.{steps_value}
use Rattle.overlay_terms.specs.Layers.{Marked, segments_in_reach, steps_in_reach}
use Rattle.overlay_terms.specs.Tiles.{input_of}
use Rattle.overlay_terms.specs.TileLaws.{is_off, ParityLaw}
use Rattle.overlay_terms.specs.LayerParity.{LayerParityLaw, InputParityLaw}
use Rattle.overlay_terms.proofs.InputLayers.{input_of_is_input, reach_is_closed}
use Rattle.overlay_terms.proofs.InputLemmas.{below_agree, input_law}
use Rattle.overlay_terms.proofs.InputLists.{any_kept}
use Rattle.overlay_terms.proofs.InputNodes.{IsIn, is_in, on_touches}
use Rattle.overlay_terms.proofs.ValueLemmas.{value_is_steps}

module _ (k : ℕ) (q : Point) (within : IsIn k q) (marked : List Marked) where
  -- a point of the column is off the segments where it is off those of them that touch the column
  off_agree : is_off (filter (λ m. touches k m.segment) marked) q ≡ is_off marked q
  off_agree = ap not (any_kept (λ (m : Marked). is_on m.segment q) (λ m. touches k m.segment) (λ m. Unit {0}) marked (λ m _ on. on_touches k q within m.segment on) (λ i d l. tt))

-- for a tile of the layer's input
pub input_parity_from : ParityLaw → InputParityLaw
input_parity_from law layers name k tile q sound few is_tile at =
    let marked : List Marked = segments_in_reach layers name in
    let within : IsIn k q = is_in k q at.positive at.within in
    law (input_of layers name k) tile q (input_of_is_input layers name k few sound.few sound.rings) is_tile at.positive at.within (off_agree k q within marked ∙ at.off)
    ∙ ap (steps_value (steps_in_reach layers name)) (below_agree k q within marked)
    ∙ sym (value_is_steps layers name q sound.orderly)

-- for a tile of all the segments that the layer reaches
pub layer_parity_from : ParityLaw → LayerParityLaw
layer_parity_from law layers name k tile q sound few is_tile at =
    input_parity_from law layers name k tile q sound few ((input_law (segments_in_reach layers name) (steps_in_reach layers name) k tile few (reach_is_closed layers name sound.rings).proper).0 is_tile) at
