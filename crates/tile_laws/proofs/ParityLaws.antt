-- The parity laws, from what is proved of pieces.
use Rattle.overlay_terms.specs.TileLaws.{ParityLaw}
use Rattle.overlay_terms.specs.LayerParity.{LayerParityLaw, InputParityLaw}
use Rattle.tile_laws.proofs.SidesKept.{sides_are_kept}
use Rattle.tile_laws.proofs.PiecesOver.{each_has_a_piece}
use Rattle.tile_laws.proofs.OnePieceOver.{one_piece_over}
use Rattle.tile_laws.proofs.ParityFrom.{parity_from_pieces}
use Rattle.tile_laws.proofs.LayerParityFrom.{layer_parity_from, input_parity_from}

-- of a tile
pub parity_law : ParityLaw
parity_law = parity_from_pieces sides_are_kept each_has_a_piece one_piece_over

-- of a layer's tile
pub layer_parity_law : LayerParityLaw
layer_parity_law = layer_parity_from parity_law

-- of a tile of a layer's input
pub input_parity_law : InputParityLaw
input_parity_law = input_parity_from parity_law
