use Rattle.tile_laws.proofs.ParityLaws.{layer_parity_law}
use Rattle.tile_laws.proofs.parity.layer_parity_law.Goals as goal

pub returns : goal.returns
returns c = layer_parity_law
