use Rattle.tile_laws.proofs.ParityLaws.{input_parity_law}
use Rattle.tile_laws.proofs.parity.input_parity_law.Goals as goal

pub returns : goal.returns
returns c = input_parity_law
