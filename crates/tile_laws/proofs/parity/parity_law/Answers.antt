use Rattle.tile_laws.proofs.ParityLaws.{parity_law}
use Rattle.tile_laws.proofs.parity.parity_law.Goals as goal

pub returns : goal.returns
returns c = parity_law
