use Rattle.std.proofs.Common.{arith}
use Rattle.root_reading.proofs.records.read_front.Goals as goal

pub returns-clause-bytes : goal.returns-clause-bytes
returns-clause-bytes g i = omega (arith, g.type_inv.bytes i)
