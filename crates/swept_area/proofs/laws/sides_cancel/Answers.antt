use Rattle.std.proofs.Common.{arith}
use Rattle.std.proofs.lemmas.Int.{ints}
use Rattle.swept_area.proofs.laws.sides_cancel.Goals as goal

pub returns : goal.returns
returns c = λ s p r. omega (arith, ints)
