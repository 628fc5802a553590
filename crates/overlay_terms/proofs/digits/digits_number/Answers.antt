use Rattle.std.proofs.Common.{arith, length}
use Rattle.overlay_terms.proofs.DigitLemmas.{power_most}
use Rattle.overlay_terms.proofs.digits.digits_number.Goals as goal

pub returns-clause-small : goal.returns-clause-small
returns-clause-small c = omega (arith, c.digits_value.ensures.small, power_most (length c.args.bytes.now) c.args.most (omega arith))
