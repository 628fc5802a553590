use Rattle.std.proofs.Common.{arith}
use Rattle.overlay_terms.proofs.DigitLemmas.{digit_at, power_most}
use Rattle.overlay_terms.proofs.digits.digits_value.Goals as goal

pub overflow_mul-value : goal.overflow_mul-value
overflow_mul-value c = omega (arith, power_most c.loop-digit.digit-index 17 (omega arith))

pub overflow_add-value : goal.overflow_add-value
overflow_add-value c =
    omega (arith, power_most c.loop-digit.digit-index 17 (omega arith), digit_at c.args.digits.now c.loop-digit.digit-index (omega arith) c.requires.all)
