use Rattle.std.proofs.Common.{lit<}
use Rattle.overlay_terms.proofs.Bounds.{mul_fits, mul_reads}
use Rattle.exact_point.proofs.NarrowBounds.{widened}
use Rattle.exact_point.proofs.arithmetic.wide.Goals as goal

pub overflow_mul-result : goal.overflow_mul-result
overflow_mul-result c = mul_fits (widened c.requires.a_small (lit< tt) c.from.ensures) (widened c.requires.w_small (lit< tt) c.from-2.ensures) (lit< tt)

pub returns-clause-value : goal.returns-clause-value
returns-clause-value c = (mul_reads (widened c.requires.a_small (lit< tt) c.from.ensures) (widened c.requires.w_small (lit< tt) c.from-2.ensures) (lit< tt)).is

pub returns-clause-small : goal.returns-clause-small
returns-clause-small c =
    let all = mul_reads (widened c.requires.a_small (lit< tt) c.from.ensures) (widened c.requires.w_small (lit< tt) c.from-2.ensures) (lit< tt) in
    rw all.is all.within
