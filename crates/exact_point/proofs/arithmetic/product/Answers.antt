use Rattle.std.proofs.Common.{lit<}
use Rattle.overlay_terms.proofs.Bounds.{reads, mul_fits, mul_reads}
use Rattle.exact_point.proofs.NarrowBounds.{unsigned}
use Rattle.exact_point.proofs.arithmetic.product.Goals as goal

pub overflow_mul-result : goal.overflow_mul-result
overflow_mul-result c = mul_fits (reads _ _ c.requires.a_small (lit< tt)) (unsigned c.requires.w_low c.requires.w_small (lit< tt) c.from.ensures) (lit< tt)

pub returns-clause-value : goal.returns-clause-value
returns-clause-value c = (mul_reads (reads _ _ c.requires.a_small (lit< tt)) (unsigned c.requires.w_low c.requires.w_small (lit< tt) c.from.ensures) (lit< tt)).is

pub returns-clause-small : goal.returns-clause-small
returns-clause-small c =
    let all = mul_reads (reads _ _ c.requires.a_small (lit< tt)) (unsigned c.requires.w_low c.requires.w_small (lit< tt) c.from.ensures) (lit< tt) in
    rw all.is all.within
