use Rattle.std.proofs.Common.{lit<}
use Rattle.overlay_terms.proofs.Bounds.{reads, mul_fits, mul_reads, sub_fits, sub_reads}
use Rattle.exact_point.proofs.NarrowBounds.{widened}
use Rattle.exact_point.proofs.arithmetic.cross.Goals as goal

pub overflow_mul-result : goal.overflow_mul-result
overflow_mul-result c = mul_fits (widened c.requires.a_small (lit< tt) c.from.ensures) (reads _ _ c.requires.d_small (lit< tt)) (lit< tt)

pub overflow_mul-result-2 : goal.overflow_mul-result-2
overflow_mul-result-2 c = mul_fits (widened c.requires.b_small (lit< tt) c.from-2.ensures) (reads _ _ c.requires.c_small (lit< tt)) (lit< tt)

pub overflow_sub-result : goal.overflow_sub-result
overflow_sub-result c =
    let ad = mul_reads (widened c.requires.a_small (lit< tt) c.from.ensures) (reads _ _ c.requires.d_small (lit< tt)) (lit< tt) in
    let bc = mul_reads (widened c.requires.b_small (lit< tt) c.from-2.ensures) (reads _ _ c.requires.c_small (lit< tt)) (lit< tt) in
    sub_fits ad bc (lit< tt)

pub returns-clause-value : goal.returns-clause-value
returns-clause-value c =
    let ad = mul_reads (widened c.requires.a_small (lit< tt) c.from.ensures) (reads _ _ c.requires.d_small (lit< tt)) (lit< tt) in
    let bc = mul_reads (widened c.requires.b_small (lit< tt) c.from-2.ensures) (reads _ _ c.requires.c_small (lit< tt)) (lit< tt) in
    (sub_reads ad bc (lit< tt)).is

pub returns-clause-small : goal.returns-clause-small
returns-clause-small c =
    let ad = mul_reads (widened c.requires.a_small (lit< tt) c.from.ensures) (reads _ _ c.requires.d_small (lit< tt)) (lit< tt) in
    let bc = mul_reads (widened c.requires.b_small (lit< tt) c.from-2.ensures) (reads _ _ c.requires.c_small (lit< tt)) (lit< tt) in
    let all = sub_reads ad bc (lit< tt) in
    rw all.is all.within
