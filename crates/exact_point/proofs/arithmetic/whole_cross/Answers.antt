use Rattle.std.proofs.Common.{lit<}
use Rattle.exact_point.proofs.NarrowBounds.{narrow_reads, narrow_mul_fits, narrow_mul_reads, narrow_sub_fits, narrow_sub_reads}
use Rattle.exact_point.proofs.arithmetic.whole_cross.Goals as goal

pub overflow_mul-result : goal.overflow_mul-result
overflow_mul-result c = narrow_mul_fits (narrow_reads _ _ c.requires.a_small (lit< tt)) (narrow_reads _ _ c.requires.d_small (lit< tt)) (lit< tt)

pub overflow_mul-result-2 : goal.overflow_mul-result-2
overflow_mul-result-2 c = narrow_mul_fits (narrow_reads _ _ c.requires.b_small (lit< tt)) (narrow_reads _ _ c.requires.c_small (lit< tt)) (lit< tt)

pub overflow_sub-result : goal.overflow_sub-result
overflow_sub-result c =
    let ad = narrow_mul_reads (narrow_reads _ _ c.requires.a_small (lit< tt)) (narrow_reads _ _ c.requires.d_small (lit< tt)) (lit< tt) in
    let bc = narrow_mul_reads (narrow_reads _ _ c.requires.b_small (lit< tt)) (narrow_reads _ _ c.requires.c_small (lit< tt)) (lit< tt) in
    narrow_sub_fits ad bc (lit< tt)

pub returns-clause-value : goal.returns-clause-value
returns-clause-value c =
    let ad = narrow_mul_reads (narrow_reads _ _ c.requires.a_small (lit< tt)) (narrow_reads _ _ c.requires.d_small (lit< tt)) (lit< tt) in
    let bc = narrow_mul_reads (narrow_reads _ _ c.requires.b_small (lit< tt)) (narrow_reads _ _ c.requires.c_small (lit< tt)) (lit< tt) in
    (narrow_sub_reads ad bc (lit< tt)).is

pub returns-clause-small : goal.returns-clause-small
returns-clause-small c =
    let ad = narrow_mul_reads (narrow_reads _ _ c.requires.a_small (lit< tt)) (narrow_reads _ _ c.requires.d_small (lit< tt)) (lit< tt) in
    let bc = narrow_mul_reads (narrow_reads _ _ c.requires.b_small (lit< tt)) (narrow_reads _ _ c.requires.c_small (lit< tt)) (lit< tt) in
    let all = narrow_sub_reads ad bc (lit< tt) in
    rw all.is all.within
