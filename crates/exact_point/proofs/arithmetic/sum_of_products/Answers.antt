use Rattle.std.proofs.Common.{lit<}
use Rattle.overlay_terms.proofs.Bounds.{reads, mul_fits, mul_reads}
use Rattle.exact_point.proofs.MiddleLemmas.{add_fits, add_reads}
use Rattle.exact_point.proofs.arithmetic.sum_of_products.Goals as goal

pub overflow_mul-result : goal.overflow_mul-result
overflow_mul-result c = mul_fits (reads _ _ c.requires.a_small (lit< tt)) (reads _ _ c.requires.v_small (lit< tt)) (lit< tt)

pub overflow_mul-result-2 : goal.overflow_mul-result-2
overflow_mul-result-2 c = mul_fits (reads _ _ c.requires.b_small (lit< tt)) (reads _ _ c.requires.w_small (lit< tt)) (lit< tt)

pub overflow_add-result : goal.overflow_add-result
overflow_add-result c =
    let av = mul_reads (reads _ _ c.requires.a_small (lit< tt)) (reads _ _ c.requires.v_small (lit< tt)) (lit< tt) in
    let bw = mul_reads (reads _ _ c.requires.b_small (lit< tt)) (reads _ _ c.requires.w_small (lit< tt)) (lit< tt) in
    add_fits av bw (lit< tt)

pub returns-clause-value : goal.returns-clause-value
returns-clause-value c =
    let av = mul_reads (reads _ _ c.requires.a_small (lit< tt)) (reads _ _ c.requires.v_small (lit< tt)) (lit< tt) in
    let bw = mul_reads (reads _ _ c.requires.b_small (lit< tt)) (reads _ _ c.requires.w_small (lit< tt)) (lit< tt) in
    (add_reads av bw (lit< tt)).is

pub returns-clause-small : goal.returns-clause-small
returns-clause-small c =
    let av = mul_reads (reads _ _ c.requires.a_small (lit< tt)) (reads _ _ c.requires.v_small (lit< tt)) (lit< tt) in
    let bw = mul_reads (reads _ _ c.requires.b_small (lit< tt)) (reads _ _ c.requires.w_small (lit< tt)) (lit< tt) in
    let all = add_reads av bw (lit< tt) in
    rw all.is all.within
