use Rattle.std.proofs.Common.{lit<}
use Rattle.overlay_terms.proofs.Bounds.{mul_reads, sub_fits, sub_reads}
use Rattle.exact_point.proofs.NarrowBounds.{widened}
use Rattle.exact_point.proofs.arithmetic.near_cross.Goals as goal

pub overflow_sub-result : goal.overflow_sub-result
overflow_sub-result c =
    let ad = mul_reads (widened c.requires.a_small (lit< tt) c.from.ensures) (widened c.requires.d_small (lit< tt) c.from-2.ensures) (lit< tt) in
    let bc = mul_reads (widened c.requires.b_small (lit< tt) c.from-3.ensures) (widened c.requires.c_small (lit< tt) c.from-4.ensures) (lit< tt) in
    sub_fits ad bc (lit< tt)

pub returns : goal.returns
returns c =
    let ad = mul_reads (widened c.requires.a_small (lit< tt) c.from.ensures) (widened c.requires.d_small (lit< tt) c.from-2.ensures) (lit< tt) in
    let bc = mul_reads (widened c.requires.b_small (lit< tt) c.from-3.ensures) (widened c.requires.c_small (lit< tt) c.from-4.ensures) (lit< tt) in
    (sub_reads ad bc (lit< tt)).is
