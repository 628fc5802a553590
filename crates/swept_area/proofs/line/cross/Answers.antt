use Rattle.std.proofs.Common.{lit<}
use Rattle.overlay_terms.proofs.Bounds.{mul_reads, sub_fits, sub_reads}
use Rattle.exact_point.proofs.NarrowBounds.{widened}
use Rattle.swept_area.proofs.line.cross.Goals as goal

pub overflow_sub-result : goal.overflow_sub-result
overflow_sub-result c =
    let ad = mul_reads (widened c.requires.x_small (lit< tt) c.from.ensures) (widened c.requires.rise_small (lit< tt) c.from-2.ensures) (lit< tt) in
    let bc = mul_reads (widened c.requires.y_small (lit< tt) c.from-3.ensures) (widened c.requires.run_small (lit< tt) c.from-4.ensures) (lit< tt) in
    sub_fits ad bc (lit< tt)

pub returns-clause-value : goal.returns-clause-value
returns-clause-value c =
    let ad = mul_reads (widened c.requires.x_small (lit< tt) c.from.ensures) (widened c.requires.rise_small (lit< tt) c.from-2.ensures) (lit< tt) in
    let bc = mul_reads (widened c.requires.y_small (lit< tt) c.from-3.ensures) (widened c.requires.run_small (lit< tt) c.from-4.ensures) (lit< tt) in
    (sub_reads ad bc (lit< tt)).is

pub returns-clause-small : goal.returns-clause-small
returns-clause-small c =
    let ad = mul_reads (widened c.requires.x_small (lit< tt) c.from.ensures) (widened c.requires.rise_small (lit< tt) c.from-2.ensures) (lit< tt) in
    let bc = mul_reads (widened c.requires.y_small (lit< tt) c.from-3.ensures) (widened c.requires.run_small (lit< tt) c.from-4.ensures) (lit< tt) in
    let all = sub_reads ad bc (lit< tt) in
    rw all.is all.within
