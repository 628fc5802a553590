use Rattle.std.proofs.Common.{lit<}
use Rattle.exact_point.proofs.NarrowBounds.{narrow_reads, narrow_mul_fits, narrow_mul_reads}
use Rattle.overlay_grid.proofs.passing.product.Goals as goal

pub overflow_mul-result : goal.overflow_mul-result
overflow_mul-result c = narrow_mul_fits (narrow_reads _ _ c.requires.a_small (lit< tt)) (narrow_reads _ _ c.requires.b_small (lit< tt)) (lit< tt)

pub returns : goal.returns
returns c = (narrow_mul_reads (narrow_reads _ _ c.requires.a_small (lit< tt)) (narrow_reads _ _ c.requires.b_small (lit< tt)) (lit< tt)).is
