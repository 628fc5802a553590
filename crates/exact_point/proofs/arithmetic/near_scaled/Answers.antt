use Rattle.std.proofs.Common.{lit<}
use Rattle.overlay_terms.specs.Plane.{coordinate_max}
use Rattle.overlay_terms.specs.Within.{IsWithin}
use Rattle.exact_point.proofs.NarrowBounds.{narrow_mul_fits, narrow_mul_reads, narrow_reads}
use Rattle.exact_point.proofs.arithmetic.near_scaled.Goals as goal

pub overflow_mul-result : goal.overflow_mul-result
overflow_mul-result c =
    let x : IsWithin coordinate_max c.args.x = record { low = c.requires.x_small.0; high = c.requires.x_small.1 } in
    narrow_mul_fits (narrow_reads _ _ x (lit< tt)) (narrow_reads _ _ c.requires.w_small (lit< tt)) (lit< tt)

pub returns : goal.returns
returns c =
    let x : IsWithin coordinate_max c.args.x = record { low = c.requires.x_small.0; high = c.requires.x_small.1 } in
    (narrow_mul_reads (narrow_reads _ _ x (lit< tt)) (narrow_reads _ _ c.requires.w_small (lit< tt)) (lit< tt)).is
