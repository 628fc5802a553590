use Rattle.std.proofs.Common.{lit<}
use Rattle.overlay_terms.specs.Plane.{coordinate_max}
use Rattle.overlay_terms.specs.Within.{IsWithin}
use Rattle.exact_point.proofs.NarrowBounds.{cut_fits, narrowed, narrow_mul_fits, narrow_mul_reads, narrow_reads, narrow_sub_fits, narrow_sub_reads}
use Rattle.exact_point.proofs.arithmetic.apart.Goals as goal

pub overflow_cast-result : goal.overflow_cast-result
overflow_cast-result c = cut_fits c.requires.a_small (lit< tt)

pub overflow_cast-result-2 : goal.overflow_cast-result-2
overflow_cast-result-2 c = cut_fits c.requires.w_small (lit< tt)

pub overflow_mul-result : goal.overflow_mul-result
overflow_mul-result c =
    let x : IsWithin coordinate_max c.args.x = record { low = c.requires.x_small.0; high = c.requires.x_small.1 } in
    narrow_mul_fits (narrow_reads _ _ x (lit< tt)) (narrowed c.requires.w_small (lit< tt)) (lit< tt)

pub overflow_sub-result : goal.overflow_sub-result
overflow_sub-result c =
    let x : IsWithin coordinate_max c.args.x = record { low = c.requires.x_small.0; high = c.requires.x_small.1 } in
    let xw = narrow_mul_reads (narrow_reads _ _ x (lit< tt)) (narrowed c.requires.w_small (lit< tt)) (lit< tt) in
    narrow_sub_fits (narrowed c.requires.a_small (lit< tt)) xw (lit< tt)

pub returns-clause-value : goal.returns-clause-value
returns-clause-value c =
    let x : IsWithin coordinate_max c.args.x = record { low = c.requires.x_small.0; high = c.requires.x_small.1 } in
    let xw = narrow_mul_reads (narrow_reads _ _ x (lit< tt)) (narrowed c.requires.w_small (lit< tt)) (lit< tt) in
    (narrow_sub_reads (narrowed c.requires.a_small (lit< tt)) xw (lit< tt)).is

pub returns-clause-small : goal.returns-clause-small
returns-clause-small c =
    let x : IsWithin coordinate_max c.args.x = record { low = c.requires.x_small.0; high = c.requires.x_small.1 } in
    let xw = narrow_mul_reads (narrow_reads _ _ x (lit< tt)) (narrowed c.requires.w_small (lit< tt)) (lit< tt) in
    let all = narrow_sub_reads (narrowed c.requires.a_small (lit< tt)) xw (lit< tt) in
    rw all.is all.within
