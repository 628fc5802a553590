use Rattle.std.proofs.Common.{◌∙◌, ap, lit<, to_z, of_z}
use Rattle.std.specs.Int.{w64}
use Rattle.overlay_terms.specs.Plane.{coordinate_max}
use Rattle.overlay_terms.specs.Within.{IsWithin}
use Rattle.overlay_terms.proofs.Bounds.{read, mul_fits, mul_reads}
use Rattle.exact_point.proofs.NarrowBounds.{cut_fits, widened}
use Rattle.exact_point.proofs.arithmetic.scaled.Goals as goal

pub overflow_cast-w : goal.overflow_cast-w
overflow_cast-w c = cut_fits c.requires.w_small (lit< tt)

pub overflow_mul-result : goal.overflow_mul-result
overflow_mul-result c =
    let x : IsWithin coordinate_max c.args.x = record { low = c.requires.x_small.0; high = c.requires.x_small.1 } in
    let w = widened c.requires.w_small (lit< tt) (c.from-2.ensures ∙ ap (λ n. to_z w64 (of_z w64 n)) (read _ _ c.requires.w_small (lit< tt))) in
    mul_fits (widened x (lit< tt) c.from.ensures) w (lit< tt)

pub returns-clause-value : goal.returns-clause-value
returns-clause-value c =
    let x : IsWithin coordinate_max c.args.x = record { low = c.requires.x_small.0; high = c.requires.x_small.1 } in
    let w = widened c.requires.w_small (lit< tt) (c.from-2.ensures ∙ ap (λ n. to_z w64 (of_z w64 n)) (read _ _ c.requires.w_small (lit< tt))) in
    (mul_reads (widened x (lit< tt) c.from.ensures) w (lit< tt)).is

pub returns-clause-small : goal.returns-clause-small
returns-clause-small c =
    let x : IsWithin coordinate_max c.args.x = record { low = c.requires.x_small.0; high = c.requires.x_small.1 } in
    let w = widened c.requires.w_small (lit< tt) (c.from-2.ensures ∙ ap (λ n. to_z w64 (of_z w64 n)) (read _ _ c.requires.w_small (lit< tt))) in
    let all = mul_reads (widened x (lit< tt) c.from.ensures) w (lit< tt) in
    rw all.is all.within
