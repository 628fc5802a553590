use Rattle.std.proofs.Common.{ℕ, pos, ◌^◌, ◌<◌, lit<, arith, to_z}
use Rattle.std.specs.Int.{w64}
use Rattle.std.proofs.lemmas.Int.{ints, to_z_pos}
use Rattle.overlay_terms.specs.Within.{IsWithin}
use Rattle.overlay_terms.proofs.Bounds.{Reads}
use Rattle.exact_point.proofs.NarrowBounds.{narrow_reads, narrow_mul_fits, narrow_mul_reads, narrow_add_fits, narrow_add_reads}
use Rattle.overlay_grid.proofs.drawing.coordinate.Goals as goal

-- a small count, as a number with a sign
count_reads : (j : ℕ) → j < 256 → Reads 256 (to_z w64 j) (pos j)
count_reads j h = record { is = to_z_pos w64 j (omega arith); within = record { low = omega (arith, ints); high = omega (arith, ints) } }

pub overflow_mul-result : goal.overflow_mul-result
overflow_mul-result c =
    let step : IsWithin (2 ^ 21) c.args.step = record { low = omega (arith, ints); high = omega (arith, ints) } in
    narrow_mul_fits (narrow_reads _ _ step (lit< tt)) (count_reads c.args.i c.requires.few) (lit< tt)

pub overflow_add-result : goal.overflow_add-result
overflow_add-result c =
    let step : IsWithin (2 ^ 21) c.args.step = record { low = omega (arith, ints); high = omega (arith, ints) } in
    let from : IsWithin (2 ^ 21) c.args.from = record { low = omega (arith, ints); high = omega (arith, ints) } in
    narrow_add_fits (narrow_reads _ _ from (lit< tt)) (narrow_mul_reads (narrow_reads _ _ step (lit< tt)) (count_reads c.args.i c.requires.few) (lit< tt)) (lit< tt)

pub returns : goal.returns
returns c =
    let step : IsWithin (2 ^ 21) c.args.step = record { low = omega (arith, ints); high = omega (arith, ints) } in
    let from : IsWithin (2 ^ 21) c.args.from = record { low = omega (arith, ints); high = omega (arith, ints) } in
    (narrow_add_reads (narrow_reads _ _ from (lit< tt)) (narrow_mul_reads (narrow_reads _ _ step (lit< tt)) (count_reads c.args.i c.requires.few) (lit< tt)) (lit< tt)).is
