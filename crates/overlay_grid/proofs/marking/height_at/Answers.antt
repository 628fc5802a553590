use Rattle.std.proofs.Common.{lit<, arith, ◌^◌}
use Rattle.std.proofs.lemmas.Int.{ints}
use Rattle.overlay_terms.specs.Within.{IsWithin}
use Rattle.overlay_terms.proofs.Bounds.{mul_fits, mul_reads}
use Rattle.exact_point.proofs.NarrowBounds.{widened}
use Rattle.exact_point.proofs.MiddleLemmas.{add_fits, add_reads}
use Rattle.overlay_grid.specs.declared.rising.Rise.{Rise}
use Rattle.overlay_grid.proofs.Heights.{place_reads}
use Rattle.overlay_grid.proofs.marking.height_at.Goals as goal

y_within : (r : Rise) → IsWithin (2 ^ 21) r.y
y_within r = record { low = omega (arith, ints, r.y_small.0); high = omega (arith, ints, r.y_small.1) }

step_within : (r : Rise) → IsWithin (2 ^ 21) r.step
step_within r = record { low = omega (arith, ints, r.step_low); high = omega (arith, ints, r.step_high) }

pub overflow_mul-result : goal.overflow_mul-result
overflow_mul-result c = mul_fits (widened (step_within c.args.rise) (lit< tt) c.from-2.ensures) (place_reads c.args.j c.ranges.j.fits) (lit< tt)

pub overflow_add-result : goal.overflow_add-result
overflow_add-result c =
    let up = mul_reads (widened (step_within c.args.rise) (lit< tt) c.from-2.ensures) (place_reads c.args.j c.ranges.j.fits) (lit< tt) in
    add_fits (widened (y_within c.args.rise) (lit< tt) c.from.ensures) up (lit< tt)

pub returns : goal.returns
returns c =
    let up = mul_reads (widened (step_within c.args.rise) (lit< tt) c.from-2.ensures) (place_reads c.args.j c.ranges.j.fits) (lit< tt) in
    (add_reads (widened (y_within c.args.rise) (lit< tt) c.from.ensures) up (lit< tt)).is
