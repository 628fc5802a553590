use Rattle.std.proofs.Common.{rules, ◌≡◌, ℤ, lit<, ◌*ℤ◌, ◌==◌, int_eq, ◌∙◌, of_z, FitsSigned}
use Rattle.std.specs.Int.{w128}
use Rattle.overlay_terms.specs.Plane.{InRange, coordinate_max}
use Rattle.overlay_terms.specs.Within.{IsWithin}
use Rattle.overlay_terms.proofs.Bounds.{reads, mul_fits}
use Rattle.exact_point.proofs.NarrowBounds.{widened}
use Rattle.crossing_sweep.proofs.rank.is_whole.Goals as goal

-- whether two numbers of the code are one
alike : (m n : ℤ) → FitsSigned w128 m → FitsSigned w128 n → (of_z w128 m == of_z w128 n) ≡ int_eq m n
alike m n h k = search rules

number_within : (z : ℤ) → InRange z → IsWithin coordinate_max z
number_within z h = record { low = h.0; high = h.1 }

pub overflow_mul-result : goal.overflow_mul-result
overflow_mul-result c =
    mul_fits (widened (number_within c.args.number c.requires.number_small) (lit< tt) c.from.ensures) (reads _ _ c.requires.w_small (lit< tt)) (lit< tt)

pub returns : goal.returns
returns c =
    let number = widened (number_within c.args.number c.requires.number_small) (lit< tt) c.from.ensures in
    let w = reads _ _ c.requires.w_small (lit< tt) in
    alike _ _ (mul_fits number w (lit< tt)) c.ranges.x ∙ (λ t. int_eq (number.is t *ℤ w.is t) c.args.x)
