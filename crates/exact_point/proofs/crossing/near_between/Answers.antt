use Rattle.std.proofs.Common.{◌≡◌, ℤ, pos, neg_ℤ, ◌+ℤ◌, ◌-ℤ◌, ◌*ℤ◌, ◌≤ℤ◌, ◌^◌, ◌∙◌, ap, refl, lit<, arith, to_z, of_z}
use Rattle.std.specs.Int.{w64}
use Rattle.std.proofs.lemmas.Int.{ints}
use Rattle.overlay_terms.specs.Plane.{coordinate_max, InRange}
use Rattle.overlay_terms.specs.Within.{IsWithin}
use Rattle.overlay_terms.proofs.Bounds.{Reads}
use Rattle.exact_point.proofs.NarrowBounds.{narrow_reads, narrow_mul_fits, narrow_mul_reads, narrow_add_fits, narrow_add_reads}
use Rattle.exact_point.proofs.CrossingLemmas.{mean_low, mean_high}
use Rattle.exact_point.proofs.Readings.{differ, whole_is}
use Rattle.exact_point.proofs.crossing.near_between.Goals as goal

whole_reads : (a : ℤ) → InRange a → Reads coordinate_max (to_z w64 (of_z w64 a)) a
whole_reads a h = narrow_reads coordinate_max a (record { low = h.0; high = h.1 }) (lit< tt)

part_reads : (t w : ℤ) → pos 0 ≤ℤ t → t ≤ℤ w → IsWithin (2 ^ 21) w → Reads (2 ^ 21) (to_z w64 (of_z w64 t)) t
part_reads t w l h k = narrow_reads (2 ^ 21) t (record { low = omega (arith, ints); high = omega (arith, ints, k.high) }) (lit< tt)

pub overflow_mul-result-2 : goal.overflow_mul-result-2
overflow_mul-result-2 c =
    narrow_mul_fits (narrow_reads (2 ^ 21) c.minus.result c.minus.ensures.small (lit< tt)) (part_reads c.args.t c.args.w c.requires.t_low c.requires.t_high c.requires.w_small) (lit< tt)

pub overflow_add-result : goal.overflow_add-result
overflow_add-result c =
    let first = narrow_mul_reads (whole_reads c.args.from c.requires.from_small) (narrow_reads (2 ^ 21) c.args.w c.requires.w_small (lit< tt)) (lit< tt) in
    let second = narrow_mul_reads (narrow_reads (2 ^ 21) c.minus.result c.minus.ensures.small (lit< tt)) (part_reads c.args.t c.args.w c.requires.t_low c.requires.t_high c.requires.w_small) (lit< tt) in
    narrow_add_fits first second (lit< tt)

at_place : (c : goal.After-minus) → to_z w64 (of_z w64 (to_z w64 (of_z w64 (to_z w64 (of_z w64 c.args.from) *ℤ to_z w64 (of_z w64 c.args.w))) +ℤ to_z w64 (of_z w64 (to_z w64 (of_z w64 c.minus.result) *ℤ to_z w64 (of_z w64 c.args.t))))) ≡ (c.args.from *ℤ c.args.w) +ℤ ((c.args.to -ℤ c.args.from) *ℤ c.args.t)
at_place c =
    let first = narrow_mul_reads (whole_reads c.args.from c.requires.from_small) (narrow_reads (2 ^ 21) c.args.w c.requires.w_small (lit< tt)) (lit< tt) in
    let second = narrow_mul_reads (narrow_reads (2 ^ 21) c.minus.result c.minus.ensures.small (lit< tt)) (part_reads c.args.t c.args.w c.requires.t_low c.requires.t_high c.requires.w_small) (lit< tt) in
    let way : c.minus.result ≡ c.args.to -ℤ c.args.from = c.minus.ensures.value ∙ differ _ _ _ _ (whole_is c.requires.to_small refl) (whole_is c.requires.from_small refl) in
    (narrow_add_reads first second (lit< tt)).is ∙ ap (λ z. (c.args.from *ℤ c.args.w) +ℤ (z *ℤ c.args.t)) way

pub returns-clause-value : goal.returns-clause-value
returns-clause-value c = at_place c

pub returns-clause-low : goal.returns-clause-low
returns-clause-low c =
    let bound = mean_low (neg_ℤ (pos 1048576)) c.args.from c.args.to c.args.t c.args.w c.requires.from_small.0 c.requires.to_small.0 c.requires.t_low c.requires.t_high in
    rw (at_place c) (omega (arith, ints, bound))

pub returns-clause-high : goal.returns-clause-high
returns-clause-high c = rw (at_place c) (mean_high (pos 1048576) c.args.from c.args.to c.args.t c.args.w c.requires.from_small.1 c.requires.to_small.1 c.requires.t_low c.requires.t_high)
