-- How large numbers are.
use Rattle.std.proofs.Common.{◌≡◌, ℕ, ◌+◌, ◌*◌, ◌≤◌, ◌<◌, ◌^◌, ℤ, pos, negsuc, ◌-ℤ◌, ◌*ℤ◌, ◌≤ℤ◌, sym, subst, arith, unsigned_abs, FitsSigned, to_z, of_z}
use Rattle.std.specs.Int.{w64, w128}
use Rattle.std.proofs.lemmas.Int.{ints, to_z-of_z}
use Rattle.overlay_terms.specs.Within.{IsWithin}
use Rattle.overlay_terms.proofs.Bounds.{within_abs, within_mul, reads, sub_reads}
use Rattle.exact_point.proofs.NarrowBounds.{narrow_fits}
use Rattle.block_reading.specs.Jobs.{far_max}
use Rattle.feature_spots.specs.Spots.{fine_max, past_max}

-- a number of 64 bits
small : (z : ℤ) → FitsSigned w64 z → unsigned_abs z ≤ 2 ^ 63
small (pos n) h = omega (arith, h.sfits)
small (negsuc n) h = omega (arith, h.sfits)

-- how far one lies after a coordinate, times a denominator, as the code computes it
pub past_within : (x from w f s : ℤ) → FitsSigned w64 x → f ≡ x → s ≡ from *ℤ w → IsWithin far_max from → IsWithin fine_max w
    → IsWithin past_max (to_z w128 (of_z w128 (to_z w128 (of_z w128 f) -ℤ to_z w128 (of_z w128 s))))
past_within x from w f s fits is product near fine =
    let first : IsWithin 9223372036854775808 f = subst (IsWithin 9223372036854775808) (sym is) (within_abs 9223372036854775808 x (small x fits)) in
    let second : IsWithin (far_max * fine_max) s = subst (IsWithin (far_max * fine_max)) (sym product) (within_mul far_max fine_max from w near fine) in
    let both = sub_reads (reads 9223372036854775808 f first (omega arith)) (reads (far_max * fine_max) s second (omega arith)) (omega arith) in
    subst (IsWithin past_max) (sym both.is) both.within

-- a number of 64 bits, as the code reads it
pub read_within : (n : ℕ) (z e : ℤ) → z ≡ e → IsWithin n e → n < 2 ^ 63 → IsWithin n (to_z w64 (of_z w64 z))
read_within n z e is h lt =
    let own : IsWithin n z = subst (IsWithin n) (sym is) h in
    subst (IsWithin n) (sym (to_z-of_z w64 z (narrow_fits n z own lt))) own

-- a denominator from 1 to 2^42
pub fine_within : (w : ℤ) → pos 1 ≤ℤ w → w ≤ℤ pos fine_max → IsWithin fine_max w
fine_within w low high = record { low = omega (arith, ints, low); high = high }
