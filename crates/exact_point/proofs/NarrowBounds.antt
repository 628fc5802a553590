-- How large sums and products of bounded numbers are, where 64 bits hold them.
use Rattle.std.proofs.Common.{◌≡◌, ℕ, ℤ, pos, negsuc, nat_abs, ◌+ℤ◌, ◌-ℤ◌, ◌*ℤ◌, ◌≤ℤ◌, ◌+◌, ◌*◌, ◌^◌, ◌<◌, refl, ap, arith, ◌∙◌, FitsSigned, to_z, of_z}
use Rattle.std.specs.Int.{w64, w128}
use Rattle.std.proofs.lemmas.Int.{ints, fits_signed_from_abs, to_z-of_z}
use Rattle.overlay_terms.specs.Within.{IsWithin}
use Rattle.overlay_terms.proofs.Bounds.{Reads, read, reads, abs_within, within_add, within_mul, within_sub}

pub narrow_fits : (n : ℕ) (z : ℤ) → IsWithin n z → n < 2 ^ 63 → FitsSigned w64 z
narrow_fits n z h k = fits_signed_from_abs w64 z (omega (arith, abs_within n z h))

-- what the code's number of 64 bits reads as
pub narrow_read : (n : ℕ) (z : ℤ) → IsWithin n z → n < 2 ^ 63 → to_z w64 (of_z w64 z) ≡ z
narrow_read n z h k = to_z-of_z w64 z (narrow_fits n z h k)

pub narrow_reads : (n : ℕ) (z : ℤ) → IsWithin n z → n < 2 ^ 63 → Reads n (to_z w64 (of_z w64 z)) z
narrow_reads n z h k = record { is = narrow_read n z h k; within = h }

-- the product of two such numbers fits, and reads as their product
pub narrow_mul_fits : {m n : ℕ} {e f y z : ℤ} → Reads m e y → Reads n f z → m * n < 2 ^ 63 → FitsSigned w64 (e *ℤ f)
narrow_mul_fits {m} {n} {e} {f} {y} {z} h k l = rw (h.is, k.is) (narrow_fits (m * n) (y *ℤ z) (within_mul m n y z h.within k.within) l)

pub narrow_mul_reads : {m n : ℕ} {e f y z : ℤ} → Reads m e y → Reads n f z → m * n < 2 ^ 63 → Reads (m * n) (to_z w64 (of_z w64 (e *ℤ f))) (y *ℤ z)
narrow_mul_reads {m} {n} {e} {f} {y} {z} h k l = rw (h.is, k.is) (narrow_reads (m * n) (y *ℤ z) (within_mul m n y z h.within k.within) l)

pub narrow_sub_fits : {m n : ℕ} {e f y z : ℤ} → Reads m e y → Reads n f z → m + n < 2 ^ 63 → FitsSigned w64 (e -ℤ f)
narrow_sub_fits {m} {n} {e} {f} {y} {z} h k l = rw (h.is, k.is) (narrow_fits (m + n) (y -ℤ z) (within_sub m n y z h.within k.within) l)

pub narrow_sub_reads : {m n : ℕ} {e f y z : ℤ} → Reads m e y → Reads n f z → m + n < 2 ^ 63 → Reads (m + n) (to_z w64 (of_z w64 (e -ℤ f))) (y -ℤ z)
narrow_sub_reads {m} {n} {e} {f} {y} {z} h k l = rw (h.is, k.is) (narrow_reads (m + n) (y -ℤ z) (within_sub m n y z h.within k.within) l)

pub narrow_add_fits : {m n : ℕ} {e f y z : ℤ} → Reads m e y → Reads n f z → m + n < 2 ^ 63 → FitsSigned w64 (e +ℤ f)
narrow_add_fits {m} {n} {e} {f} {y} {z} h k l = rw (h.is, k.is) (narrow_fits (m + n) (y +ℤ z) (within_add m n y z h.within k.within) l)

pub narrow_add_reads : {m n : ℕ} {e f y z : ℤ} → Reads m e y → Reads n f z → m + n < 2 ^ 63 → Reads (m + n) (to_z w64 (of_z w64 (e +ℤ f))) (y +ℤ z)
narrow_add_reads {m} {n} {e} {f} {y} {z} h k l = rw (h.is, k.is) (narrow_reads (m + n) (y +ℤ z) (within_add m n y z h.within k.within) l)

-- a number of 64 bits, made wider
pub widened : {n : ℕ} {a b : ℤ} → IsWithin n a → n < 2 ^ 63 → b ≡ to_z w64 (of_z w64 a) → Reads n (to_z w128 (of_z w128 b)) a
widened {n} {a} {b} h k e = let is : b ≡ a = e ∙ narrow_read n a h k in rw is (reads n a h (omega (arith, k)))

-- a number of 128 bits, cut to 64
pub narrowed : {n : ℕ} {a : ℤ} → IsWithin n a → n < 2 ^ 63 → Reads n (to_z w64 (of_z w64 (to_z w128 (of_z w128 a)))) a
narrowed {n} {a} h k = rw (read n a h (omega (arith, k))) (narrow_reads n a h k)

-- it fits there
pub cut_fits : {n : ℕ} {a : ℤ} → IsWithin n a → n < 2 ^ 63 → FitsSigned w64 (to_z w128 (of_z w128 a))
cut_fits {n} {a} h k = rw (read n a h (omega (arith, k))) (narrow_fits n a h k)

-- a number of 128 bits without sign, cut to 64 bits that have none
pub unsigned : {n : ℕ} {a b : ℤ} → pos 0 ≤ℤ a → IsWithin n a → n < 2 ^ 127 → b ≡ pos (nat_abs (to_z w128 (of_z w128 a))) → Reads n (to_z w128 (of_z w128 b)) a
unsigned {n} {a} {b} l h k e = let is : b ≡ a = e ∙ ap (λ (z : ℤ). pos (nat_abs z)) (read n a h k) ∙ whole a l in rw is (reads n a h k)
  where
    whole : (a : ℤ) → pos 0 ≤ℤ a → pos (nat_abs a) ≡ a
    whole (pos k) l = refl
    whole (negsuc k) l = omega (arith, ints, l)
