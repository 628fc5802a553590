-- The sign of a product, where one factor is positive.
use Rattle.std.proofs.Common.{◌≡◌, ℤ, pos, ◌*ℤ◌, ◌<ℤ◌, ◌≤ℤ◌, arith}
use Rattle.std.specs.Prelude.{int_lt}
use Rattle.std.specs.Cmp.{both_ways}
use Rattle.std.proofs.lemmas.Int.{ints, by_lt_z}
use Rattle.std.proofs.Math.IntN.{*ℤ_comm, *ℤ-zero, zero-*ℤ}
use Rattle.overlay_terms.proofs.Ratios.{mul_less}
use Rattle.overlay_terms.proofs.Difference.{mul_pos, mul_mono}
use Rattle.overlay_terms.proofs.InputNumbers.{lt_true, true_lt}

-- a negative factor makes a product negative
pub negative_times : (a b : ℤ) → a <ℤ pos 0 → pos 0 <ℤ b → (a *ℤ b) <ℤ pos 0
negative_times a b h k = omega (arith, ints, mul_less b a (pos 0) k h, *ℤ_comm a b, *ℤ-zero b)

-- a product that is at most 0
pub not_positive_times : (a b : ℤ) → a ≤ℤ pos 0 → pos 0 <ℤ b → (a *ℤ b) ≤ℤ pos 0
not_positive_times a b h k = let most : (a *ℤ b) ≤ℤ (pos 0 *ℤ b) = mul_mono a (pos 0) b (omega (arith, ints)) h in omega (arith, ints, most, zero-*ℤ b)

-- a product that is at least 0
pub not_negative_times : (a b : ℤ) → pos 0 ≤ℤ a → pos 0 <ℤ b → pos 0 ≤ℤ (a *ℤ b)
not_negative_times a b h k = let most : (pos 0 *ℤ b) ≤ℤ (a *ℤ b) = mul_mono (pos 0) a b (omega (arith, ints)) h in omega (arith, ints, most, zero-*ℤ b)

-- a positive factor may go from a positive product
pub positive_factor : (a b : ℤ) → pos 0 <ℤ b → pos 0 <ℤ (a *ℤ b) → pos 0 <ℤ a
positive_factor a b k h =
    by_lt_z (pos 0) a (λ l. l) (λ l. absurd (omega (arith, ints, not_positive_times a b (omega (arith, ints)) k)))

-- from one that is not negative
pub no_negative_factor : (a b : ℤ) → pos 0 <ℤ b → pos 0 ≤ℤ (a *ℤ b) → pos 0 ≤ℤ a
no_negative_factor a b h k =
    by_lt_z a (pos 0) (λ l. absurd (omega (arith, ints, negative_times a b l h))) (λ l. l)

-- and from 0
pub zero_factor : (a b : ℤ) → pos 0 <ℤ b → a *ℤ b ≡ pos 0 → a ≡ pos 0
zero_factor a b h e =
    by_lt_z a (pos 0) (λ l. absurd (omega (arith, ints, negative_times a b l h)))
    (λ l. by_lt_z (pos 0) a (λ m. absurd (omega (arith, ints, mul_pos a b m h))) (λ m. omega (arith, ints)))

-- two numbers have one sign where positive factors make them equal
pub one_sign : (g h w v : ℤ) → pos 0 <ℤ w → pos 0 <ℤ v → h *ℤ w ≡ g *ℤ v → int_lt (pos 0) g ≡ int_lt (pos 0) h
one_sign g h w v hw hv e =
    both_ways (int_lt (pos 0) g) (int_lt (pos 0) h)
    (λ t. let more : pos 0 <ℤ (g *ℤ v) = mul_pos g v (lt_true (pos 0) g t) hv in true_lt (pos 0) h (positive_factor h w hw (omega (arith, ints))))
    (λ t. let more : pos 0 <ℤ (h *ℤ w) = mul_pos h w (lt_true (pos 0) h t) hw in true_lt (pos 0) g (positive_factor g v hv (omega (arith, ints))))
