-- Masks with a bit changed, and lists of masks with one of them changed.
use Rattle.std.proofs.Common.{◌≡◌, ℕ, ◌+◌, ◌%◌, ◌<◌, ◌≤◌, ◌==◌, zero, suc, Bool, true, false, not, cond, List, [], ◌∷◌, length, take, refl, ap, sym, ◌∙◌, arith, ⊎_elim, ◌^◌}
use Rattle.std.specs.Prelude.{if◌then◌else◌, sum_by, slice_set, slice_index}
use Rattle.std.specs.Int.{bit_at}
use Rattle.std.specs.Int.RustNames.{bit_xor}
use Rattle.std.proofs.lemmas.Bool.{eq-eqb, ne_eqb, cases_eq}
use Rattle.std.proofs.lemmas.Bool.Decides.{nat_tests}
use Rattle.std.proofs.lemmas.List.Sums.{sum_by-cons}
use Rattle.std.proofs.lemmas.Nat.Bits.{bit_at_xor, bit_at-lt, bit_at-pow_same, bit_at-pow_other}
use Rattle.overlay_terms.specs.Trees.{mask_bits}
use Rattle.overlay_grid.specs.Turning.{turned}

odd_next : (x : ℕ) → x < 2 → ((x + 1) % 2 == 1) ≡ not (x == 1)
odd_next zero h = refl
odd_next (suc zero) h = refl
odd_next (suc (suc n)) h = absurd (omega arith)

kept : (x : ℕ) → x < 2 → (x + 0) % 2 ≡ x
kept x h = omega arith

by_same : (x : ℕ) (b : Bool) → b ≡ true → (if b then not (x == 1) else (x == 1)) ≡ not (x == 1)
by_same x true e = refl
by_same x false e = cc

by_other : (x : ℕ) (b : Bool) → b ≡ false → (if b then not (x == 1) else (x == 1)) ≡ (x == 1)
by_other x false e = refl
by_other x true e = cc

-- a mask with the bit of a layer changed
pub toggled_bit : (mask layer k : ℕ) → mask_bits (bit_xor mask (2 ^ layer)) k ≡ (if layer == k then not (mask_bits mask k) else mask_bits mask k)
toggled_bit mask layer k =
    ⊎_elim
    (λ same. ap (λ n. n == 1) (bit_at_xor mask (2 ^ layer) k ∙ ap (λ n. (bit_at mask k + n) % 2) (ap (λ n. bit_at (2 ^ n) k) same ∙ bit_at-pow_same k))
    ∙ odd_next (bit_at mask k) (bit_at-lt mask k) ∙ sym (by_same (bit_at mask k) (layer == k) (eq-eqb layer k same)))
    (λ other. ap (λ n. n == 1) (bit_at_xor mask (2 ^ layer) k ∙ ap (λ n. (bit_at mask k + n) % 2) (bit_at-pow_other layer k (λ e. other (sym e))) ∙ kept (bit_at mask k) (bit_at-lt mask k))
    ∙ sym (by_other (bit_at mask k) (layer == k) (ne_eqb layer k other)))
    (cases_eq layer k)

-- ---- one entry of a list changed
inside : (w : ℕ → ℕ) (xs : List ℕ) (i n y : ℕ) → i < length xs → i < n → sum_by w (take n (slice_set xs i y)) + w (slice_index xs i) ≡ sum_by w (take n xs) + w y
inside w [] i n y h k = absurd (omega (arith, h))
inside w (x ∷ xs) zero zero y h k = absurd (omega (arith, k))
inside w (x ∷ xs) zero (suc n) y h k =
    let a = sum_by-cons w y (take n xs) in let b = sum_by-cons w x (take n xs) in omega (arith, a, b)
inside w (x ∷ xs) (suc i) zero y h k = absurd (omega (arith, k))
inside w (x ∷ xs) (suc i) (suc n) y h k =
    let later = inside w xs i n y (omega (arith, h)) (omega (arith, k)) in
    let a = sum_by-cons w x (take n (slice_set xs i y)) in let b = sum_by-cons w x (take n xs) in omega (arith, later, a, b)

outside : (xs : List ℕ) (i n y : ℕ) → n ≤ i → take n (slice_set xs i y) ≡ take n xs
outside [] i n y h = refl
outside (x ∷ xs) i zero y h = refl
outside (x ∷ xs) zero (suc n) y h = absurd (omega (arith, h))
outside (x ∷ xs) (suc i) (suc n) y h = ap (λ l. x ∷ l) (outside xs i n y (omega (arith, h)))

flips : (s b c : Bool) (m n : ℕ) → m + cond b 1 0 ≡ n + cond c 1 0 → c ≡ (if s then not b else b) → (m % 2 == 1) ≡ (if s then not (n % 2 == 1) else (n % 2 == 1))
flips true true true m n e f = cc
flips true true false m n e f = grind (arith, nat_tests)
flips true false true m n e f = grind (arith, nat_tests)
flips true false false m n e f = cc
flips false true true m n e f = grind (arith, nat_tests)
flips false true false m n e f = cc
flips false false true m n e f = cc
flips false false false m n e f = grind (arith, nat_tests)

-- a mask changed among the first so many changes its bit's parity there
pub turned_inside : (masks : List ℕ) (i n y layer k : ℕ) → i < length masks → i < n → mask_bits y k ≡ (if layer == k then not (mask_bits (slice_index masks i) k) else mask_bits (slice_index masks i) k)
    → turned (slice_set masks i y) n k ≡ (if layer == k then not (turned masks n k) else turned masks n k)
turned_inside masks i n y layer k h near e =
    flips (layer == k) (mask_bits (slice_index masks i) k) (mask_bits y k) (sum_by (λ m. cond (mask_bits m k) 1 0) (take n (slice_set masks i y))) (sum_by (λ m. cond (mask_bits m k) 1 0) (take n masks))
    (inside (λ m. cond (mask_bits m k) 1 0) masks i n y h near) e

-- one past them changes nothing
pub turned_outside : (masks : List ℕ) (i n y k : ℕ) → n ≤ i → turned (slice_set masks i y) n k ≡ turned masks n k
turned_outside masks i n y k far = ap (λ l. sum_by (λ m. cond (mask_bits m k) 1 0) l % 2 == 1) (outside masks i n y far)
