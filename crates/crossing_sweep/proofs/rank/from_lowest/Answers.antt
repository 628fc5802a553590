use Rattle.std.proofs.Common.{◌≡◌, ℤ, pos, neg_ℤ, ◌+ℤ◌, ◌*ℤ◌, ◌≤ℤ◌, ◌≤◌, ◌*◌, ◌^◌, unsigned_abs, lit<, ap, ◌∙◌, arith}
use Rattle.std.proofs.lemmas.Int.{ints}
use Rattle.overlay_terms.specs.Within.{IsWithin}
use Rattle.overlay_terms.proofs.Bounds.{reads, mul_fits, mul_reads}
use Rattle.exact_point.proofs.MiddleLemmas.{add_fits, add_reads}
use Rattle.crossing_sweep.proofs.rank.from_lowest.Goals as goal

-- ---- how large the numbers are
most_within : (z : ℤ) → z ≡ pos 1048576 → IsWithin (2 ^ 20) z
most_within z e = record { low = omega (arith, ints, e); high = omega (arith, ints, e) }

w_within : (w : ℤ) → pos 1 ≤ℤ w → w ≤ℤ pos (2 ^ 43) → IsWithin (2 ^ 43) w
w_within w low high = record { low = omega (arith, ints, low); high = high }

x_within : (x w : ℤ) → w ≤ℤ pos (2 ^ 43) → neg_ℤ (pos 1048576 *ℤ w) ≤ℤ x → x ≤ℤ (pos 1048576 *ℤ w) → IsWithin (2 ^ 63) x
x_within x w most low high = record { low = omega (arith, ints, most, low); high = omega (arith, ints, most, high) }

size : (n : ℤ) → pos 0 ≤ℤ n → pos (unsigned_abs n) ≡ n
size n low = grind (arith, ints)

few : (n x w : ℤ) → n ≡ x +ℤ (pos 1048576 *ℤ w) → pos 1 ≤ℤ w → pos 0 ≤ℤ n → x ≤ℤ (pos 1048576 *ℤ w) → unsigned_abs n ≤ 2097152 * unsigned_abs w
few n x w is positive low high = omega (arith, ints, is, size n low, size w (omega (arith, ints, positive)), high)

pub overflow_mul-result : goal.overflow_mul-result
overflow_mul-result c =
    mul_fits (reads _ _ (most_within c.from.result c.from.ensures) (lit< tt)) (reads _ _ (w_within c.args.w c.requires.w_low c.requires.w_high) (lit< tt)) (lit< tt)

pub overflow_add-result : goal.overflow_add-result
overflow_add-result c =
    let up = mul_reads (reads _ _ (most_within c.from.result c.from.ensures) (lit< tt)) (reads _ _ (w_within c.args.w c.requires.w_low c.requires.w_high) (lit< tt)) (lit< tt) in
    add_fits (reads _ _ (x_within c.args.x c.args.w c.requires.w_high c.requires.low c.requires.high) (lit< tt)) up (lit< tt)

pub returns-clause-value : goal.returns-clause-value
returns-clause-value c =
    let up = mul_reads (reads _ _ (most_within c.from.result c.from.ensures) (lit< tt)) (reads _ _ (w_within c.args.w c.requires.w_low c.requires.w_high) (lit< tt)) (lit< tt) in
    let sum = add_reads (reads _ _ (x_within c.args.x c.args.w c.requires.w_high c.requires.low c.requires.high) (lit< tt)) up (lit< tt) in
    let is = sum.is ∙ ap (λ z. c.args.x +ℤ (z *ℤ c.args.w)) c.from.ensures in
    size _ (omega (arith, ints, is, c.requires.low)) ∙ is

pub returns-clause-small : goal.returns-clause-small
returns-clause-small c =
    let up = mul_reads (reads _ _ (most_within c.from.result c.from.ensures) (lit< tt)) (reads _ _ (w_within c.args.w c.requires.w_low c.requires.w_high) (lit< tt)) (lit< tt) in
    let sum = add_reads (reads _ _ (x_within c.args.x c.args.w c.requires.w_high c.requires.low c.requires.high) (lit< tt)) up (lit< tt) in
    let is = sum.is ∙ ap (λ z. c.args.x +ℤ (z *ℤ c.args.w)) c.from.ensures in
    few _ c.args.x c.args.w is c.requires.w_low (omega (arith, ints, is, c.requires.low)) c.requires.high
