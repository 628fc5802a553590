-- Greatest common divisors and the factors 2: those of one number beside an odd one do not count, those of both do.
use Prim.Native.Nat.{◌∣◌}
use Rattle.std.proofs.Common.{◌≡◌, ℕ, zero, suc, ◌+◌, ◌-◌, ◌*◌, ◌/◌, ◌%◌, ◌^◌, ◌<◌, ◌≤◌, min, ◌⊎◌, inl, inr, refl, ap, sym, ◌∙◌, arith, subst}
use Rattle.std.proofs.lemmas.Bool.{cases_lt}
use Rattle.std.proofs.lemmas.Nat.{pow-add, shr-shr}
use Rattle.std.proofs.lemmas.Nat.Bits.{bit_at-zero, bit_at-trailing_zeros}
use Rattle.std.proofs.lemmas.Nat.Gcd.{dvd_trans, dvd_of_mod-eq-zero, mod-eq-zero_of_dvd, le_of_dvd, IsGcd-swap, IsGcd-from_sub}
use Rattle.std.proofs.Math.Nat.{dvd-mul_left_of_dvd, dvd-mul_right, dvd-mul_right_of_dvd, dvd-add_iff_right, mul-dvd-mul_left, dvd_of_mul-dvd-mul_left, pow-succ', min-eq_left, min-eq_right, mod-eq_of_lt}
use Rattle.std.specs.Int.{IsGcd, bit_at, trailing_zeros, abs_diff, w64}
use Rattle.std.specs.Int.Count.{trailing_of_zero}

-- ---- a divisor of an odd number
odd_by : (d x r : ℕ) → d % 2 ≡ r → x % 2 ≡ 1 → d ∣ x → r ≡ 1
odd_by d x zero e h k =
    let even : x % 2 ≡ 0 = mod-eq-zero_of_dvd 2 (dvd_trans 2 (dvd_of_mod-eq-zero 2 e) k) in
    absurd (omega arith)
odd_by d x (suc zero) e h k = refl
odd_by d x (suc (suc r)) e h k = absurd (omega arith)

odd_divisor : (d x : ℕ) → x % 2 ≡ 1 → d ∣ x → d % 2 ≡ 1
odd_divisor d x h k = odd_by d x (d % 2) refl h k

-- an odd number divides what it divides doubled
once : (d y : ℕ) → d % 2 ≡ 1 → d ∣ (2 * y) → d ∣ y
once d y h k =
    let half : ℕ = d / 2 in
    let whole : d ≡ 2 * half + 1 = omega arith in
    let sum : (half + 1) * (2 * y) ≡ d * y + y = omega (arith, ap (λ m. m * y) whole) in
    (dvd-add_iff_right d (dvd-mul_right d y)).1 (subst (λ m. d ∣ m) sum (dvd-mul_left_of_dvd d k (half + 1)))

shifted : (y k : ℕ) → y * 2 ^ suc k ≡ 2 * (y * 2 ^ k)
shifted y k = ap (λ m. y * m) (pow-succ' 2 k) ∙ omega arith

shifted_back : (k d y : ℕ) → d % 2 ≡ 1 → d ∣ (y * 2 ^ k) → d ∣ y
shifted_back zero d y h l = subst (λ m. d ∣ m) (omega arith) l
shifted_back (suc k) d y h l = shifted_back k d y h (once d (y * 2 ^ k) h (subst (λ m. d ∣ m) (shifted y k) l))

-- ---- beside an odd number the factors 2 of the other do not count
IsGcd-from_shifted : (x y k g : ℕ) → x % 2 ≡ 1 → IsGcd x y g → IsGcd x (y * 2 ^ k) g
IsGcd-from_shifted x y k g odd h =
    (h.0, dvd-mul_right_of_dvd g h.1 (2 ^ k), λ d a b. h.2 d a (shifted_back k d y (odd_divisor d x odd a) b))

IsGcd-to_shifted : (x y k g : ℕ) → x % 2 ≡ 1 → IsGcd x (y * 2 ^ k) g → IsGcd x y g
IsGcd-to_shifted x y k g odd h =
    (h.0, shifted_back k g y (odd_divisor g x odd h.0) h.1, λ d a b. h.2 d a (dvd-mul_right_of_dvd d b (2 ^ k)))

-- ---- a factor 2 of both
doubled_by : (a b g d r : ℕ) → IsGcd a b g → d % 2 ≡ r → d ∣ (2 * a) → d ∣ (2 * b) → d ∣ (2 * g)
doubled_by a b g d zero h e of_a of_b =
    let half : ℕ = d / 2 in
    let whole : d ≡ 2 * half = omega arith in
    let of : (n : ℕ) → d ∣ (2 * n) → half ∣ n = λ n l. dvd_of_mul-dvd-mul_left half (omega arith) (subst (λ m. m ∣ (2 * n)) whole l) in
    subst (λ m. m ∣ (2 * g)) (sym whole) (mul-dvd-mul_left half 2 (h.2 half (of a of_a) (of b of_b)))
doubled_by a b g d (suc zero) h e of_a of_b = dvd-mul_left_of_dvd d (h.2 d (once d a e of_a) (once d b e of_b)) 2
doubled_by a b g d (suc (suc r)) h e of_a of_b = absurd (omega arith)

doubled : (a b g : ℕ) → IsGcd a b g → IsGcd (2 * a) (2 * b) (2 * g)
doubled a b g h = (mul-dvd-mul_left g 2 h.0, mul-dvd-mul_left g 2 h.1, λ d of_a of_b. doubled_by a b g d (d % 2) h refl of_a of_b)

IsGcd-from_both_shifted : (k a b g : ℕ) → IsGcd a b g → IsGcd (a * 2 ^ k) (b * 2 ^ k) (g * 2 ^ k)
IsGcd-from_both_shifted zero a b g h = rw (same a, same b, same g) h
  where
    same : (n : ℕ) → n * 2 ^ zero ≡ n
    same n = omega arith
IsGcd-from_both_shifted (suc k) a b g h =
    rw (shifted a k, shifted b k, shifted g k) (doubled (a * 2 ^ k) (b * 2 ^ k) (g * 2 ^ k) (IsGcd-from_both_shifted k a b g h))

-- ---- the factors 2 of a number are as many as it has zeros at its end
joined : (c q p n : ℕ) → c * 2 ≡ q → q * p ≡ n → c * (2 * p) ≡ n
joined c q p n e h = omega (arith, ap (λ m. m * p) e)

low_zeros : (k n : ℕ) → ((i : ℕ) → i < k → bit_at n i ≡ 0) → (n / 2 ^ k) * 2 ^ k ≡ n
low_zeros zero n h = omega arith
low_zeros (suc k) n h =
    let rest : (n / 2 ^ k) % 2 ≡ 0 = h k (omega arith) in
    let half : n / 2 ^ suc k ≡ (n / 2 ^ k) / 2 = sym (ap (λ i. n / 2 ^ i) (omega arith)) ∙ sym (shr-shr n k 1) in
    rw (half, pow-succ' 2 k) (joined ((n / 2 ^ k) / 2) (n / 2 ^ k) (2 ^ k) n (omega arith) (low_zeros k n (λ i l. h i (omega arith))))

zeros_below : (n i : ℕ) → n < 2 ^ 64 → i < trailing_zeros w64 n → bit_at n i ≡ 0
zeros_below zero i h l = bit_at-zero i
zeros_below (suc n) i h l = (bit_at-trailing_zeros w64 (suc n) (omega arith) h).2 i l

whole_below : (n k : ℕ) → n < 2 ^ 64 → k ≤ trailing_zeros w64 n → (n / 2 ^ k) * 2 ^ k ≡ n
whole_below n k h l = low_zeros k n (λ i m. zeros_below n i h (omega arith))

pub odd_rest : (n : ℕ) → 0 < n → n < 2 ^ 64 → (n / 2 ^ trailing_zeros w64 n) % 2 ≡ 1
odd_rest n h l = (bit_at-trailing_zeros w64 n h l).1

-- ---- a step by a difference, where its factors 2 are left out
from_apart : (x y g : ℕ) → IsGcd (min x y) (abs_diff x y) g → IsGcd x y g
from_apart x y g h = by (cases_lt x y)
  where
    by : (x < y) ⊎ (y ≤ x) → IsGcd x y g
    by (inl l) =
        let apart : abs_diff x y ≡ y - x = omega arith in
        IsGcd-swap y x g (IsGcd-from_sub y x g (omega arith) (IsGcd-swap x (y - x) g (rw (min-eq_left {n = x} {m = y} (omega arith), apart) at h)))
    by (inr l) =
        let apart : abs_diff x y ≡ x - y = omega arith in
        IsGcd-from_sub x y g l (IsGcd-swap y (x - y) g (rw (min-eq_right l, apart) at h))

odd_min : (x y : ℕ) → x % 2 ≡ 1 → y % 2 ≡ 1 → min x y % 2 ≡ 1
odd_min x y h k = by (cases_lt x y)
  where
    by : (x < y) ⊎ (y ≤ x) → min x y % 2 ≡ 1
    by (inl l) = rw (min-eq_left {n = x} {m = y} (omega arith)) h
    by (inr l) = rw (min-eq_right l) k

pub least_is_odd : (x y m : ℕ) → x % 2 ≡ 1 → y % 2 ≡ 1 → m ≡ min x y → m % 2 ≡ 1
least_is_odd x y m h k em = rw em (odd_min x y h k)

pub IsGcd-from_next : (x y m d g : ℕ) → m % 2 ≡ 1 → d < 2 ^ 64 → m ≡ min x y → d ≡ abs_diff x y → IsGcd m (d / 2 ^ trailing_zeros w64 d) g → IsGcd x y g
IsGcd-from_next x y m d g odd l em ed h =
    let zeros : ℕ = trailing_zeros w64 d in
    let whole : IsGcd m d g = subst (λ n. IsGcd m n g) (whole_below d zeros l (omega arith)) (IsGcd-from_shifted m (d / 2 ^ zeros) zeros g odd h) in
    from_apart x y g (rw (em, ed) at whole)

-- ---- the factors 2 of both, put back
positive_by : (a b : ℕ) → 0 < a → a < 2 ^ 64 → trailing_zeros w64 b < trailing_zeros w64 a → 0 < b
positive_by a zero h la l =
    let none : trailing_zeros w64 0 ≡ 64 = trailing_of_zero 64 in
    let few : trailing_zeros w64 a < 64 = (bit_at-trailing_zeros w64 a h la).0 in
    absurd (omega arith)
positive_by a (suc b) h la l = omega arith

-- b has as many factors 2 as a, or more
put_back_all : (a b g : ℕ) → 0 < a → a < 2 ^ 64 → b < 2 ^ 64 → trailing_zeros w64 a ≤ trailing_zeros w64 b → IsGcd (a / 2 ^ trailing_zeros w64 a) b g → IsGcd a b (g * 2 ^ trailing_zeros w64 a)
put_back_all a b g h la lb l k =
    let zeros : ℕ = trailing_zeros w64 a in
    let rest = IsGcd-to_shifted (a / 2 ^ zeros) (b / 2 ^ zeros) zeros g (odd_rest a h la) (rw (whole_below b zeros lb l) k) in
    rw (whole_below a zeros la (omega arith), whole_below b zeros lb l) at (IsGcd-from_both_shifted zeros (a / 2 ^ zeros) (b / 2 ^ zeros) g rest)

-- b has fewer
put_back_some : (a b g : ℕ) → 0 < a → a < 2 ^ 64 → b < 2 ^ 64 → trailing_zeros w64 b < trailing_zeros w64 a → IsGcd (a / 2 ^ trailing_zeros w64 a) b g → IsGcd a b (g * 2 ^ trailing_zeros w64 b)
put_back_some a b g h la lb l k =
    let zeros : ℕ = trailing_zeros w64 b in
    let more : ℕ = trailing_zeros w64 a - zeros in
    let x : ℕ = a / 2 ^ trailing_zeros w64 a in
    let y : ℕ = b / 2 ^ zeros in
    let of_b : y * 2 ^ zeros ≡ b = whole_below b zeros lb (omega arith) in
    let both : 2 ^ trailing_zeros w64 a ≡ 2 ^ more * 2 ^ zeros = ap (λ i. 2 ^ i) (omega arith) ∙ pow-add 2 more zeros in
    let of_a : (x * 2 ^ more) * 2 ^ zeros ≡ a = omega (arith, ap (λ m. x * m) both, whole_below a (trailing_zeros w64 a) la (omega arith)) in
    let rest = IsGcd-to_shifted x y zeros g (odd_rest a h la) (rw of_b k) in
    let turned = IsGcd-from_shifted y x more g (odd_rest b (positive_by a b h la l) lb) (IsGcd-swap x y g rest) in
    rw (of_a, of_b) at (IsGcd-from_both_shifted zeros (x * 2 ^ more) y g (IsGcd-swap y (x * 2 ^ more) g turned))

IsGcd-put_back : (a b g : ℕ) → 0 < a → a < 2 ^ 64 → b < 2 ^ 64 → IsGcd (a / 2 ^ trailing_zeros w64 a) b g → IsGcd a b (g * 2 ^ min (trailing_zeros w64 a) (trailing_zeros w64 b))
IsGcd-put_back a b g h la lb k = by (cases_lt (trailing_zeros w64 b) (trailing_zeros w64 a))
  where
    by : (trailing_zeros w64 b < trailing_zeros w64 a) ⊎ (trailing_zeros w64 a ≤ trailing_zeros w64 b) → IsGcd a b (g * 2 ^ min (trailing_zeros w64 a) (trailing_zeros w64 b))
    by (inl l) = rw (min-eq_right {n = trailing_zeros w64 b} {m = trailing_zeros w64 a} (omega arith)) (put_back_some a b g h la lb l k)
    by (inr l) = rw (min-eq_left l) (put_back_all a b g h la lb l k)

-- no bit is lost
pub IsGcd-put_back_whole : (a b g k : ℕ) → 0 < a → a < 2 ^ 64 → 0 < b → b < 2 ^ 64 → k ≡ min (trailing_zeros w64 a) (trailing_zeros w64 b) → IsGcd (a / 2 ^ trailing_zeros w64 a) (b / 2 ^ trailing_zeros w64 b) g → IsGcd a b (g * 2 ^ k % 2 ^ 64)
IsGcd-put_back_whole a b g k h la hb lb e i =
    let zeros : ℕ = trailing_zeros w64 b in
    let rest : ℕ = a / 2 ^ trailing_zeros w64 a in
    let of_b : IsGcd rest b g = subst (λ n. IsGcd rest n g) (whole_below b zeros lb (omega arith)) (IsGcd-from_shifted rest (b / 2 ^ zeros) zeros g (odd_rest a h la) i) in
    let whole = IsGcd-put_back a b g h la lb of_b in
    let small = le_of_dvd h whole.0 in
    rw (e, mod-eq_of_lt {n = g * 2 ^ min (trailing_zeros w64 a) (trailing_zeros w64 b)} {m = 2 ^ 64} (omega arith)) whole
