-- Doublings of fractions, and rounding.
use Rattle.std.proofs.Common.{◌≡◌, ◌⊎◌, inl, inr, ℕ, zero, suc, ◌+◌, ◌-◌, ◌*◌, ◌/◌, ◌%◌, ◌^◌, ◌<◌, ◌≤◌, ℤ, pos, negsuc, ◌<ℤ◌, ◌≤ℤ◌, refl, ap, sym, subst, ◌∙◌, arith}
use Rattle.std.proofs.lemmas.Nat.{pow-add, pow_pos}
use Rattle.std.proofs.Math.Nat.{le_of_mul-le-mul_right, add-mul, mul_assoc, mul_comm, mul_right_comm, mod-add-div', mod-lt, mul-le-mul_right, mul-le-mul_left, lt_of_mul-lt-mul_right, div-lt_iff_lt-mul}
use Rattle.std.proofs.lemmas.Int.{ints}
use Rattle.std.specs.Prelude.{unsigned_abs}
use Rattle.boundary_outlines.specs.Nearest.{IsScaled, IsFitted, IsNearWhole, IsNearPositive, IsNearDouble}
use Rattle.boundary_outlines.specs.declared.doubles.Scaled.{Scaled}

-- ---- one doubling of several
pub parts_are : (size w whole rest d k : ℕ) → whole * w + rest ≡ size * 2 ^ d → (whole * 2 ^ k + rest * 2 ^ k / w) * w + rest * 2 ^ k % w ≡ size * 2 ^ (d + k)
parts_are size w whole rest d k e =
    let b : ℕ = 2 ^ k in
    let q : ℕ = rest * b / w in
    let m : ℕ = rest * b % w in
    let divided : m + q * w ≡ rest * b = mod-add-div' (rest * b) w in
    let left : (whole * b + q) * w ≡ whole * b * w + q * w = add-mul (whole * b) q w in
    let turned : whole * b * w ≡ whole * w * b = mul_right_comm whole b w in
    let all : (whole * w + rest) * b ≡ whole * w * b + rest * b = add-mul (whole * w) rest b in
    let same : (whole * w + rest) * b ≡ size * 2 ^ d * b = ap (λ n. n * b) e in
    let power : size * 2 ^ (d + k) ≡ size * (2 ^ d * b) = ap (λ n. size * n) (pow-add 2 d k) in
    let grouped : size * 2 ^ d * b ≡ size * (2 ^ d * b) = mul_assoc size (2 ^ d) b in
    omega (arith, divided, left, turned, all, same, power, grouped)

pub stays_short : (w whole rest k : ℕ) → k ≤ 53 → rest < w → whole * 2 ^ k < 2 ^ 53 → whole * 2 ^ k + rest * 2 ^ k / w < 2 ^ 53
stays_short w whole rest k few proper short =
    let b : ℕ = 2 ^ k in
    let some : 0 < b = pow_pos k in
    let split : 2 ^ 53 ≡ 2 ^ (53 - k) * b = ap (λ n. 2 ^ n) (rejoined few) ∙ pow-add 2 (53 - k) k in
    let room : whole < 2 ^ (53 - k) = lt_of_mul-lt-mul_right b (subst (λ n. whole * b < n) split short) in
    let next : (whole + 1) * b ≤ 2 ^ (53 - k) * b = mul-le-mul_right b (omega (arith, room)) in
    let one : (whole + 1) * b ≡ whole * b + 1 * b = add-mul whole 1 b in
    let less : rest * b < b * w = subst (λ n. rest * b < n) (mul_comm w b) (product_less rest w b proper some) in
    let wide : 0 < w = omega (arith, proper) in
    let part : rest * b / w < b = (div-lt_iff_lt-mul wide).1 less in
    omega (arith, split, next, one, part) where
      rejoined : k ≤ 53 → 53 ≡ 53 - k + k
      rejoined h = omega (arith, h)

      product_less : (x y z : ℕ) → x < y → 0 < z → x * z < y * z
      product_less x y z h p =
          let up : (x + 1) * z ≤ y * z = mul-le-mul_right z (omega (arith, h)) in
          let is : (x + 1) * z ≡ x * z + 1 * z = add-mul x 1 z in
          omega (arith, up, is, p)

pub scaled_more : (size w by k : ℕ) (own : Scaled) → by ≡ 2 ^ k → k ≤ 20 → own.whole * by < 2 ^ 53 → IsScaled size w own
    → IsScaled size w (record { whole = own.whole * by + own.rest * by / w; rest = own.rest * by % w; doublings = own.doublings + k })
scaled_more size w by k own e few short h =
    let some : 0 < w = let p = h.proper in omega (arith, p) in
    let power : own.whole * 2 ^ k < 2 ^ 53 = subst (λ n. own.whole * n < 2 ^ 53) e short in
    subst (λ n. IsScaled size w (record { whole = own.whole * n + own.rest * n / w; rest = own.rest * n % w; doublings = own.doublings + k })) (sym e) (record {
      is = parts_are size w own.whole own.rest own.doublings k h.is;
      proper = mod-lt (own.rest * 2 ^ k) some;
      short = stays_short w own.whole own.rest k (omega (arith, few)) h.proper power;
    })

pub fits_whole : (w by k whole rest : ℕ) → by ≡ 2 ^ k → k ≤ 20 → rest < w → whole * by < 2 ^ 53 → whole * by + rest * by / w < 2 ^ 53
fits_whole w by k whole rest e few proper short =
    let power : whole * 2 ^ k < 2 ^ 53 = subst (λ n. whole * n < 2 ^ 53) e short in
    subst (λ n. whole * n + rest * n / w < 2 ^ 53) (sym e) (stays_short w whole rest k (omega (arith, few)) proper power)

-- no product there is too great for 64 bits
power_most : (n : ℕ) → n ≤ 20 → 2 ^ n ≤ 2 ^ 20
power_most n h =
    let joined : 20 ≡ n + (20 - n) = omega (arith, h) in
    let split : 2 ^ 20 ≡ 2 ^ n * 2 ^ (20 - n) = ap (λ m. 2 ^ m) joined ∙ pow-add 2 n (20 - n) in
    let some : 0 < 2 ^ (20 - n) = pow_pos (20 - n) in
    let up : 2 ^ n * 1 ≤ 2 ^ n * 2 ^ (20 - n) = mul-le-mul_left (2 ^ n) (omega (arith, some)) in
    omega (arith, split, up)

pub product_fits : (rest w by k : ℕ) → by ≡ 2 ^ k → k ≤ 20 → w ≤ 2 ^ 43 → rest < w → rest * by < 2 ^ 63
product_fits rest w by k e few wide proper =
    let most : 2 ^ k ≤ 2 ^ 20 = power_most k few in
    let up : rest * by ≤ rest * 2 ^ 20 = mul-le-mul_left rest (omega (arith, e, most)) in
    omega (arith, up, wide, proper)

-- ---- how much a number has grown
-- it has so much, as it has not room for the doublings, or was so much before them
pub grown_on : (w k n m : ℕ) (own fitted : Scaled) → m * 2 ^ k ≤ 2 ^ 53 → m ≤ n * 2 ^ k → n ≤ own.whole → IsFitted w k own fitted → m ≤ fitted.whole
grown_on w k n m own fitted room up least h = by h.grown where
  by : ((2 ^ 53 ≤ own.whole * 2 ^ k) × (fitted ≡ own)) ⊎ ((own.whole * 2 ^ k ≤ fitted.whole) × (fitted.doublings ≡ own.doublings + k)) → m ≤ fitted.whole
  by (inl (full, same)) =
      let is : fitted.whole ≡ own.whole = ap (λ (z : Scaled). z.whole) same in
      let most : m * 2 ^ k ≤ own.whole * 2 ^ k = omega (arith, room, full) in
      let here : m ≤ own.whole = le_of_mul-le-mul_right most (pow_pos k) in
      omega (arith, is, here)
  by (inr (more, count)) =
      let times : n * 2 ^ k ≤ own.whole * 2 ^ k = mul-le-mul_right (2 ^ k) least in
      omega (arith, times, up, more)

pub few_more : (w k : ℕ) (own fitted : Scaled) → IsFitted w k own fitted → fitted.doublings ≤ own.doublings + k
few_more w k own fitted h = by h.grown where
  by : ((2 ^ 53 ≤ own.whole * 2 ^ k) × (fitted ≡ own)) ⊎ ((own.whole * 2 ^ k ≤ fitted.whole) × (fitted.doublings ≡ own.doublings + k)) → fitted.doublings ≤ own.doublings + k
  by (inl (full, same)) = let is : fitted.doublings ≡ own.doublings = ap (λ (z : Scaled). z.doublings) same in omega (arith, is)
  by (inr (more, count)) = omega (arith, count)

-- a number of 33 bits, or so many doublings
pub record HasRoom (size w counter : ℕ) (own : Scaled) : Type 0 where
  pub scaled : IsScaled size w own
  pub few : own.doublings ≤ 20 * counter
  pub grown : (2 ^ 33 ≤ own.whole) ⊎ (own.doublings ≡ 20 * counter)

pub room_more : (size w counter : ℕ) (own fitted : Scaled) → HasRoom size w counter own → IsFitted w 20 own fitted → HasRoom size w (counter + 1) fitted
room_more size w counter own fitted h f = record {
  scaled = f.still size h.scaled;
  few = let more = few_more w 20 own fitted f in let few = h.few in omega (arith, more, few);
  grown = by h.grown f.grown;
} where
  by : (2 ^ 33 ≤ own.whole) ⊎ (own.doublings ≡ 20 * counter) → ((2 ^ 53 ≤ own.whole * 2 ^ 20) × (fitted ≡ own)) ⊎ ((own.whole * 2 ^ 20 ≤ fitted.whole) × (fitted.doublings ≡ own.doublings + 20))
      → (2 ^ 33 ≤ fitted.whole) ⊎ (fitted.doublings ≡ 20 * (counter + 1))
  by before (inl (full, same)) = let is : fitted.whole ≡ own.whole = ap (λ (z : Scaled). z.whole) same in inl (omega (arith, is, full))
  by (inl least) (inr (more, count)) = inl (omega (arith, least, more))
  by (inr e) (inr (more, count)) = inr (omega (arith, e, count))

-- after so many doublings a number of fewer bits would be less than it is
pub room_all : (size w counter : ℕ) (own : Scaled) → 5 ≤ counter → counter ≤ 5 → 1 ≤ size → w ≤ 2 ^ 43 → HasRoom size w counter own → 2 ^ 33 ≤ own.whole
room_all size w counter own past up some wide h = by h.grown where
  by : (2 ^ 33 ≤ own.whole) ⊎ (own.doublings ≡ 20 * counter) → 2 ^ 33 ≤ own.whole
  by (inl least) = least
  by (inr e) =
      let all : own.doublings ≡ 100 = omega (arith, e, past, up) in
      let is : own.whole * w + own.rest ≡ size * 2 ^ 100 = h.scaled.is ∙ ap (λ n. size * 2 ^ n) all in
      let most : own.whole * w ≤ own.whole * 2 ^ 43 = mul-le-mul_left own.whole wide in
      let proper = h.scaled.proper in
      omega (arith, is, most, proper, some, wide)

-- ---- rounding
rounded_down : (size w d whole rest : ℕ) → whole * w + rest ≡ size * 2 ^ d → rest < w → 2 * rest ≤ w → (2 * rest ≡ w → whole % 2 ≡ 0) → IsNearWhole size w d whole
rounded_down size w d whole rest is proper less even = record {
  near = omega (arith, is, less);
  even = λ e. even (omega (arith, is, e));
}

rounded_up : (size w d whole rest : ℕ) → whole * w + rest ≡ size * 2 ^ d → rest < w → w ≤ 2 * rest → (2 * rest ≡ w → (whole + 1) % 2 ≡ 0) → IsNearWhole size w d (whole + 1)
rounded_up size w d whole rest is proper more even =
    let next : (whole + 1) * w ≡ whole * w + 1 * w = add-mul whole 1 w in
    record {
      near = omega (arith, is, proper, more, next);
      even = λ e. even (omega (arith, is, proper, next, e));
    }

pub near_below : (size w : ℕ) (own : Scaled) → IsScaled size w own → own.rest * 2 < w → IsNearWhole size w own.doublings own.whole
near_below size w own h less = rounded_down size w own.doublings own.whole own.rest h.is h.proper (omega (arith, less)) (λ e. absurd (omega (arith, less, e)))

pub near_above : (size w : ℕ) (own : Scaled) → IsScaled size w own → w < own.rest * 2 → IsNearWhole size w own.doublings (own.whole + 1)
near_above size w own h more = rounded_up size w own.doublings own.whole own.rest h.is h.proper (omega (arith, more)) (λ e. absurd (omega (arith, more, e)))

pub near_even : (size w : ℕ) (own : Scaled) → IsScaled size w own → own.rest * 2 ≤ w → w ≤ own.rest * 2 → IsNearWhole size w own.doublings (own.whole + own.whole % 2)
near_even size w own h up down = by (own.whole % 2) refl where
  by : (odd : ℕ) → odd ≡ own.whole % 2 → IsNearWhole size w own.doublings (own.whole + odd)
  by zero e = subst (IsNearWhole size w own.doublings) (omega arith) (rounded_down size w own.doublings own.whole own.rest h.is h.proper (omega (arith, up)) (λ t. sym e))
  by (suc odd) e =
      let one : suc odd ≡ 1 = omega (arith, e) in
      subst (IsNearWhole size w own.doublings) (omega (arith, one)) (rounded_up size w own.doublings own.whole own.rest h.is h.proper (omega (arith, down)) (λ t. omega (arith, e)))

-- ---- the bits
pub near_positive : (size w : ℕ) (own : Scaled) (kept bits : ℕ) → IsScaled size w own → IsNearWhole size w own.doublings kept → 2 ^ 52 ≤ own.whole → own.doublings ≤ 131
    → bits ≡ (1075 - own.doublings) * 2 ^ 52 + (kept - 2 ^ 52) → IsNearPositive size w bits
near_positive size w own kept bits scaled near from few is =
    let proper = scaled.proper in
    let short = scaled.short in
    let sum = scaled.is in
    let low : 2 ^ 52 * w ≤ own.whole * w = mul-le-mul_right w from in
    let high : (own.whole + 1) * w ≤ 2 ^ 53 * w = mul-le-mul_right w (omega (arith, short)) in
    let next : (own.whole + 1) * w ≡ own.whole * w + 1 * w = add-mul own.whole 1 w in
    record {
      kept = kept;
      doublings = own.doublings;
      normal = omega (arith, few);
      least = omega (arith, low, sum);
      below = omega (arith, high, next, sum, proper);
      nearest = near;
      bits_are = is;
    }

-- ---- the whole part and what is left
pub of_size : (size w bits : ℕ) → IsNearPositive (size / w * w + size % w) w bits → IsNearPositive size w bits
of_size size w bits h = subst (λ n. IsNearPositive n w bits) (omega (arith, mod-add-div' size w)) h

-- ---- numbers with signs
pub near_negative : (n : ℤ) (w bits : ℕ) → n <ℤ pos 0 → IsNearPositive (unsigned_abs n) w bits → IsNearDouble n w (2 ^ 63 + bits)
near_negative (pos n) w bits less h = absurd (omega (arith, ints, less))
near_negative (negsuc n) w bits less h = (bits, h, refl)

pub near_other : (n : ℤ) (w bits : ℕ) → pos 0 ≤ℤ n → (1 ≤ unsigned_abs n → IsNearPositive (unsigned_abs n) w bits) → (unsigned_abs n ≡ 0 → bits ≡ 0) → IsNearDouble n w bits
near_other (pos zero) w bits least h none = none refl
near_other (pos (suc n)) w bits least h none = h (omega arith)
near_other (negsuc n) w bits least h none = absurd (omega (arith, ints, least))

pub some_of : (n : ℤ) → n <ℤ pos 0 → 1 ≤ unsigned_abs n
some_of (pos n) less = absurd (omega (arith, ints, less))
some_of (negsuc n) less = omega arith

pub size_of : (w : ℤ) (m : ℕ) → pos 0 <ℤ w → w ≤ℤ pos m → (1 ≤ unsigned_abs w) × (unsigned_abs w ≤ m)
size_of (pos w) m some most = (omega (arith, ints, some), omega (arith, ints, most))
size_of (negsuc w) m some most = absurd (omega (arith, ints, some))

pub quotient_less : (size w m : ℕ) → 1 ≤ w → m ≤ size / w → size < m * w → ⊥
quotient_less size w m some past less =
    let wide : 0 < w = omega (arith, some) in
    let quotient : size / w < m = (div-lt_iff_lt-mul wide).1 less in
    omega (arith, quotient, past)
