-- Division rounded down.
use Rattle.std.proofs.Common.{◌≡◌, sym, ℕ, ℤ, pos, negsuc, ◌+ℤ◌, ◌*ℤ◌, ◌<ℤ◌, ◌≤ℤ◌, ◌+◌, ◌*◌, ◌<◌, ◌≤◌, arith, neg_ℤ}
use Rattle.std.specs.Int.{int_div_euclid, int_rem_euclid}
use Rattle.std.proofs.lemmas.Int.{ints, by_lt_z}
use Rattle.overlay_terms.proofs.Difference.{split, differences, same, at_most, below, whole_is, mul_mono}
use Rattle.overlay_terms.specs.Within.{IsWithin}
use Rattle.overlay_terms.proofs.Ratios.{mul_less}
use borrow.Author.Differences.{up, down}

-- the quotient q that rounds down has k * q ≤ a < k * q + k
quotient_parts : (a : ℤ) (k : ℕ) → 0 < k → (up (int_div_euclid a (pos k)) * k + down a ≤ down (int_div_euclid a (pos k)) * k + up a)
    × (down (int_div_euclid a (pos k)) * k + up a < up (int_div_euclid a (pos k)) * k + down a + k)
quotient_parts (pos a) k h = omega arith
quotient_parts (negsuc a) k h = omega arith

low_by : (q a : ℤ) (k : ℕ) → up q * k + down a ≤ down q * k + up a → (q *ℤ pos k) ≤ℤ a
low_by q a k h = rw (split q, split a, whole_is k) (simp differences (at_most _ _ _ _ (omega (arith, h))))

high_by : (q a : ℤ) (k : ℕ) → down q * k + up a < up q * k + down a + k → a <ℤ ((q *ℤ pos k) +ℤ pos k)
high_by q a k h = rw (split q, split a, whole_is k) (simp differences (below _ _ _ _ (omega (arith, h))))

pub floor_low : (a d : ℤ) → pos 0 <ℤ d → (int_div_euclid a d *ℤ d) ≤ℤ a
floor_low a (pos k) h = low_by (int_div_euclid a (pos k)) a k (quotient_parts a k (omega (arith, ints))).0
floor_low a (negsuc k) h = absurd (omega (arith, ints))

pub floor_high : (a d : ℤ) → pos 0 <ℤ d → a <ℤ ((int_div_euclid a d *ℤ d) +ℤ d)
floor_high a (pos k) h = high_by (int_div_euclid a (pos k)) a k (quotient_parts a k (omega (arith, ints))).1
floor_high a (negsuc k) h = absurd (omega (arith, ints))

one_more : (q d : ℤ) → (q +ℤ pos 1) *ℤ d ≡ (q *ℤ d) +ℤ d
one_more q d = rw (split q, split d) (simp differences (same _ _ _ _ (omega arith)))

-- a whole number that is at most a / d is at most the quotient
pub floor_from : (z a d : ℤ) → pos 0 <ℤ d → (z *ℤ d) ≤ℤ a → z ≤ℤ int_div_euclid a d
floor_from z a d h k =
    by_lt_z (int_div_euclid a d) z
    (λ l. let more : ((int_div_euclid a d +ℤ pos 1) *ℤ d) ≤ℤ (z *ℤ d) = mul_mono (int_div_euclid a d +ℤ pos 1) z d (omega (arith, ints)) (omega (arith, ints)) in
    let is = one_more (int_div_euclid a d) d in
    let high = floor_high a d h in
    absurd (omega (arith, ints, more, is, high, k)))
    (λ l. l)

-- a whole number that is at least a / d is at least the quotient
pub floor_to : (z a d : ℤ) → pos 0 <ℤ d → a ≤ℤ (z *ℤ d) → int_div_euclid a d ≤ℤ z
floor_to z a d h k =
    by_lt_z z (int_div_euclid a d)
    (λ l. let more : ((z +ℤ pos 1) *ℤ d) ≤ℤ (int_div_euclid a d *ℤ d) = mul_mono (z +ℤ pos 1) (int_div_euclid a d) d (omega (arith, ints)) (omega (arith, ints)) in
    let is = one_more z d in
    let low = floor_low a d h in
    absurd (omega (arith, ints, more, is, low, k, h)))
    (λ l. l)

-- the one whole number q with q * d ≤ a < q * d + d
pub floor_is : (q a d : ℤ) → pos 0 <ℤ d → (q *ℤ d) ≤ℤ a → a <ℤ ((q *ℤ d) +ℤ d) → int_div_euclid a d ≡ q
floor_is q a d h low high =
    let least = floor_from q a d h low in
    let is = one_more q d in
    by_lt_z q (int_div_euclid a d)
    (λ l. let more : ((q +ℤ pos 1) *ℤ d) ≤ℤ (int_div_euclid a d *ℤ d) = mul_mono (q +ℤ pos 1) (int_div_euclid a d) d (omega (arith, ints)) (omega (arith, ints)) in
    let under = floor_low a d h in
    absurd (omega (arith, ints, more, is, under, high)))
    (λ l. omega (arith, ints, least, l))

-- 1 divides as it does
pub floor_one : (a d : ℤ) → pos 0 <ℤ d → d ≤ℤ pos 1 → int_div_euclid a d ≡ a
floor_one a d h k =
    let is : d ≡ pos 1 = omega (arith, ints, h, k) in
    rw is (floor_is a a (pos 1) (omega (arith, ints)) (omega (arith, ints)) (omega (arith, ints)))

added : (q k d : ℤ) → (q +ℤ k) *ℤ d ≡ (q *ℤ d) +ℤ (k *ℤ d)
added q k d = rw (split q, split k, split d) (simp differences (same _ _ _ _ (omega arith)))

-- so many times the divisor more
pub floor_more : (a k d : ℤ) → pos 0 <ℤ d → int_div_euclid (a +ℤ (k *ℤ d)) d ≡ int_div_euclid a d +ℤ k
floor_more a k d h =
    let low = floor_low a d h in
    let high = floor_high a d h in
    let is = added (int_div_euclid a d) k d in
    floor_is (int_div_euclid a d +ℤ k) (a +ℤ (k *ℤ d)) d h (omega (arith, ints, low, is)) (omega (arith, ints, high, is))

swapped : (q d e : ℤ) → (q *ℤ d) *ℤ e ≡ d *ℤ (q *ℤ e)
swapped q d e = rw (split q, split d, split e) (simp differences (same _ _ _ _ (omega arith)))

turned_round : (b d : ℤ) → b *ℤ d ≡ d *ℤ b
turned_round b d = rw (split b, split d) (simp differences (same _ _ _ _ (omega arith)))

-- a positive factor goes from an order
pub cancel : (d x y : ℤ) → pos 0 <ℤ d → (d *ℤ x) ≤ℤ (d *ℤ y) → x ≤ℤ y
cancel d x y h k = by_lt_z y x (λ l. let more = mul_less d y x h l in absurd (omega (arith, ints, more, k))) (λ l. l)

not_more : (a d b e : ℤ) → pos 0 <ℤ d → pos 0 <ℤ e → a *ℤ e ≡ b *ℤ d → int_div_euclid a d ≤ℤ int_div_euclid b e
not_more a d b e h k same_ratio =
    let low : ((int_div_euclid a d *ℤ d) *ℤ e) ≤ℤ (a *ℤ e) = mul_mono (int_div_euclid a d *ℤ d) a e (omega (arith, ints, k)) (floor_low a d h) in
    let turn = swapped (int_div_euclid a d) d e in
    let round = turned_round b d in
    floor_from (int_div_euclid a d) b e k (cancel d (int_div_euclid a d *ℤ e) b h (omega (arith, ints, low, turn, round, same_ratio)))

-- equal fractions round to one number
pub floor_same : (a d b e : ℤ) → pos 0 <ℤ d → pos 0 <ℤ e → a *ℤ e ≡ b *ℤ d → int_div_euclid a d ≡ int_div_euclid b e
floor_same a d b e h k same_ratio =
    let more = not_more a d b e h k same_ratio in
    let less = not_more b e a d k h (sym same_ratio) in
    omega (arith, ints, more, less)

neg_times : (n d : ℤ) → neg_ℤ n *ℤ d ≡ neg_ℤ (d *ℤ n)
neg_times n d = rw (split n, split d) (simp differences (same _ _ _ _ (omega arith)))

-- a quotient is no farther from 0 than what is divided
pub quotient_within : (n : ℕ) (a d : ℤ) → pos 0 <ℤ d → IsWithin n a → IsWithin n (int_div_euclid a d)
quotient_within n a d h k =
    let more : (pos 1 *ℤ pos n) ≤ℤ (d *ℤ pos n) = mul_mono (pos 1) d (pos n) (omega (arith, ints)) (omega (arith, ints, h)) in
    let below = neg_times (pos n) d in
    let round = turned_round (pos n) d in
    record {
      low = floor_from (neg_ℤ (pos n)) a d h (omega (arith, ints, more, below, k.low));
      high = floor_to (pos n) a d h (omega (arith, ints, more, round, k.high));
    }

rest_parts : (a : ℤ) (k : ℕ) → 0 < k → up a + (down (int_div_euclid a (pos k)) * k + down (int_rem_euclid a (pos k))) ≡ (up (int_div_euclid a (pos k)) * k + up (int_rem_euclid a (pos k))) + down a
rest_parts (pos a) k h = omega arith
rest_parts (negsuc a) k h = omega arith

divided_by : (q r a : ℤ) (k : ℕ) → up a + (down q * k + down r) ≡ (up q * k + up r) + down a → a ≡ (q *ℤ pos k) +ℤ r
divided_by q r a k h = rw (split q, split r, split a, whole_is k) (simp differences (same _ _ _ _ (omega (arith, h))))

-- a quotient and its rest
pub divided : (a d : ℤ) → pos 0 <ℤ d → a ≡ (int_div_euclid a d *ℤ d) +ℤ int_rem_euclid a d
divided a (pos k) h = divided_by (int_div_euclid a (pos k)) (int_rem_euclid a (pos k)) a k (rest_parts a k (omega (arith, ints)))
divided a (negsuc k) h = absurd (omega (arith, ints))

-- the rest is no larger than the divisor
pub rest_within : (n : ℕ) (a d : ℤ) → pos 0 <ℤ d → IsWithin n d → IsWithin n (int_rem_euclid a d)
rest_within n a d h k =
    let is = divided a d h in
    let low = floor_low a d h in
    let high = floor_high a d h in
    record { low = omega (arith, ints, is, low, k.high, k.low); high = omega (arith, ints, is, high, k.high) }
