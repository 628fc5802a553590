-- The whole numbers next to a fraction, from a division of naturals.
use Rattle.std.proofs.Common.{◌≡◌, ℕ, ℤ, pos, negsuc, unsigned_abs, FitsSigned, to_z, of_z, subst, ◌+◌, ◌*◌, ◌<◌, ◌≤◌, ◌+ℤ◌, ◌-ℤ◌, ◌*ℤ◌, ◌<ℤ◌, ◌≤ℤ◌, ap, sym, ◌∙◌, arith}
use Rattle.std.specs.Int.{w64}
use Rattle.std.proofs.lemmas.Int.{ints, by_lt_z, fits_signed_from_abs, to_z-of_z, to_z_pos}
use Rattle.overlay_terms.specs.Within.{IsWithin}
use Rattle.overlay_terms.proofs.Bounds.{abs_within}
use Rattle.overlay_terms.proofs.Difference.{split, differences, same, mul_mono}
use Rattle.point_looks.specs.Floor.{IsFloor, IsCeil}

-- products of sums
sum_times : (a b w : ℤ) → (a +ℤ b) *ℤ w ≡ (a *ℤ w) +ℤ (b *ℤ w)
sum_times a b w = rw (split a, split b, split w) (simp differences (same _ _ _ _ (omega arith)))

minus_times : (a b w : ℤ) → (a -ℤ b) *ℤ w ≡ a *ℤ w -ℤ b *ℤ w
minus_times a b w = rw (split a, split b, split w) (simp differences (same _ _ _ _ (omega arith)))

-- a number that is not negative, by its size
size_is : (a w : ℤ) → a ≡ w → pos 1 ≤ℤ w → pos (unsigned_abs a) ≡ w
size_is (pos n) w e h = e
size_is (negsuc n) w e h = absurd (omega (arith, ints, e, h))

-- how often w goes into how far x lies right of the left edge
pub record IsCounted (q n v : ℕ) (x w : ℤ) : Type 0 where
  pub is : pos v ≡ w
  pub far : pos n ≡ x +ℤ (pos 1048576 *ℤ w)
  pub low : q * v ≤ n
  pub high : n < (q + 1) * v

-- the same, from what the code's numbers read as
pub counted : (q n : ℕ) (a b x w : ℤ) → a ≡ x → b ≡ w → pos 1 ≤ℤ w → pos n ≡ a +ℤ (pos 1048576 *ℤ b) → q * unsigned_abs b ≤ n → n < (q + 1) * unsigned_abs b → IsCounted q n (unsigned_abs b) x w
counted q n a b x w e f h far low high = record {
  is = size_is b w f h;
  far = far ∙ (λ i. e i +ℤ (pos 1048576 *ℤ f i));
  low = low;
  high = high;
}

module _ (q n v : ℕ) (x w : ℤ) (positive : pos 1 ≤ℤ w) (c : IsCounted q n v x w) where
  low : (pos q *ℤ w) ≤ℤ (x +ℤ (pos 1048576 *ℤ w))
  low = let e : pos q *ℤ w ≡ pos (q * v) = ap (λ z. pos q *ℤ z) (sym c.is) in omega (arith, ints, e, c.far, c.low)

  high : (x +ℤ (pos 1048576 *ℤ w)) <ℤ ((pos q +ℤ pos 1) *ℤ w)
  high = let e : (pos q +ℤ pos 1) *ℤ w ≡ pos ((q + 1) * v) = ap (λ z. (pos q +ℤ pos 1) *ℤ z) (sym c.is) in omega (arith, ints, e, c.far, c.high)

  floor_is : IsFloor (pos q -ℤ pos 1048576) x w
  floor_is = record {
    low = omega (arith, ints, low, minus_times (pos q) (pos 1048576) w);
    high = omega (arith, ints, high, sum_times (pos q -ℤ pos 1048576) (pos 1) w, minus_times (pos q) (pos 1048576) w, sum_times (pos q) (pos 1) w);
  }

  counted_few : x ≤ℤ (pos 1048576 *ℤ w) → q ≤ 2097152
  counted_few h =
      by_lt_z (pos 2097152) (pos q)
      (λ l. let most : (pos 2097153 *ℤ w) ≤ℤ (pos q *ℤ w) = mul_mono (pos 2097153) (pos q) w (omega (arith, ints)) (omega (arith, ints)) in
      absurd (omega (arith, ints, most, low)))
      (λ l. omega (arith, ints))

  -- how often that is reads as it is, and is not too much
  pub count_read : x ≤ℤ (pos 1048576 *ℤ w) → to_z w64 q ≡ pos q
  count_read h = to_z_pos w64 q (omega (arith, counted_few h))

  floor_within : x ≤ℤ (pos 1048576 *ℤ w) → IsWithin 1048576 (to_z w64 q -ℤ pos 1048576)
  floor_within h = rw (count_read h) (record { low = omega (arith, ints); high = omega (arith, ints, counted_few h) })

  pub floor_fits : x ≤ℤ (pos 1048576 *ℤ w) → FitsSigned w64 (to_z w64 q -ℤ pos 1048576)
  floor_fits h = fits_signed_from_abs w64 (to_z w64 q -ℤ pos 1048576) (omega (arith, abs_within 1048576 _ (floor_within h)))

  pub floor_read : x ≤ℤ (pos 1048576 *ℤ w) → IsFloor (to_z w64 (of_z w64 (to_z w64 q -ℤ pos 1048576))) x w
  floor_read h = rw (to_z-of_z w64 (to_z w64 q -ℤ pos 1048576) (floor_fits h), count_read h) floor_is

  pub floor_small : x ≤ℤ (pos 1048576 *ℤ w) → IsWithin 1048576 (to_z w64 (of_z w64 (to_z w64 q -ℤ pos 1048576)))
  floor_small h = rw (to_z-of_z w64 (to_z w64 q -ℤ pos 1048576) (floor_fits h)) (floor_within h)

-- what is greatest below the other side of 0 is least above on this one
ceil_is : (f x w : ℤ) → IsFloor f (pos 0 -ℤ x) w → IsCeil (pos 0 -ℤ f) x w
ceil_is f x w h = record {
  low = omega (arith, ints, h.high, sum_times f (pos 1) w, minus_times (pos 0 -ℤ f) (pos 1) w, minus_times (pos 0) f w);
  high = omega (arith, ints, h.low, minus_times (pos 0) f w);
}

-- the same, from what the code's numbers read as
pub ceil_read : (e f a b x w : ℤ) → e ≡ pos 0 -ℤ f → a ≡ pos 0 -ℤ x → b ≡ w → IsFloor f a b → IsCeil e x w
ceil_read e f a b x w g h k is = rw g (ceil_is f x w (subst (λ z. IsFloor f (pos 0 -ℤ x) z) k (subst (λ z. IsFloor f z b) h is)))
