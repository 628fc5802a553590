-- The four signs of a segment in a strip: it begins at a and ends at b, the strip is after u and up to v.
use Rattle.std.proofs.Common.{◌≡◌, ap, Bool, true, false, cond, not, ◌&&◌, arith, ◌⊎◌, inl, inr}
use Rattle.std.proofs.lemmas.Int.{ints, by_lt_z}
use Rattle.overlay_terms.proofs.Difference.{mul_pos}
use Rattle.exact_point.proofs.Lines.{Under, kept, form_moves}
use Rattle.exact_point.proofs.Signs.{not_positive_times}
use Rattle.tile_laws.proofs.EvenRegion.{differ}
use lib.IntN.{ℤ, pos, ◌+ℤ◌, ◌-ℤ◌, ◌*ℤ◌, zero-*ℤ}
use lib.Signed.{◌<ℤ◌, ◌≤ℤ◌, lt_z}

-- p: a is after u, q: b is after u, r: a is after v, s: b is after v.
-- tu, tv: it lies under the line at u, at v; ta, tb: so do its ends
pub four_signs : (p q r s tu tv ta tb : Bool)
    → (p ≡ true → q ≡ true) → (r ≡ true → s ≡ true) → (r ≡ true → p ≡ true) → (s ≡ true → q ≡ true)
    → (p ≡ false → s ≡ false → q ≡ true → tu ≡ tb)
    → (p ≡ false → s ≡ true → tu ≡ tv)
    → (p ≡ true → s ≡ false → ta ≡ tb)
    → (p ≡ true → r ≡ false → s ≡ true → ta ≡ tv)
    → differ (((not p) && q) && tu) (differ (((not r) && s) && tv) (differ ((p && (not r)) && ta) ((q && (not s)) && tb))) ≡ false
four_signs p q r s tu tv ta tb pq rs rp sq ends over inside begins = grind (arith, pq, rs, rp, sq, ends, over, inside, begins)

-- under just right of a place, by the form there and the slope
abbrev pub under_test : ℤ → ℤ → Bool
under_test g k = cond (lt_z (pos 0) g) true (cond (lt_z g (pos 0)) false (lt_z (pos 0) k))

-- both tests hold
true_test : (g k h : ℤ) → Under g k → pos 0 <ℤ h → under_test g k ≡ lt_z (pos 0) h
true_test g k h (inl u) l = grind (arith, ints, u, l)
true_test g k h (inr (z, u)) l = grind (arith, ints, z, u, l)

-- neither holds
false_test : (g k h : ℤ) → (g <ℤ pos 0) ⊎ ((g ≡ pos 0) × (k ≤ℤ pos 0)) → h ≤ℤ pos 0 → under_test g k ≡ lt_z (pos 0) h
false_test g k h (inl u) l = grind (arith, ints, u, l)
false_test g k h (inr (z, u)) l = grind (arith, ints, z, u, l)

-- 0 at the first place and not rising: not above 0 at the later one
stays_low : (a b x w y v : ℤ) → pos 0 <ℤ w → pos 0 <ℤ v → pos 0 <ℤ (y *ℤ w -ℤ x *ℤ v)
    → (a *ℤ x +ℤ b *ℤ w) ≡ pos 0 → a ≤ℤ pos 0 → (a *ℤ y +ℤ b *ℤ v) ≤ℤ pos 0
stays_low a b x w y v hw hv gap z k =
    by_lt_z (pos 0) (a *ℤ y +ℤ b *ℤ v)
    (λ l. absurd (omega (
      arith,
      ints,
      form_moves a b x w y v,
      mul_pos (a *ℤ y +ℤ b *ℤ v) w l hw,
      ap (λ t. t *ℤ v) z,
      zero-*ℤ v,
      not_positive_times a (y *ℤ w -ℤ x *ℤ v) k gap,
    )))
    (λ l. l)

-- the order is kept, as a test, where there is no change of sign on the way
pub test_kept : (a b x w y v : ℤ) → pos 0 <ℤ w → pos 0 <ℤ v → pos 0 <ℤ (y *ℤ w -ℤ x *ℤ v)
    → (pos 0 <ℤ (a *ℤ x +ℤ b *ℤ w) → (a *ℤ y +ℤ b *ℤ v) ≤ℤ pos 0 → ⊥)
    → ((a *ℤ x +ℤ b *ℤ w) <ℤ pos 0 → pos 0 ≤ℤ (a *ℤ y +ℤ b *ℤ v) → ⊥)
    → under_test (a *ℤ x +ℤ b *ℤ w) a ≡ lt_z (pos 0) (a *ℤ y +ℤ b *ℤ v)
test_kept a b x w y v hw hv gap falling rising =
    by_lt_z (pos 0) (a *ℤ x +ℤ b *ℤ w)
    (λ h. true_test (a *ℤ x +ℤ b *ℤ w) a (a *ℤ y +ℤ b *ℤ v) (inl h) (kept a b x w y v hw hv gap falling (inl h)))
    (λ h. by_lt_z (a *ℤ x +ℤ b *ℤ w) (pos 0)
    (λ l. false_test (a *ℤ x +ℤ b *ℤ w) a (a *ℤ y +ℤ b *ℤ v) (inl l)
    (by_lt_z (pos 0) (a *ℤ y +ℤ b *ℤ v) (λ m. absurd (rising l (omega (arith, ints)))) (λ m. m)))
    (λ l. level (omega (arith, ints))))
  where
    level : (a *ℤ x +ℤ b *ℤ w) ≡ pos 0 → under_test (a *ℤ x +ℤ b *ℤ w) a ≡ lt_z (pos 0) (a *ℤ y +ℤ b *ℤ v)
    level z = by_lt_z (pos 0) a
        (λ m. true_test (a *ℤ x +ℤ b *ℤ w) a (a *ℤ y +ℤ b *ℤ v) (inr (z, m)) (kept a b x w y v hw hv gap falling (inr (z, m))))
        (λ m. false_test (a *ℤ x +ℤ b *ℤ w) a (a *ℤ y +ℤ b *ℤ v) (inr (z, m)) (stays_low a b x w y v hw hv gap z m))
