-- Places with small numbers lie near one another, so for them the order of places and the order by x in the leaned plane are one.
use Rattle.std.proofs.Common.{◌≡◌, ℤ, pos, ◌+ℤ◌, ◌-ℤ◌, ◌*ℤ◌, ◌<ℤ◌, ◌≤ℤ◌, neg_ℤ, arith}
use Rattle.std.proofs.lemmas.Int.{ints}
use Rattle.overlay_terms.specs.Plane.{Point}
use Rattle.overlay_terms.proofs.Difference.{split, differences, same, diff-neg, mul_pos}
use Rattle.overlay_terms.proofs.InputNumbers.{most_times}
use Rattle.crossing_sweep.specs.Leaning.{IsNear}

-- the denominator is positive and at most w, and y lies from - m to m
pub record IsBounded (m w : ℤ) (p : Point) : Type 0 where
  pub positive : pos 0 <ℤ p.w
  pub few : p.w ≤ℤ w
  pub low : neg_ℤ (m *ℤ p.w) ≤ℤ p.y
  pub high : p.y ≤ℤ (m *ℤ p.w)

-- a number from - m v to m v, times a positive u at most w, where v is at most w too
top_by : (m w y v u : ℤ) → pos 0 <ℤ m → pos 0 <ℤ v → v ≤ℤ w → pos 0 <ℤ u → u ≤ℤ w → y ≤ℤ (m *ℤ v) → (y *ℤ u) ≤ℤ ((m *ℤ w) *ℤ w)
top_by m w y v u hm hv fv hu fu h =
    omega (arith, ints, most_times y (m *ℤ v) u hu h, turned m v u, most_times v w (m *ℤ u) (mul_pos m u hm hu) fv, most_times u w (m *ℤ w) (mul_pos m w hm (more v w hv fv)) fu, last m w u)
  where
    turned : (m v u : ℤ) → (m *ℤ v) *ℤ u ≡ v *ℤ (m *ℤ u)
    turned m v u = rw (split m, split v, split u) (simp differences (same _ _ _ _ (omega arith)))

    last : (m w u : ℤ) → w *ℤ (m *ℤ u) ≡ u *ℤ (m *ℤ w)
    last m w u = rw (split m, split w, split u) (simp differences (same _ _ _ _ (omega arith)))

    more : (v w : ℤ) → pos 0 <ℤ v → v ≤ℤ w → pos 0 <ℤ w
    more v w h k = omega (arith, ints, h, k)

bottom_by : (m w y v u : ℤ) → pos 0 <ℤ m → pos 0 <ℤ v → v ≤ℤ w → pos 0 <ℤ u → u ≤ℤ w → neg_ℤ (m *ℤ v) ≤ℤ y → neg_ℤ ((m *ℤ w) *ℤ w) ≤ℤ (y *ℤ u)
bottom_by m w y v u hm hv fv hu fu h =
    omega (arith, ints, top_by m w (neg_ℤ y) v u hm hv fv hu fu (omega (arith, ints, h)), negated y u)
  where
    negated : (y u : ℤ) → neg_ℤ y *ℤ u ≡ neg_ℤ (y *ℤ u)
    negated y u = rw (split y, split u) (simp (diff-neg, differences) (same _ _ _ _ (omega arith)))

-- places with small numbers are near
pub small_are_near : (n m w : ℤ) (p q : Point) → pos 0 <ℤ m → (((m *ℤ w) *ℤ w) +ℤ ((m *ℤ w) *ℤ w)) <ℤ n → IsBounded m w p → IsBounded m w q → IsNear n p q
small_are_near n m w p q hm large hp hq = record {
  low = under (q.y *ℤ p.w) (p.y *ℤ q.w) ((m *ℤ w) *ℤ w) n (bottom_by m w q.y q.w p.w hm hq.positive hq.few hp.positive hp.few hq.low) (top_by m w p.y p.w q.w hm hp.positive hp.few hq.positive hq.few hp.high) large;
  high = over (q.y *ℤ p.w) (p.y *ℤ q.w) ((m *ℤ w) *ℤ w) n (top_by m w q.y q.w p.w hm hq.positive hq.few hp.positive hp.few hq.high) (bottom_by m w p.y p.w q.w hm hp.positive hp.few hq.positive hq.few hp.low) large;
}
  where
    under : (a b c n : ℤ) → neg_ℤ c ≤ℤ a → b ≤ℤ c → (c +ℤ c) <ℤ n → neg_ℤ n <ℤ (a -ℤ b)
    under a b c n h k l = omega (arith, ints, h, k, l)

    over : (a b c n : ℤ) → a ≤ℤ c → neg_ℤ c ≤ℤ b → (c +ℤ c) <ℤ n → (a -ℤ b) <ℤ n
    over a b c n h k l = omega (arith, ints, h, k, l)
