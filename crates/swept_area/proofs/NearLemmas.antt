-- How far rounding leads: of one piece, and of a sum.
use Rattle.std.proofs.Common.{◌≡◌, ℕ, ℤ, pos, negsuc, neg_ℤ, ◌+ℤ◌, ◌-ℤ◌, ◌*ℤ◌, ◌<ℤ◌, ◌≤ℤ◌, ◌+◌, ◌*◌, ◌/◌, ◌<◌, ◌≤◌, unsigned_abs, refl, ap, sym, ◌∙◌, arith}
use Rattle.std.specs.Int.{int_div_euclid}
use Rattle.std.proofs.lemmas.Int.{ints}
use Rattle.overlay_terms.specs.Within.{IsWithin}
use Rattle.overlay_terms.proofs.Bounds.{within_abs, within_mul}
use Rattle.overlay_terms.proofs.Difference.{split, differences, same, mul_mono, mul_pos}
use Rattle.swept_area.proofs.Floors.{floor_low, floor_high, cancel}

-- z lies from -m to m
pub record Between (m z : ℤ) : Type 0 where
  pub low : neg_ℤ m ≤ℤ z
  pub high : z ≤ℤ m

-- ---- what a division leaves
pub rest_low : (a d : ℤ) → pos 0 <ℤ d → pos 0 ≤ℤ (a -ℤ (int_div_euclid a d *ℤ d))
rest_low a d h = let low = floor_low a d h in omega (arith, ints, low)

pub rest_high : (a d : ℤ) → pos 0 <ℤ d → (a -ℤ (int_div_euclid a d *ℤ d)) ≤ℤ d
rest_high a d h = let high = floor_high a d h in omega (arith, ints, high)

-- ---- the two ends of a piece
swapped : (a b : ℤ) → a *ℤ b ≡ b *ℤ a
swapped a b = rw (split a, split b) (simp differences (same _ _ _ _ (omega arith)))

no_times : (a : ℤ) → pos 0 *ℤ a ≡ pos 0
no_times a = rw (split a) (simp differences (same _ _ _ _ (omega arith)))

pub spread : (e f w v : ℤ) → pos 0 ≤ℤ e → e ≤ℤ v → pos 0 ≤ℤ f → f ≤ℤ w → pos 0 <ℤ w → pos 0 <ℤ v → Between (w *ℤ v) ((e *ℤ w) -ℤ (f *ℤ v))
spread e f w v e0 e1 f0 f1 hw hv =
    let el = mul_mono (pos 0) e w (omega (arith, ints)) e0 in
    let eh = mul_mono e v w (omega (arith, ints)) e1 in
    let fl = mul_mono (pos 0) f v (omega (arith, ints)) f0 in
    let fh = mul_mono f w v (omega (arith, ints)) f1 in
    record {
      low = omega (arith, ints, el, fh, no_times w);
      high = omega (arith, ints, eh, fl, no_times v, swapped v w);
    }

-- ---- a product with a number between bounds
of_within : (n : ℕ) (z : ℤ) → IsWithin n z → Between (pos n) z
of_within n z h = record { low = h.low; high = h.high }

to_within : (n : ℕ) (z : ℤ) → Between (pos n) z → IsWithin n z
to_within n z h = record { low = h.low; high = h.high }

pos_times : (m n : ℕ) → pos (m * n) ≡ pos m *ℤ pos n
pos_times m n = refl

pub times : (c w z : ℤ) → pos 0 ≤ℤ w → Between w z → Between (pos (unsigned_abs c) *ℤ w) (c *ℤ z)
times c (pos n) z h k =
    let all = within_mul (unsigned_abs c) n c z (within_abs (unsigned_abs c) c (omega arith)) (to_within n z k) in
    rw (sym (pos_times (unsigned_abs c) n)) (of_within (unsigned_abs c * n) (c *ℤ z) all)
times c (negsuc n) z h k = absurd (omega (arith, ints, h))

-- ---- so many parts are room for a rest and a share
room_by : (c k : ℕ) → 0 < k → c + k ≤ (c / k + 2) * k
room_by c k h = omega arith

pub room : (c d : ℤ) → pos 0 <ℤ d → (pos (unsigned_abs c) +ℤ d) ≤ℤ (pos (unsigned_abs c / unsigned_abs d + 2) *ℤ d)
room c (pos k) h = let n = room_by (unsigned_abs c) k (omega (arith, ints, h)) in omega (arith, ints, n, pos_times (unsigned_abs c / k + 2) k)
room c (negsuc k) h = absurd (omega (arith, ints, h))

-- ---- identities
-- what is left of one piece, times its width
parts_of_rest : (c d k xp xr px pv rx rv q n : ℤ) → d *ℤ n ≡ c *ℤ ((rx *ℤ pv) -ℤ (px *ℤ rv)) →
    d *ℤ ((n *ℤ k) -ℤ (q *ℤ (pv *ℤ rv)))
    ≡ ((pv *ℤ rv) *ℤ ((c *ℤ (xr -ℤ xp)) -ℤ (q *ℤ d))) +ℤ (c *ℤ ((((rx *ℤ k) -ℤ (xr *ℤ rv)) *ℤ pv) -ℤ (((px *ℤ k) -ℤ (xp *ℤ pv)) *ℤ rv)))
parts_of_rest c d k xp xr px pv rx rv q n e =
    by_factors d n k q pv rv ∙ ap (λ z. (z *ℤ k) -ℤ ((q *ℤ d) *ℤ (pv *ℤ rv))) e ∙ regroup c d k xp xr px pv rx rv q
  where
    by_factors : (d n k q pv rv : ℤ) → d *ℤ ((n *ℤ k) -ℤ (q *ℤ (pv *ℤ rv))) ≡ ((d *ℤ n) *ℤ k) -ℤ ((q *ℤ d) *ℤ (pv *ℤ rv))
    by_factors d n k q pv rv = rw (split d, split n, split k, split q, split pv, split rv) (simp differences (same _ _ _ _ (omega arith)))

    regroup : (c d k xp xr px pv rx rv q : ℤ) → ((c *ℤ ((rx *ℤ pv) -ℤ (px *ℤ rv))) *ℤ k) -ℤ ((q *ℤ d) *ℤ (pv *ℤ rv))
        ≡ ((pv *ℤ rv) *ℤ ((c *ℤ (xr -ℤ xp)) -ℤ (q *ℤ d))) +ℤ (c *ℤ ((((rx *ℤ k) -ℤ (xr *ℤ rv)) *ℤ pv) -ℤ (((px *ℤ k) -ℤ (xp *ℤ pv)) *ℤ rv)))
    regroup c d k xp xr px pv rx rv q = rw (split c, split d, split k, split xp, split xr, split px, split pv, split rx, split rv, split q) (simp differences (same _ _ _ _ (omega arith)))

-- ---- one piece: its rests and its share
module _ (c d k xp xr px pv rx rv q n : ℤ) (hd : pos 0 <ℤ d) (hp : pos 0 <ℤ pv) (hr : pos 0 <ℤ rv)
    (p0 : pos 0 ≤ℤ ((px *ℤ k) -ℤ (xp *ℤ pv))) (p1 : ((px *ℤ k) -ℤ (xp *ℤ pv)) ≤ℤ pv)
    (r0 : pos 0 ≤ℤ ((rx *ℤ k) -ℤ (xr *ℤ rv))) (r1 : ((rx *ℤ k) -ℤ (xr *ℤ rv)) ≤ℤ rv)
    (q0 : neg_ℤ d ≤ℤ ((c *ℤ (xr -ℤ xp)) -ℤ (q *ℤ d))) (q1 : ((c *ℤ (xr -ℤ xp)) -ℤ (q *ℤ d)) ≤ℤ d)
    (e : d *ℤ n ≡ c *ℤ ((rx *ℤ pv) -ℤ (px *ℤ rv))) where
  pub piece_near : Between (pos (unsigned_abs c / unsigned_abs d + 2) *ℤ (pv *ℤ rv)) ((n *ℤ k) -ℤ (q *ℤ (pv *ℤ rv)))
  piece_near =
      let w = pv *ℤ rv in
      let wide : pos 0 <ℤ (pv *ℤ rv) = mul_pos pv rv hp hr in
      let ends = times c (pv *ℤ rv) ((((rx *ℤ k) -ℤ (xr *ℤ rv)) *ℤ pv) -ℤ (((px *ℤ k) -ℤ (xp *ℤ pv)) *ℤ rv)) (omega (arith, ints))
      (spread ((rx *ℤ k) -ℤ (xr *ℤ rv)) ((px *ℤ k) -ℤ (xp *ℤ pv)) pv rv r0 r1 p0 p1 hp hr) in
      let share0 = mul_mono (neg_ℤ d) ((c *ℤ (xr -ℤ xp)) -ℤ (q *ℤ d)) (pv *ℤ rv) (omega (arith, ints)) q0 in
      let share1 = mul_mono ((c *ℤ (xr -ℤ xp)) -ℤ (q *ℤ d)) d (pv *ℤ rv) (omega (arith, ints)) q1 in
      let is = parts_of_rest c d k xp xr px pv rx rv q n e in
      let all = mul_mono (pos (unsigned_abs c) +ℤ d) (pos (unsigned_abs c / unsigned_abs d + 2) *ℤ d) (pv *ℤ rv) (omega (arith, ints)) (room c d hd) in
      bounded (pos (unsigned_abs c)) d (pos (unsigned_abs c / unsigned_abs d + 2)) (pv *ℤ rv) ((c *ℤ (xr -ℤ xp)) -ℤ (q *ℤ d))
      (c *ℤ ((((rx *ℤ k) -ℤ (xr *ℤ rv)) *ℤ pv) -ℤ (((px *ℤ k) -ℤ (xp *ℤ pv)) *ℤ rv))) ((n *ℤ k) -ℤ (q *ℤ (pv *ℤ rv))) hd ends share0 share1 is all
    where
      spread_out : (a d w : ℤ) → (a +ℤ d) *ℤ w ≡ (a *ℤ w) +ℤ (d *ℤ w)
      spread_out a d w = rw (split a, split d, split w) (simp differences (same _ _ _ _ (omega arith)))

      moved : (s d w : ℤ) → d *ℤ (s *ℤ w) ≡ (s *ℤ d) *ℤ w
      moved s d w = rw (split s, split d, split w) (simp differences (same _ _ _ _ (omega arith)))

      turned_over : (d z : ℤ) → d *ℤ neg_ℤ z ≡ neg_ℤ (d *ℤ z)
      turned_over d z = rw (split d, split z) (simp differences (same _ _ _ _ (omega arith)))

      minus_times : (d w : ℤ) → neg_ℤ d *ℤ w ≡ neg_ℤ (d *ℤ w)
      minus_times d w = rw (split d, split w) (simp differences (same _ _ _ _ (omega arith)))

      bounded : (a d s w x y z : ℤ) → pos 0 <ℤ d → Between (a *ℤ w) y → (neg_ℤ d *ℤ w) ≤ℤ (x *ℤ w) → (x *ℤ w) ≤ℤ (d *ℤ w)
          → d *ℤ z ≡ (w *ℤ x) +ℤ y → ((a +ℤ d) *ℤ w) ≤ℤ ((s *ℤ d) *ℤ w) → Between (s *ℤ w) z
      bounded a d s w x y z h b low high is all =
          record {
            low = cancel d (neg_ℤ (s *ℤ w)) z h (rw (turned_over d (s *ℤ w), moved s d w, is) (omega (arith, ints, b.low, low, high, all, minus_times d w, swapped w x, spread_out a d w)));
            high = cancel d z (s *ℤ w) h (rw (moved s d w, is) (omega (arith, ints, b.high, low, high, all, swapped w x, spread_out a d w)));
          }

-- ---- a sum
pub sum_near : (k a b z y qn qd rn rd : ℤ) → pos 0 <ℤ qd → pos 0 <ℤ rd → Between (a *ℤ qd) ((qn *ℤ k) -ℤ (z *ℤ qd)) → Between (b *ℤ rd) ((rn *ℤ k) -ℤ (y *ℤ rd))
    → Between ((a +ℤ b) *ℤ (qd *ℤ rd)) ((((qn *ℤ rd) +ℤ (rn *ℤ qd)) *ℤ k) -ℤ ((z +ℤ y) *ℤ (qd *ℤ rd)))
sum_near k a b z y qn qd rn rd hq hr h m =
    let ql = mul_mono (neg_ℤ (a *ℤ qd)) ((qn *ℤ k) -ℤ (z *ℤ qd)) rd (omega (arith, ints)) h.low in
    let qh = mul_mono ((qn *ℤ k) -ℤ (z *ℤ qd)) (a *ℤ qd) rd (omega (arith, ints)) h.high in
    let rl = mul_mono (neg_ℤ (b *ℤ rd)) ((rn *ℤ k) -ℤ (y *ℤ rd)) qd (omega (arith, ints)) m.low in
    let rh = mul_mono ((rn *ℤ k) -ℤ (y *ℤ rd)) (b *ℤ rd) qd (omega (arith, ints)) m.high in
    rw (value k z y qn qd rn rd, bound a b qd rd)
    (record {
      low = omega (arith, ints, ql, rl, turned_over (a *ℤ qd) rd, turned_over (b *ℤ rd) qd);
      high = omega (arith, ints, qh, rh);
    })
  where
    turned_over : (z d : ℤ) → neg_ℤ z *ℤ d ≡ neg_ℤ (z *ℤ d)
    turned_over z d = rw (split z, split d) (simp differences (same _ _ _ _ (omega arith)))

    value : (k z y qn qd rn rd : ℤ) → (((qn *ℤ rd) +ℤ (rn *ℤ qd)) *ℤ k) -ℤ ((z +ℤ y) *ℤ (qd *ℤ rd)) ≡ (((qn *ℤ k) -ℤ (z *ℤ qd)) *ℤ rd) +ℤ (((rn *ℤ k) -ℤ (y *ℤ rd)) *ℤ qd)
    value k z y qn qd rn rd = rw (split k, split z, split y, split qn, split qd, split rn, split rd) (simp differences (same _ _ _ _ (omega arith)))

    bound : (a b qd rd : ℤ) → (a +ℤ b) *ℤ (qd *ℤ rd) ≡ ((a *ℤ qd) *ℤ rd) +ℤ ((b *ℤ rd) *ℤ qd)
    bound a b qd rd = rw (split a, split b, split qd, split rd) (simp differences (same _ _ _ _ (omega arith)))
