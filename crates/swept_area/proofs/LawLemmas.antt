-- What a piece sweeps over is near the exact area, and is it between whole places.
use Rattle.std.proofs.Common.{◌≡◌, ℕ, ℤ, pos, neg_ℤ, ◌+ℤ◌, ◌-ℤ◌, ◌*ℤ◌, ◌<ℤ◌, ◌+◌, ◌/◌, List, [], ◌∷◌, fold, Bool, true, false, if◌then◌else◌, refl, ap, sym, ◌∙◌, arith, unsigned_abs}
use Rattle.std.specs.Prelude.{All, int_le}
use Rattle.std.specs.Int.{int_div_euclid}
use Rattle.std.proofs.lemmas.Int.{ints}
use Rattle.std.proofs.lemmas.List.Elements.{All-head, All-tail}
use Rattle.overlay_terms.specs.Plane.{WholePoint, Point, Segment, whole}
use Rattle.overlay_terms.proofs.Difference.{split, differences, same, mul_pos}
use Rattle.swept_area.specs.Swept.{parts, in_parts, run_of, rise_of, is_flat, length_of, cross_of, turn_of, along, mark_of, swept_of, Sided, signed_of}
use Rattle.swept_area.specs.SweptLaws.{IsSegment, IsOnLine, Ratio, exact_of, exact_signed, ratio_sum, slack_of, IsOnSupport, IsNear, AreaIsNear, WholeIsExact}
use Rattle.swept_area.proofs.Floors.{floor_is, floor_more}
use Rattle.swept_area.proofs.LineLemmas.{flat_length, flat_turn, rising_turn, falling_turn, length_positive}
use Rattle.swept_area.proofs.OneLine.{steep_up, steep_down}
use Rattle.swept_area.proofs.NearLemmas.{Between, rest_low, rest_high, piece_near, sum_near}

-- the coordinate by which places of a segment are marked
coordinate : Segment → Point → ℤ
coordinate s p = if is_flat s then p.x else p.y

along_by : (b : Bool) (s : Segment) (p : Point) → is_flat s ≡ b → along s p ≡ in_parts (coordinate s p) p.w
unfolding coordinate
along_by true s p e = rw e refl
along_by false s p e = rw e refl

-- what two points of a line turn by, times its width
line_turn : (l m d h px py pv rx ry rv : ℤ) → (d *ℤ (py -ℤ (m *ℤ pv))) -ℤ (h *ℤ (px -ℤ (l *ℤ pv))) ≡ pos 0 → (d *ℤ (ry -ℤ (m *ℤ rv))) -ℤ (h *ℤ (rx -ℤ (l *ℤ rv))) ≡ pos 0
    → d *ℤ ((px *ℤ ry) -ℤ (py *ℤ rx)) ≡ ((l *ℤ h) -ℤ (m *ℤ d)) *ℤ ((rx *ℤ pv) -ℤ (px *ℤ rv))
line_turn l m d h px py pv rx ry rv e f =
    regroup l m d h px py pv rx ry rv
    ∙ ap (λ z. ((px *ℤ z) -ℤ (rx *ℤ ((d *ℤ (py -ℤ (m *ℤ pv))) -ℤ (h *ℤ (px -ℤ (l *ℤ pv)))))) +ℤ (((l *ℤ h) -ℤ (m *ℤ d)) *ℤ ((rx *ℤ pv) -ℤ (px *ℤ rv)))) f
    ∙ ap (λ z. ((px *ℤ pos 0) -ℤ (rx *ℤ z)) +ℤ (((l *ℤ h) -ℤ (m *ℤ d)) *ℤ ((rx *ℤ pv) -ℤ (px *ℤ rv)))) e
    ∙ none px rx (((l *ℤ h) -ℤ (m *ℤ d)) *ℤ ((rx *ℤ pv) -ℤ (px *ℤ rv)))
  where
    regroup : (l m d h px py pv rx ry rv : ℤ) → d *ℤ ((px *ℤ ry) -ℤ (py *ℤ rx))
        ≡ ((px *ℤ ((d *ℤ (ry -ℤ (m *ℤ rv))) -ℤ (h *ℤ (rx -ℤ (l *ℤ rv))))) -ℤ (rx *ℤ ((d *ℤ (py -ℤ (m *ℤ pv))) -ℤ (h *ℤ (px -ℤ (l *ℤ pv))))))
        +ℤ (((l *ℤ h) -ℤ (m *ℤ d)) *ℤ ((rx *ℤ pv) -ℤ (px *ℤ rv)))
    regroup l m d h px py pv rx ry rv = rw (split l, split m, split d, split h, split px, split py, split pv, split rx, split ry, split rv) (simp differences (same _ _ _ _ (omega arith)))

    none : (x y z : ℤ) → ((x *ℤ pos 0) -ℤ (y *ℤ pos 0)) +ℤ z ≡ z
    none x y z = rw (split x, split y, split z) (simp differences (same _ _ _ _ (omega arith)))

-- the same by their y
line_rise : (l m d h px py pv rx ry rv : ℤ) → (d *ℤ (py -ℤ (m *ℤ pv))) -ℤ (h *ℤ (px -ℤ (l *ℤ pv))) ≡ pos 0 → (d *ℤ (ry -ℤ (m *ℤ rv))) -ℤ (h *ℤ (rx -ℤ (l *ℤ rv))) ≡ pos 0
    → h *ℤ ((px *ℤ ry) -ℤ (py *ℤ rx)) ≡ ((l *ℤ h) -ℤ (m *ℤ d)) *ℤ ((ry *ℤ pv) -ℤ (py *ℤ rv))
line_rise l m d h px py pv rx ry rv e f =
    regroup l m d h px py pv rx ry rv
    ∙ ap (λ z. ((py *ℤ z) -ℤ (ry *ℤ ((d *ℤ (py -ℤ (m *ℤ pv))) -ℤ (h *ℤ (px -ℤ (l *ℤ pv)))))) +ℤ (((l *ℤ h) -ℤ (m *ℤ d)) *ℤ ((ry *ℤ pv) -ℤ (py *ℤ rv)))) f
    ∙ ap (λ z. ((py *ℤ pos 0) -ℤ (ry *ℤ z)) +ℤ (((l *ℤ h) -ℤ (m *ℤ d)) *ℤ ((ry *ℤ pv) -ℤ (py *ℤ rv)))) e
    ∙ none py ry (((l *ℤ h) -ℤ (m *ℤ d)) *ℤ ((ry *ℤ pv) -ℤ (py *ℤ rv)))
  where
    regroup : (l m d h px py pv rx ry rv : ℤ) → h *ℤ ((px *ℤ ry) -ℤ (py *ℤ rx))
        ≡ ((py *ℤ ((d *ℤ (ry -ℤ (m *ℤ rv))) -ℤ (h *ℤ (rx -ℤ (l *ℤ rv))))) -ℤ (ry *ℤ ((d *ℤ (py -ℤ (m *ℤ pv))) -ℤ (h *ℤ (px -ℤ (l *ℤ pv))))))
        +ℤ (((l *ℤ h) -ℤ (m *ℤ d)) *ℤ ((ry *ℤ pv) -ℤ (py *ℤ rv)))
    regroup l m d h px py pv rx ry rv = rw (split l, split m, split d, split h, split px, split py, split pv, split rx, split ry, split rv) (simp differences (same _ _ _ _ (omega arith)))

    none : (x y z : ℤ) → ((x *ℤ pos 0) -ℤ (y *ℤ pos 0)) +ℤ z ≡ z
    none x y z = rw (split x, split y, split z) (simp differences (same _ _ _ _ (omega arith)))

-- a negative factor on both sides
turned_over : (h n c z : ℤ) → h *ℤ n ≡ c *ℤ z → neg_ℤ h *ℤ n ≡ neg_ℤ c *ℤ z
turned_over h n c z e = minus h n ∙ ap neg_ℤ e ∙ sym (minus c z)
  where
    minus : (a b : ℤ) → neg_ℤ a *ℤ b ≡ neg_ℤ (a *ℤ b)
    minus a b = rw (split a, split b) (simp differences (same _ _ _ _ (omega arith)))

line_by : (b c : Bool) (s : Segment) (p r : Point) → is_flat s ≡ b → int_le (pos 0) (rise_of s) ≡ c → IsOnLine s p → IsOnLine s r
    → length_of s *ℤ (exact_of p r).n ≡ turn_of s *ℤ ((coordinate s r *ℤ p.w) -ℤ (coordinate s p *ℤ r.w))
unfolding coordinate
line_by true c s p r e f hp hr =
    rw (flat_length s e, flat_turn s e, e) (line_turn s.left.x s.left.y (run_of s) (rise_of s) p.x p.y p.w r.x r.y r.w hp.level hr.level)
line_by false true s p r e f hp hr =
    rw (steep_up s e f, rising_turn s f e, e) (line_rise s.left.x s.left.y (run_of s) (rise_of s) p.x p.y p.w r.x r.y r.w hp.level hr.level)
line_by false false s p r e f hp hr =
    rw (steep_down s e f, falling_turn s f e, e)
    (turned_over (rise_of s) (exact_of p r).n (cross_of s) ((r.y *ℤ p.w) -ℤ (p.y *ℤ r.w))
    (line_rise s.left.x s.left.y (run_of s) (rise_of s) p.x p.y p.w r.x r.y r.w hp.level hr.level))

on_line : (s : Segment) (p r : Point) → IsOnLine s p → IsOnLine s r → length_of s *ℤ (exact_of p r).n ≡ turn_of s *ℤ ((coordinate s r *ℤ p.w) -ℤ (coordinate s p *ℤ r.w))
on_line s p r hp hr = line_by (is_flat s) (int_le (pos 0) (rise_of s)) s p r refl refl hp hr

-- ---- between whole places
one_part : (x : ℤ) → in_parts x (pos 1) ≡ x *ℤ pos parts
one_part x = floor_is (x *ℤ pos parts) (x *ℤ pos parts) (pos 1) (omega (arith, ints)) (omega (arith, ints, once (x *ℤ pos parts))) (omega (arith, ints, once (x *ℤ pos parts)))
  where
    once : (z : ℤ) → z *ℤ pos 1 ≡ z
    once z = rw (split z) (simp differences (same _ _ _ _ (omega arith)))

farther : (t x y l n k : ℤ) → l *ℤ n ≡ t *ℤ ((y *ℤ pos 1) -ℤ (x *ℤ pos 1)) → t *ℤ (y *ℤ k) ≡ (t *ℤ (x *ℤ k)) +ℤ ((k *ℤ n) *ℤ l)
farther t x y l n k e = regroup t x y k ∙ ap (λ (z : ℤ). (t *ℤ (x *ℤ k)) +ℤ (z *ℤ k)) (sym e) ∙ ap (λ (z : ℤ). (t *ℤ (x *ℤ k)) +ℤ z) (turn l n k)
  where
    regroup : (t x y k : ℤ) → t *ℤ (y *ℤ k) ≡ (t *ℤ (x *ℤ k)) +ℤ ((t *ℤ ((y *ℤ pos 1) -ℤ (x *ℤ pos 1))) *ℤ k)
    regroup t x y k = rw (split t, split x, split y, split k) (simp differences (same _ _ _ _ (omega arith)))

    turn : (l n k : ℤ) → (l *ℤ n) *ℤ k ≡ (k *ℤ n) *ℤ l
    turn l n k = rw (split l, split n, split k) (simp differences (same _ _ _ _ (omega arith)))

whole_mark : (s : Segment) (a : WholePoint) → mark_of s (whole a) ≡ int_div_euclid (turn_of s *ℤ (coordinate s (whole a) *ℤ pos parts)) (length_of s)
whole_mark s a =
    ap (λ (v : ℤ). int_div_euclid (turn_of s *ℤ v) (length_of s)) (along_by (is_flat s) s (whole a) refl ∙ one_part (coordinate s (whole a)))

pub whole_is_exact : WholeIsExact
whole_is_exact s a b h on_a on_b =
    let n = (a.x *ℤ b.y) -ℤ (a.y *ℤ b.x) in
    let line = on_line s (whole a) (whole b) (record { positive = omega (arith, ints); level = on_a }) (record { positive = omega (arith, ints); level = on_b }) in
    let more = ap (λ (v : ℤ). int_div_euclid v (length_of s))
    (farther (turn_of s) (coordinate s (whole a)) (coordinate s (whole b)) (length_of s) ((a.x *ℤ b.y) -ℤ (a.y *ℤ b.x)) (pos parts) line)
    ∙ floor_more (turn_of s *ℤ (coordinate s (whole a) *ℤ pos parts)) (pos parts *ℤ ((a.x *ℤ b.y) -ℤ (a.y *ℤ b.x))) (length_of s) (length_positive s h) in
    let from = whole_mark s a in
    let to = whole_mark s b in
    omega (arith, ints, more, from, to)

-- ---- one piece
abs_turned : (z : ℤ) → unsigned_abs (neg_ℤ z) ≡ unsigned_abs z
abs_turned z = omega (arith, ints)

turn_size : (b c : Bool) (s : Segment) → is_flat s ≡ b → int_le (pos 0) (rise_of s) ≡ c → unsigned_abs (turn_of s) ≡ unsigned_abs (cross_of s)
turn_size true c s e f = ap unsigned_abs (flat_turn s e)
turn_size false true s e f = ap unsigned_abs (rising_turn s f e)
turn_size false false s e f = ap unsigned_abs (falling_turn s f e) ∙ abs_turned (cross_of s)

slack_is : (s : Segment) → slack_of s ≡ unsigned_abs (turn_of s) / unsigned_abs (length_of s) + 2
slack_is s = ap (λ (n : ℕ). n / unsigned_abs (length_of s) + 2) (sym (turn_size (is_flat s) (int_le (pos 0) (rise_of s)) s refl refl))

-- what both marks leave
both_rests : (t xr xp fr fp d : ℤ) → ((t *ℤ xr) -ℤ (fr *ℤ d)) -ℤ ((t *ℤ xp) -ℤ (fp *ℤ d)) ≡ (t *ℤ (xr -ℤ xp)) -ℤ ((fr -ℤ fp) *ℤ d)
both_rests t xr xp fr fp d = rw (split t, split xr, split xp, split fr, split fp, split d) (simp differences (same _ _ _ _ (omega arith)))

one_near : (s : Segment) (p r : Point) → IsSegment s → IsOnLine s p → IsOnLine s r
    → Between (pos (slack_of s) *ℤ (p.w *ℤ r.w)) (((exact_of p r).n *ℤ pos parts) -ℤ (swept_of s p r *ℤ (p.w *ℤ r.w)))
one_near s p r h hp hr =
    let d = length_positive s h in
    let xp = along_by (is_flat s) s p refl in
    let xr = along_by (is_flat s) s r refl in
    let is = both_rests (turn_of s) (along s r) (along s p) (mark_of s r) (mark_of s p) (length_of s) in
    let rl = rest_low (turn_of s *ℤ along s r) (length_of s) d in
    let rh = rest_high (turn_of s *ℤ along s r) (length_of s) d in
    let pl = rest_low (turn_of s *ℤ along s p) (length_of s) d in
    let ph = rest_high (turn_of s *ℤ along s p) (length_of s) d in
    rw (slack_is s)
    (piece_near (turn_of s) (length_of s) (pos parts) (along s p) (along s r) (coordinate s p) p.w (coordinate s r) r.w (swept_of s p r) (exact_of p r).n
    d hp.positive hr.positive
    (rw xp (rest_low (coordinate s p *ℤ pos parts) p.w hp.positive)) (rw xp (rest_high (coordinate s p *ℤ pos parts) p.w hp.positive))
    (rw xr (rest_low (coordinate s r *ℤ pos parts) r.w hr.positive)) (rw xr (rest_high (coordinate s r *ℤ pos parts) r.w hr.positive))
    (omega (arith, ints, is, rl, rh, pl, ph)) (omega (arith, ints, is, rl, rh, pl, ph)) (on_line s p r hp hr))

-- a number between bounds that are the same
as_near : (slack : ℕ) (z : ℤ) (q : Ratio) → Between (pos slack *ℤ q.d) ((q.n *ℤ pos parts) -ℤ (z *ℤ q.d)) → IsNear slack z q
as_near slack z q h = (h.low, h.high)

as_between : (slack : ℕ) (z : ℤ) (q : Ratio) → IsNear slack z q → Between (pos slack *ℤ q.d) ((q.n *ℤ pos parts) -ℤ (z *ℤ q.d))
as_between slack z q h = record { low = h.0; high = h.1 }

signed_by : (b : Bool) (a : Sided) → IsOnSupport a → a.over ≡ b → IsNear (slack_of a.support) (signed_of a) (exact_signed a)
signed_by true a h e =
    rw e (as_near (slack_of a.support) (swept_of a.support a.from a.to) (exact_of a.from a.to) (one_near a.support a.from a.to h.first h.from h.to))
signed_by false a h e =
    rw e (as_near (slack_of a.support) (swept_of a.support a.to a.from) (exact_of a.to a.from) (one_near a.support a.to a.from h.first h.to h.from))

denominator_by : (b : Bool) (a : Sided) → IsOnSupport a → a.over ≡ b → pos 0 <ℤ (exact_signed a).d
denominator_by true a h e = rw e (mul_pos a.from.w a.to.w h.from.positive h.to.positive)
denominator_by false a h e = rw e (mul_pos a.to.w a.from.w h.to.positive h.from.positive)

-- ---- all
pos_sum : (a b : ℕ) → pos (a + b) ≡ pos a +ℤ pos b
pos_sum a b = refl

sum_is_near : (a b : ℕ) (z y : ℤ) (q r : Ratio) → pos 0 <ℤ q.d → pos 0 <ℤ r.d → IsNear a z q → IsNear b y r → IsNear (a + b) (z +ℤ y) (ratio_sum q r)
sum_is_near a b z y q r hq hr h m =
    as_near (a + b) (z +ℤ y) (ratio_sum q r)
    (rw (pos_sum a b) (sum_near (pos parts) (pos a) (pos b) z y q.n q.d r.n r.d hq hr (as_between a z q h) (as_between b y r m)))

fold_near : (pieces : List Sided) (slack : ℕ) (z : ℤ) (q : Ratio) → pos 0 <ℤ q.d → IsNear slack z q → All IsOnSupport pieces
    → IsNear (fold (λ total a. total + slack_of a.support) slack pieces) (fold (λ total a. total +ℤ signed_of a) z pieces) (fold (λ total a. ratio_sum total (exact_signed a)) q pieces)
fold_near [] slack z q d h all = h
fold_near (a ∷ pieces) slack z q d h all =
    let here = All-head IsOnSupport a pieces all in
    let own = denominator_by a.over a here refl in
    fold_near pieces (slack + slack_of a.support) (z +ℤ signed_of a) (ratio_sum q (exact_signed a)) (mul_pos q.d (exact_signed a).d d own)
    (sum_is_near slack (slack_of a.support) z (signed_of a) q (exact_signed a) d own h (signed_by a.over a here refl)) (All-tail IsOnSupport a pieces all)

pub area_is_near : AreaIsNear
area_is_near pieces all =
    fold_near pieces 0 (pos 0) (record { n = pos 0; d = pos 1 }) (omega (arith, ints)) (omega (arith, ints), omega (arith, ints)) all
