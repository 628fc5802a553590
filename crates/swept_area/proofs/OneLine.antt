-- Segments of one line have one mark of a place.
use Rattle.std.proofs.Common.{◌≡◌, ◌⊎◌, ℕ, ℤ, pos, neg_ℤ, ◌-ℤ◌, ◌+ℤ◌, ◌*ℤ◌, ◌<ℤ◌, ◌≤ℤ◌, ◌+◌, ◌*◌, ◌<◌, ◌≤◌, Bool, true, false, inl, inr, unsigned_abs, refl, sym, ap, ◌∙◌, arith}
use Rattle.std.specs.Prelude.{int_le}
use Rattle.std.specs.Ordering.{int_eq}
use Rattle.std.specs.Int.{int_div_euclid}
use Rattle.std.proofs.lemmas.Int.{ints, by_lt_z, unsigned_abs-mul}
use Rattle.std.proofs.lemmas.Bool.{and_parts, cases_lt}
use Rattle.std.proofs.lemmas.Bool.Decides.{Decides-int_eq}
use Rattle.std.proofs.lemmas.Nat.{mul-le}
use Rattle.overlay_terms.specs.Plane.{Point, Segment}
use Rattle.overlay_terms.proofs.Difference.{split, differences, same, mul_pos, mul_mono}
use Rattle.overlay_terms.proofs.Ratios.{mul_less}
use Rattle.overlay_terms.proofs.InputNumbers.{le_true, true_le}
use Rattle.exact_point.proofs.Lexical.{Forward}
use Rattle.exact_point.proofs.OnSegment.{leads}
use Rattle.swept_area.specs.Swept.{parts, in_parts, run_of, rise_of, is_flat, length_of, cross_of, turn_of, along}
use Rattle.swept_area.specs.SweptLaws.{MarkIsOfLine}
use Rattle.swept_area.proofs.Floors.{floor_same}
use Rattle.swept_area.proofs.LineLemmas.{flat_length, steep_length, flat_turn, rising_turn, falling_turn, length_positive}

-- ---- what one line gives
parallel_ways : (d h lx ly mx my nx ny : ℤ) → (d *ℤ (my -ℤ (ly *ℤ pos 1))) -ℤ (h *ℤ (mx -ℤ (lx *ℤ pos 1))) ≡ pos 0 → (d *ℤ (ny -ℤ (ly *ℤ pos 1))) -ℤ (h *ℤ (nx -ℤ (lx *ℤ pos 1))) ≡ pos 0
    → (d *ℤ (ny -ℤ my)) -ℤ (h *ℤ (nx -ℤ mx)) ≡ pos 0
parallel_ways d h lx ly mx my nx ny e f =
    let is = regroup d h lx ly mx my nx ny in
    omega (arith, ints, e, f, is)
  where
    regroup : (d h lx ly mx my nx ny : ℤ) → (d *ℤ (ny -ℤ my)) -ℤ (h *ℤ (nx -ℤ mx))
        ≡ ((d *ℤ (ny -ℤ (ly *ℤ pos 1))) -ℤ (h *ℤ (nx -ℤ (lx *ℤ pos 1)))) -ℤ ((d *ℤ (my -ℤ (ly *ℤ pos 1))) -ℤ (h *ℤ (mx -ℤ (lx *ℤ pos 1))))
    regroup d h lx ly mx my nx ny = rw (split d, split h, split lx, split ly, split mx, split my, split nx, split ny) (simp differences (same _ _ _ _ (omega arith)))

nothing_more : (a e m : ℤ) → (a +ℤ (e *ℤ pos 0)) -ℤ (m *ℤ pos 0) ≡ a
nothing_more a e m = rw (split a, split e, split m) (simp differences (same _ _ _ _ (omega arith)))

cross_by_run : (lx ly d h mx my e g : ℤ) → (d *ℤ (my -ℤ (ly *ℤ pos 1))) -ℤ (h *ℤ (mx -ℤ (lx *ℤ pos 1))) ≡ pos 0 → (d *ℤ g) -ℤ (h *ℤ e) ≡ pos 0
    → ((lx *ℤ h) -ℤ (ly *ℤ d)) *ℤ e ≡ ((mx *ℤ g) -ℤ (my *ℤ e)) *ℤ d
cross_by_run lx ly d h mx my e g on par =
    regroup lx ly d h mx my e g
    ∙ ap (λ z. ((((mx *ℤ g) -ℤ (my *ℤ e)) *ℤ d) +ℤ (e *ℤ z)) -ℤ (mx *ℤ ((d *ℤ g) -ℤ (h *ℤ e)))) on
    ∙ ap (λ z. ((((mx *ℤ g) -ℤ (my *ℤ e)) *ℤ d) +ℤ (e *ℤ pos 0)) -ℤ (mx *ℤ z)) par
    ∙ nothing_more (((mx *ℤ g) -ℤ (my *ℤ e)) *ℤ d) e mx
  where
    regroup : (lx ly d h mx my e g : ℤ) → ((lx *ℤ h) -ℤ (ly *ℤ d)) *ℤ e
        ≡ ((((mx *ℤ g) -ℤ (my *ℤ e)) *ℤ d) +ℤ (e *ℤ ((d *ℤ (my -ℤ (ly *ℤ pos 1))) -ℤ (h *ℤ (mx -ℤ (lx *ℤ pos 1)))))) -ℤ (mx *ℤ ((d *ℤ g) -ℤ (h *ℤ e)))
    regroup lx ly d h mx my e g = rw (split lx, split ly, split d, split h, split mx, split my, split e, split g) (simp differences (same _ _ _ _ (omega arith)))

cross_by_rise : (lx ly d h mx my e g : ℤ) → (d *ℤ (my -ℤ (ly *ℤ pos 1))) -ℤ (h *ℤ (mx -ℤ (lx *ℤ pos 1))) ≡ pos 0 → (d *ℤ g) -ℤ (h *ℤ e) ≡ pos 0
    → ((lx *ℤ h) -ℤ (ly *ℤ d)) *ℤ g ≡ ((mx *ℤ g) -ℤ (my *ℤ e)) *ℤ h
cross_by_rise lx ly d h mx my e g on par =
    regroup lx ly d h mx my e g
    ∙ ap (λ z. ((((mx *ℤ g) -ℤ (my *ℤ e)) *ℤ h) +ℤ (g *ℤ z)) -ℤ (my *ℤ ((d *ℤ g) -ℤ (h *ℤ e)))) on
    ∙ ap (λ z. ((((mx *ℤ g) -ℤ (my *ℤ e)) *ℤ h) +ℤ (g *ℤ pos 0)) -ℤ (my *ℤ z)) par
    ∙ nothing_more (((mx *ℤ g) -ℤ (my *ℤ e)) *ℤ h) g my
  where
    regroup : (lx ly d h mx my e g : ℤ) → ((lx *ℤ h) -ℤ (ly *ℤ d)) *ℤ g
        ≡ ((((mx *ℤ g) -ℤ (my *ℤ e)) *ℤ h) +ℤ (g *ℤ ((d *ℤ (my -ℤ (ly *ℤ pos 1))) -ℤ (h *ℤ (mx -ℤ (lx *ℤ pos 1)))))) -ℤ (my *ℤ ((d *ℤ g) -ℤ (h *ℤ e)))
    regroup lx ly d h mx my e g = rw (split lx, split ly, split d, split h, split mx, split my, split e, split g) (simp differences (same _ _ _ _ (omega arith)))

-- ---- both are flat, or neither
flat_by : (a b c d : ℕ) → a * d ≡ b * c → 0 < a + b → b ≤ a → d ≤ c
flat_by a b c d e some h = by (cases_lt c d)
  where
    by : (c < d) ⊎ (d ≤ c) → d ≤ c
    by (inr k) = k
    by (inl k) =
        let more : a * (c + 1) ≤ a * d = mul-le a (c + 1) a d (omega arith) (omega (arith, k)) in
        let less : b * c ≤ a * c = mul-le b c a c h (omega arith) in
        absurd (omega (arith, more, less, e, some, h))

some_way : (d h : ℤ) → Forward d h → 0 < unsigned_abs d + unsigned_abs h
some_way d h (inl k) = omega (arith, ints, k)
some_way d h (inr k) = omega (arith, ints, k.1)

not_left : (d h : ℤ) → Forward d h → pos (unsigned_abs d) ≡ d
not_left d h (inl k) = omega (arith, ints, k)
not_left d h (inr k) = omega (arith, ints, k.0)

abs_same : (d g h e : ℤ) → d *ℤ g ≡ h *ℤ e → unsigned_abs d * unsigned_abs g ≡ unsigned_abs h * unsigned_abs e
abs_same d g h e same_product = sym (unsigned_abs-mul d g) ∙ ap unsigned_abs same_product ∙ unsigned_abs-mul h e

flat_goes : (d h e g : ℤ) → Forward d h → Forward e g → d *ℤ g ≡ h *ℤ e → pos (unsigned_abs h) ≤ℤ d → pos (unsigned_abs g) ≤ℤ e
flat_goes d h e g f k p l =
    let here = not_left d h f in
    let there = not_left e g k in
    let abs : unsigned_abs g ≤ unsigned_abs e =
    flat_by (unsigned_abs d) (unsigned_abs h) (unsigned_abs e) (unsigned_abs g) (abs_same d g h e p) (some_way d h f) (omega (arith, ints, here, l)) in
    omega (arith, ints, abs, there)

turned_round : (a b : ℤ) → a *ℤ b ≡ b *ℤ a
turned_round a b = rw (split a, split b) (simp differences (same _ _ _ _ (omega arith)))

both_or_neither : (x y : Bool) → (x ≡ true → y ≡ true) → (y ≡ true → x ≡ true) → x ≡ y
both_or_neither true y f g = sym (f refl)
both_or_neither false true f g = g refl
both_or_neither false false f g = refl

back : (d h e g : ℤ) → d *ℤ g ≡ h *ℤ e → e *ℤ h ≡ g *ℤ d
back d h e g p = turned_round e h ∙ sym p ∙ turned_round d g

pub flat_same : (d h e g : ℤ) → Forward d h → Forward e g → d *ℤ g ≡ h *ℤ e → int_le (pos (unsigned_abs h)) d ≡ int_le (pos (unsigned_abs g)) e
flat_same d h e g f k p =
    both_or_neither (int_le (pos (unsigned_abs h)) d) (int_le (pos (unsigned_abs g)) e)
    (λ t. true_le (pos (unsigned_abs g)) e (flat_goes d h e g f k p (le_true (pos (unsigned_abs h)) d t)))
    (λ t. true_le (pos (unsigned_abs h)) d (flat_goes e g d h k f (back d h e g p) (le_true (pos (unsigned_abs g)) e t)))

-- ---- both rise, or neither
no_times : (a : ℤ) → a *ℤ pos 0 ≡ pos 0
no_times a = rw (split a) (simp differences (same _ _ _ _ (omega arith)))

times_no : (a : ℤ) → pos 0 *ℤ a ≡ pos 0
times_no a = rw (split a) (simp differences (same _ _ _ _ (omega arith)))

rise_goes : (d h e g : ℤ) → Forward d h → Forward e g → d *ℤ g ≡ h *ℤ e → pos 0 ≤ℤ h → pos 0 ≤ℤ g
rise_goes d h e g f (inr k) p l = omega (arith, ints, k.1)
rise_goes d h e g (inl f) (inl k) p l =
    by_lt_z g (pos 0)
    (λ m. let less = mul_less d g (pos 0) f m in
    let more = mul_mono (pos 0) h e (omega (arith, ints, k)) l in
    absurd (omega (arith, ints, less, more, no_times d, times_no e, p)))
    (λ m. m)
rise_goes d h e g (inr f) (inl k) p l =
    let some = mul_pos h e f.1 k in
    let none : d *ℤ g ≡ pos 0 = ap (λ (z : ℤ). z *ℤ g) f.0 ∙ times_no g in
    absurd (omega (arith, ints, some, none, p))

pub rise_same : (d h e g : ℤ) → Forward d h → Forward e g → d *ℤ g ≡ h *ℤ e → int_le (pos 0) h ≡ int_le (pos 0) g
rise_same d h e g f k p =
    both_or_neither (int_le (pos 0) h) (int_le (pos 0) g)
    (λ t. true_le (pos 0) g (rise_goes d h e g f k p (le_true (pos 0) h t)))
    (λ t. true_le (pos 0) h (rise_goes e g d h k f (back d h e g p) (le_true (pos 0) g t)))

-- ---- turn by length is of the line
pub steep_up : (s : Segment) → is_flat s ≡ false → int_le (pos 0) (rise_of s) ≡ true → length_of s ≡ rise_of s
steep_up s e f = let up = le_true (pos 0) (rise_of s) f in steep_length s e ∙ omega (arith, ints, up)

pub steep_down : (s : Segment) → is_flat s ≡ false → int_le (pos 0) (rise_of s) ≡ false → length_of s ≡ neg_ℤ (rise_of s)
steep_down s e f = let down : rise_of s <ℤ pos 0 = grind (arith, ints) in steep_length s e ∙ omega (arith, ints, down)

both_turned : (a b : ℤ) → neg_ℤ a *ℤ neg_ℤ b ≡ a *ℤ b
both_turned a b = rw (split a, split b) (simp differences (same _ _ _ _ (omega arith)))

share_by : (b c : Bool) (s t : Segment) → is_flat s ≡ b → is_flat t ≡ b → int_le (pos 0) (rise_of s) ≡ c → int_le (pos 0) (rise_of t) ≡ c
    → cross_of s *ℤ run_of t ≡ cross_of t *ℤ run_of s → cross_of s *ℤ rise_of t ≡ cross_of t *ℤ rise_of s
    → turn_of s *ℤ length_of t ≡ turn_of t *ℤ length_of s
share_by true c s t fs ft rs rt by_run by_rise =
    rw (flat_turn s fs, flat_turn t ft, flat_length s fs, flat_length t ft) by_run
share_by false true s t fs ft rs rt by_run by_rise =
    rw (rising_turn s rs fs, rising_turn t rt ft, steep_up s fs rs, steep_up t ft rt) by_rise
share_by false false s t fs ft rs rt by_run by_rise =
    rw (falling_turn s rs fs, falling_turn t rt ft, steep_down s fs rs, steep_down t ft rt)
    (both_turned (cross_of s) (rise_of t) ∙ by_rise ∙ sym (both_turned (cross_of t) (rise_of s)))

along_by : (b : Bool) (s t : Segment) (p q : Point) → is_flat s ≡ b → is_flat t ≡ b → in_parts p.x p.w ≡ in_parts q.x q.w → in_parts p.y p.w ≡ in_parts q.y q.w
    → along s p ≡ along t q
along_by true s t p q fs ft ex ey = rw (fs, ft) ex
along_by false s t p q fs ft ex ey = rw (fs, ft) ey

-- ---- one place in parts
scaled : (a w k : ℤ) → (a *ℤ k) *ℤ w ≡ (a *ℤ w) *ℤ k
scaled a w k = rw (split a, split w, split k) (simp differences (same _ _ _ _ (omega arith)))

parts_same : (a w b v : ℤ) → pos 0 <ℤ w → pos 0 <ℤ v → a *ℤ v ≡ b *ℤ w → in_parts a w ≡ in_parts b v
parts_same a w b v h k e =
    floor_same (a *ℤ pos parts) w (b *ℤ pos parts) v h k
    (scaled a v (pos parts) ∙ ap (λ (z : ℤ). z *ℤ pos parts) e ∙ sym (scaled b w (pos parts)))

-- ---- the mark
shared : (t v l u m : ℤ) → t *ℤ m ≡ u *ℤ l → (t *ℤ v) *ℤ m ≡ (u *ℤ v) *ℤ l
shared t v l u m e = scaled t m v ∙ ap (λ (z : ℤ). z *ℤ v) e ∙ sym (scaled u l v)

one_mark : (s t : Segment) (v w : ℤ) → v ≡ w → pos 0 <ℤ length_of s → pos 0 <ℤ length_of t → turn_of s *ℤ length_of t ≡ turn_of t *ℤ length_of s
    → int_div_euclid (turn_of s *ℤ v) (length_of s) ≡ int_div_euclid (turn_of t *ℤ w) (length_of t)
one_mark s t v w e h k share =
    ap (λ (z : ℤ). int_div_euclid (turn_of s *ℤ z) (length_of s)) e
    ∙ floor_same (turn_of s *ℤ w) (length_of s) (turn_of t *ℤ w) (length_of t) h k (shared (turn_of s) w (length_of s) (turn_of t) (length_of t) share)

pub is_of_line : MarkIsOfLine
is_of_line s t p q h pw qw place =
    let here = leads s h.one in
    let there = leads t h.other in
    let none = parallel_ways (run_of s) (rise_of s) s.left.x s.left.y t.left.x t.left.y t.right.x t.right.y h.left h.right in
    let par : run_of s *ℤ rise_of t ≡ rise_of s *ℤ run_of t = omega (arith, ints, none) in
    let by_run = cross_by_run s.left.x s.left.y (run_of s) (rise_of s) t.left.x t.left.y (run_of t) (rise_of t) h.left none in
    let by_rise = cross_by_rise s.left.x s.left.y (run_of s) (rise_of s) t.left.x t.left.y (run_of t) (rise_of t) h.left none in
    let flat = flat_same (run_of s) (rise_of s) (run_of t) (rise_of t) here there par in
    let rising = rise_same (run_of s) (rise_of s) (run_of t) (rise_of t) here there par in
    let share = share_by (is_flat s) (int_le (pos 0) (rise_of s)) s t refl (sym flat) refl (sym rising) by_run by_rise in
    let parts_of = and_parts (int_eq (p.x *ℤ q.w) (q.x *ℤ p.w)) (int_eq (p.y *ℤ q.w) (q.y *ℤ p.w)) place in
    let ex = parts_same p.x p.w q.x q.w pw qw ((Decides-int_eq (p.x *ℤ q.w) (q.x *ℤ p.w)).0 parts_of.0) in
    let ey = parts_same p.y p.w q.y q.w pw qw ((Decides-int_eq (p.y *ℤ q.w) (q.y *ℤ p.w)).0 parts_of.1) in
    one_mark s t (along s p) (along t q) (along_by (is_flat s) s t p q refl (sym flat) ex ey) (length_positive s h.one) (length_positive t h.other) share
