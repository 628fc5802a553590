-- Lines of segments over the x of a place: how high they are there, how far one is above another, and how that changes with x.
use Rattle.std.specs.Prelude.{◌≡◌, ℤ, pos, neg_ℤ, ◌+ℤ◌, ◌-ℤ◌, ◌*ℤ◌, ◌<ℤ◌, ◌≤ℤ◌, ◌⊎◌}
use Rattle.std.proofs.Common.{ap, sym, ◌∙◌, arith, inl, inr}
use Rattle.std.proofs.lemmas.Int.{ints, by_lt_z}
use Rattle.std.proofs.Math.IntN.{zero-*ℤ}
use Rattle.overlay_terms.specs.Plane.{Point, Segment, height_over}
use Rattle.overlay_terms.proofs.Difference.{split, whole_is, differences, same, mul_pos, diff-neg}
use Rattle.exact_point.specs.Crossing.{turn_of}
pub use Rattle.exact_point.specs.Lines.{width, rise, line_height, gap}
use Rattle.exact_point.proofs.Signs.{not_positive_times, not_negative_times, positive_factor, zero_factor}

-- the height of the line of s over x = 0, times its width
abbrev pub base : Segment → ℤ
base s = (width s *ℤ s.left.y) -ℤ (rise s *ℤ s.left.x)

-- how far s is above t over x = 0, times both widths
abbrev pub offset : Segment → Segment → ℤ
offset t s = (width t *ℤ base s) -ℤ (width s *ℤ base t)

-- ---- three lines, of widths d, e, f and heights l, m, n
-- the differences of their heights
pub forms_add : (d l e m f n : ℤ) → ((d *ℤ n) -ℤ (f *ℤ l)) *ℤ e ≡ (((d *ℤ m) -ℤ (e *ℤ l)) *ℤ f) +ℤ (((e *ℤ n) -ℤ (f *ℤ m)) *ℤ d)
forms_add d l e m f n = rw (split d, split l, split e, split m, split f, split n) (simp differences (same _ _ _ _ (omega arith)))

-- how far they turn
pub turns_add : (d l e m f n : ℤ) → ((d *ℤ n) -ℤ (l *ℤ f)) *ℤ e ≡ (((d *ℤ m) -ℤ (l *ℤ e)) *ℤ f) +ℤ (((e *ℤ n) -ℤ (m *ℤ f)) *ℤ d)
turns_add d l e m f n = rw (split d, split l, split e, split m, split f, split n) (simp differences (same _ _ _ _ (omega arith)))

-- a turn, the other way round
pub turn_back : (d l f n : ℤ) → ((d *ℤ n) -ℤ (l *ℤ f)) +ℤ ((f *ℤ l) -ℤ (n *ℤ d)) ≡ pos 0
turn_back d l f n = rw (split d, split l, split f, split n, whole_is 0) (simp differences (same _ _ _ _ (omega arith)))

-- ---- forms a * x + b * w at a place with the x x / w
-- a form at two places
pub form_moves : (a b x w y v : ℤ) → ((a *ℤ y) +ℤ (b *ℤ v)) *ℤ w ≡ (((a *ℤ x) +ℤ (b *ℤ w)) *ℤ v) +ℤ (a *ℤ ((y *ℤ w) -ℤ (x *ℤ v)))
form_moves a b x w y v = rw (split a, split b, split x, split w, split y, split v) (simp differences (same _ _ _ _ (omega arith)))

-- a form without slope that is 0 at one place is 0 at each
pub flat_form : (a b x w y v : ℤ) → pos 0 <ℤ w → a ≡ pos 0 → ((a *ℤ x) +ℤ (b *ℤ w)) ≡ pos 0 → ((a *ℤ y) +ℤ (b *ℤ v)) ≡ pos 0
flat_form a b x w y v hw none zero =
    zero_factor ((a *ℤ y) +ℤ (b *ℤ v)) w hw
    (form_moves a b x w y v ∙ omega (arith, ints, ap (λ z. z *ℤ v) zero, zero-*ℤ v, ap (λ z. z *ℤ ((y *ℤ w) -ℤ (x *ℤ v))) none, zero-*ℤ ((y *ℤ w) -ℤ (x *ℤ v))))

-- a form that is 0 at two places has no slope
pub no_slope : (a b x w y v : ℤ) → pos 0 <ℤ ((y *ℤ w) -ℤ (x *ℤ v)) → ((a *ℤ x) +ℤ (b *ℤ w)) ≡ pos 0 → ((a *ℤ y) +ℤ (b *ℤ v)) ≡ pos 0 → a ≡ pos 0
no_slope a b x w y v later zero there =
    zero_factor a ((y *ℤ w) -ℤ (x *ℤ v)) later
    (omega (arith, ints, form_moves a b x w y v, ap (λ z. z *ℤ v) zero, zero-*ℤ v, ap (λ z. z *ℤ w) there, zero-*ℤ w))

-- the order of two lines just right of a place: g is the form there, a its slope
abbrev pub Under : ℤ → ℤ → Type 0
Under g a = (pos 0 <ℤ g) ⊎ ((g ≡ pos 0) × (pos 0 <ℤ a))

-- a form that is above 0 and later not above 0 falls
pub falls : (a b x w y v : ℤ) → pos 0 <ℤ w → pos 0 <ℤ v → pos 0 <ℤ ((y *ℤ w) -ℤ (x *ℤ v))
    → pos 0 <ℤ ((a *ℤ x) +ℤ (b *ℤ w)) → ((a *ℤ y) +ℤ (b *ℤ v)) ≤ℤ pos 0 → a <ℤ pos 0
falls a b x w y v hw hv later high low =
    by_lt_z a (pos 0) (λ h. h)
    (λ h. absurd (omega (
      arith,
      ints,
      form_moves a b x w y v,
      mul_pos ((a *ℤ x) +ℤ (b *ℤ w)) v high hv,
      not_positive_times ((a *ℤ y) +ℤ (b *ℤ v)) w low hw,
      not_negative_times a ((y *ℤ w) -ℤ (x *ℤ v)) h later,
    )))

-- a form that is 0 and rises is above 0 later
rises : (a b x w y v : ℤ) → pos 0 <ℤ w → pos 0 <ℤ v → pos 0 <ℤ ((y *ℤ w) -ℤ (x *ℤ v)) → ((a *ℤ x) +ℤ (b *ℤ w)) ≡ pos 0 → pos 0 <ℤ a → pos 0 <ℤ ((a *ℤ y) +ℤ (b *ℤ v))
rises a b x w y v hw hv later zero up =
    positive_factor ((a *ℤ y) +ℤ (b *ℤ v)) w hw (omega (
      arith,
      ints,
      form_moves a b x w y v,
      ap (λ z. z *ℤ v) zero,
      zero-*ℤ v,
      mul_pos a ((y *ℤ w) -ℤ (x *ℤ v)) up later,
    ))

-- a form above 0 just right of a place is above 0 later, where it has no zero in between
pub kept : (a b x w y v : ℤ) → pos 0 <ℤ w → pos 0 <ℤ v → pos 0 <ℤ ((y *ℤ w) -ℤ (x *ℤ v))
    → (pos 0 <ℤ ((a *ℤ x) +ℤ (b *ℤ w)) → ((a *ℤ y) +ℤ (b *ℤ v)) ≤ℤ pos 0 → ⊥)
    → Under ((a *ℤ x) +ℤ (b *ℤ w)) a → pos 0 <ℤ ((a *ℤ y) +ℤ (b *ℤ v))
kept a b x w y v hw hv later apart (inl h) =
    by_lt_z (pos 0) ((a *ℤ y) +ℤ (b *ℤ v)) (λ k. k) (λ k. absurd (apart h k))
kept a b x w y v hw hv later apart (inr (z, k)) = rises a b x w y v hw hv later z k

-- the negative of a factor
times_negated : (x a : ℤ) → x *ℤ neg_ℤ a ≡ neg_ℤ (a *ℤ x)
times_negated x a = rw (split x, split a) (simp (diff-neg, differences) (same _ _ _ _ (omega arith)))

-- the zero of a form that falls lies at b over - a
pub zero_is : (a b : ℤ) → (a *ℤ b) +ℤ (b *ℤ neg_ℤ a) ≡ pos 0
zero_is a b = omega (arith, ints, times_negated b a)

-- after a place where the form is above 0
pub zero_after : (a b x w : ℤ) → pos 0 <ℤ ((a *ℤ x) +ℤ (b *ℤ w)) → (x *ℤ neg_ℤ a) <ℤ (b *ℤ w)
zero_after a b x w h = omega (arith, ints, times_negated x a, h)

-- and not after a place where it is not above 0
pub zero_not_after : (a b y v : ℤ) → ((a *ℤ y) +ℤ (b *ℤ v)) ≤ℤ pos 0 → (b *ℤ v) ≤ℤ (y *ℤ neg_ℤ a)
zero_not_after a b y v h = omega (arith, ints, times_negated y a, h)

-- ---- the height of a line
-- its parts
line_parts : (d e l m x w : ℤ) → (e *ℤ (x -ℤ (l *ℤ w))) +ℤ (d *ℤ (m *ℤ w)) ≡ (e *ℤ x) +ℤ (((d *ℤ m) -ℤ (e *ℤ l)) *ℤ w)
line_parts d e l m x w = rw (split d, split e, split l, split m, split x, split w) (simp differences (same _ _ _ _ (omega arith)))

-- the height of a line as a form
pub line_form : (s : Segment) (q : Point) → line_height s q ≡ (rise s *ℤ q.x) +ℤ (base s *ℤ q.w)
line_form s q = line_parts (width s) (rise s) s.left.x s.left.y q.x q.w

-- the parts of the height over a line
height_parts : (d e l m x y w : ℤ) → (d *ℤ (y -ℤ (m *ℤ w))) -ℤ (e *ℤ (x -ℤ (l *ℤ w))) ≡ (d *ℤ y) -ℤ ((e *ℤ (x -ℤ (l *ℤ w))) +ℤ (d *ℤ (m *ℤ w)))
height_parts d e l m x y w =
    rw (split d, split e, split l, split m, split x, split y, split w) (simp differences (same _ _ _ _ (omega arith)))

-- the height over a line is what is above the line's height
pub height_form : (s : Segment) (p : Point) → height_over s p ≡ (width s *ℤ p.y) -ℤ line_height s p
height_form s p = height_parts (width s) (rise s) s.left.x s.left.y p.x p.y p.w

-- ---- the gap between two lines
-- its parts
gap_parts : (d c e a f b x w : ℤ) → (d *ℤ ((e *ℤ x) +ℤ (f *ℤ w))) -ℤ (c *ℤ ((a *ℤ x) +ℤ (b *ℤ w))) ≡ (((d *ℤ e) -ℤ (a *ℤ c)) *ℤ x) +ℤ (((d *ℤ f) -ℤ (c *ℤ b)) *ℤ w)
gap_parts d c e a f b x w =
    rw (split d, split c, split e, split a, split f, split b, split x, split w) (simp differences (same _ _ _ _ (omega arith)))

-- the gap as a form
pub gap_form : (t s : Segment) (q : Point) → gap t s q ≡ (turn_of t s *ℤ q.x) +ℤ (offset t s *ℤ q.w)
gap_form t s q =
    ap (λ z. (width t *ℤ z) -ℤ (width s *ℤ line_height t q)) (line_form s q)
    ∙ ap (λ z. (width t *ℤ ((rise s *ℤ q.x) +ℤ (base s *ℤ q.w))) -ℤ (width s *ℤ z)) (line_form t q)
    ∙ gap_parts (width t) (width s) (rise s) (rise t) (base s) (base t) q.x q.w

-- lines that do not turn from one another have a gap over each x or over none
pub flat_gap : (t s : Segment) (q z : Point) → pos 0 <ℤ q.w → turn_of t s ≡ pos 0 → gap t s q ≡ pos 0 → gap t s z ≡ pos 0
flat_gap t s q z positive none zero =
    gap_form t s z ∙ flat_form (turn_of t s) (offset t s) q.x q.w z.x z.w positive none (sym (gap_form t s q) ∙ zero)

-- lines without a gap over two x do not turn from one another
pub no_turn_from_gaps : (t s : Segment) (q z : Point) → pos 0 <ℤ ((z.x *ℤ q.w) -ℤ (q.x *ℤ z.w)) → gap t s q ≡ pos 0 → gap t s z ≡ pos 0 → turn_of t s ≡ pos 0
no_turn_from_gaps t s q z later zero there =
    no_slope (turn_of t s) (offset t s) q.x q.w z.x z.w later (sym (gap_form t s q) ∙ zero) (sym (gap_form t s z) ∙ there)

-- the heights m, n of two lines over a point's x, their widths d, e, and the point's height y
sides_give_form : (d m e n y : ℤ) → (((d *ℤ y) -ℤ m) *ℤ e) -ℤ (((e *ℤ y) -ℤ n) *ℤ d) ≡ (d *ℤ n) -ℤ (e *ℤ m)
sides_give_form d m e n y = rw (split d, split m, split e, split n, split y) (simp differences (same _ _ _ _ (omega arith)))

-- the heights of a place over two lines give the gap between them
pub heights_give_gap : (t s : Segment) (p : Point) → (height_over t p *ℤ width s) -ℤ (height_over s p *ℤ width t) ≡ gap t s p
heights_give_gap t s p =
    ap (λ z. (z *ℤ width s) -ℤ (height_over s p *ℤ width t)) (height_form t p)
    ∙ ap (λ z. (((width t *ℤ p.y) -ℤ line_height t p) *ℤ width s) -ℤ (z *ℤ width t)) (height_form s p)
    ∙ sides_give_form (width t) (line_height t p) (width s) (line_height s p) p.y

-- over a place on both lines is no gap
pub gap_at : (t s : Segment) (p : Point) → height_over t p ≡ pos 0 → height_over s p ≡ pos 0 → gap t s p ≡ pos 0
gap_at t s p on_t on_s =
    sym (heights_give_gap t s p) ∙ omega (arith, ints, ap (λ z. z *ℤ width s) on_t, zero-*ℤ (width s), ap (λ z. z *ℤ width t) on_s, zero-*ℤ (width t))

-- a place on the line of the first where there is no gap is on the line of the second
pub on_second : (t s : Segment) (p : Point) → pos 0 <ℤ width t → height_over t p ≡ pos 0 → gap t s p ≡ pos 0 → height_over s p ≡ pos 0
on_second t s p wide on_t none =
    zero_factor (height_over s p) (width t) wide (omega (arith, ints, heights_give_gap t s p, none, ap (λ z. z *ℤ width s) on_t, zero-*ℤ (width s)))

-- a place on the line of the second where there is no gap is on the line of the first
pub on_first : (t s : Segment) (p : Point) → pos 0 <ℤ width s → height_over s p ≡ pos 0 → gap t s p ≡ pos 0 → height_over t p ≡ pos 0
on_first t s p wide on_s none =
    zero_factor (height_over t p) (width s) wide (omega (arith, ints, heights_give_gap t s p, none, ap (λ z. z *ℤ width t) on_s, zero-*ℤ (width t)))

-- ---- the place of a line over an x
-- the point of the line of s over x / w
abbrev pub place_over : Segment → ℤ → ℤ → Point
place_over s x w = record { x = x *ℤ width s; y = (rise s *ℤ x) +ℤ (base s *ℤ w); w = w *ℤ width s }

-- the parts of its height over the line
over_parts : (d e b x w : ℤ) → (d *ℤ ((e *ℤ x) +ℤ (b *ℤ w))) -ℤ ((e *ℤ (x *ℤ d)) +ℤ (b *ℤ (w *ℤ d))) ≡ pos 0
over_parts d e b x w = rw (split d, split e, split b, split x, split w, whole_is 0) (simp differences (same _ _ _ _ (omega arith)))

-- it is on the line
pub over_on_line : (s : Segment) (x w : ℤ) → height_over s (place_over s x w) ≡ pos 0
over_on_line s x w =
    height_form s (place_over s x w)
    ∙ ap (λ z. (width s *ℤ (place_over s x w).y) -ℤ z) (line_form s (place_over s x w))
    ∙ over_parts (width s) (rise s) (base s) x w

-- a form at a place with a common factor
scaled_parts : (a b x w d : ℤ) → (a *ℤ (x *ℤ d)) +ℤ (b *ℤ (w *ℤ d)) ≡ ((a *ℤ x) +ℤ (b *ℤ w)) *ℤ d
scaled_parts a b x w d = rw (split a, split b, split x, split w, split d) (simp differences (same _ _ _ _ (omega arith)))

-- over a zero of the gap it leaves no gap
pub over_no_gap : (t s : Segment) (x w : ℤ) → (turn_of t s *ℤ x) +ℤ (offset t s *ℤ w) ≡ pos 0 → gap t s (place_over s x w) ≡ pos 0
over_no_gap t s x w h =
    gap_form t s (place_over s x w) ∙ scaled_parts (turn_of t s) (offset t s) x w (width s) ∙ ap (λ z. z *ℤ width s) h ∙ zero-*ℤ (width s)
