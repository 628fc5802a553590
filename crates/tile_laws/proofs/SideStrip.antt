-- In a strip of a stretch, a segment that is not vertical has an even number of four signs: it is under the line over either
-- border, and either end is under it within the strip.
use Rattle.std.specs.Prelude.{◌≡◌, ℤ, pos, ◌+ℤ◌, ◌-ℤ◌, ◌*ℤ◌, ◌<ℤ◌, ◌≤ℤ◌, int_lt, Bool, true, false, not, ◌&&◌}
use Rattle.std.proofs.Common.{ap, sym, ◌∙◌, arith}
use Rattle.std.proofs.lemmas.Int.{ints, by_lt_z}
use Rattle.std.proofs.Math.IntN.{zero-*ℤ}
use Rattle.overlay_terms.specs.Plane.{WholePoint, Point, Segment, whole, height_over}
use Rattle.exact_point.proofs.ByX.{Left, AtMost, le_not}
use Rattle.exact_point.proofs.Lines.{gap, form_moves, offset, gap_form}
use Rattle.exact_point.proofs.Signs.{negative_times, not_negative_times, one_sign}
use Rattle.exact_point.specs.Crossing.{turn_of}
use Rattle.tile_laws.proofs.JustRight.{is_over_x, is_under}
use Rattle.tile_laws.proofs.EvenRegion.{differ}

-- a whole point lies right of a place, by x
abbrev pub is_past : Point → WholePoint → Bool
is_past u e = int_lt u.x (e.x *ℤ u.w)

-- a whole point lies right of u and not right of v, and under the line of s
abbrev pub is_in_strip : Segment → Point → Point → WholePoint → Bool
is_in_strip s u v e = (is_past u e && not (is_past v e)) && int_lt (height_over s (whole e)) (pos 0)

-- t is under s just right of u, or of v, or an end of it is under s within the strip: how often, by parity
abbrev pub strip_parity : Segment → Segment → Point → Point → Bool
strip_parity s t u v =
    differ (is_over_x t u && is_under t s u) (differ (is_over_x t v && is_under t s v) (differ (is_in_strip s u v t.left) (is_in_strip s u v t.right)))

-- ---- what the tests say
past_true_by : (x a w : ℤ) → int_lt x (a *ℤ w) ≡ true → (x *ℤ pos 1) <ℤ (a *ℤ w)
past_true_by x a w h = grind (arith, ints, h)

past_false_by : (x a w : ℤ) → int_lt x (a *ℤ w) ≡ false → (a *ℤ w) ≤ℤ (x *ℤ pos 1)
past_false_by x a w h = grind (arith, ints, h)

true_past_by : (x a w : ℤ) → (x *ℤ pos 1) <ℤ (a *ℤ w) → int_lt x (a *ℤ w) ≡ true
true_past_by x a w h = grind (arith, ints, h)

-- the same of a whole point and a place
pub past_true : (u : Point) (e : WholePoint) → is_past u e ≡ true → Left u (whole e)
past_true u e = past_true_by u.x e.x u.w

pub past_false : (u : Point) (e : WholePoint) → is_past u e ≡ false → AtMost (whole e) u
past_false u e = past_false_by u.x e.x u.w

pub true_past : (u : Point) (e : WholePoint) → Left u (whole e) → is_past u e ≡ true
true_past u e = true_past_by u.x e.x u.w

-- over an x: the left end is not past it, the right end is
pub over_by_past : (t : Segment) (u : Point) → is_over_x t u ≡ (not (is_past u t.left) && is_past u t.right)
over_by_past t u = ap (λ b. b && is_past u t.right) (le_not (t.left.x *ℤ u.w) u.x)

-- the four signs, by what is past either border
pub signs_by_past : (s t : Segment) (u v : Point) → strip_parity s t u v ≡ differ ((not (is_past u t.left) && is_past u t.right) && is_under t s u) (differ ((not (is_past v t.left) && is_past v t.right) && is_under t s v) (differ (is_in_strip s u v t.left) (is_in_strip s u v t.right)))
signs_by_past s t u v =
    ap (λ b. differ (b && is_under t s u) (differ (is_over_x t v && is_under t s v) (differ (is_in_strip s u v t.left) (is_in_strip s u v t.right)))) (over_by_past t u)
    ∙ ap (λ b. differ ((not (is_past u t.left) && is_past u t.right) && is_under t s u) (differ (b && is_under t s v) (differ (is_in_strip s u v t.left) (is_in_strip s u v t.right)))) (over_by_past t v)

-- ---- signs over opaque numbers
-- the end of one segment is above the line of the other where it is under it, seen from the other
pub end_sign : (ht ws hs wt g : ℤ) → pos 0 <ℤ wt → ht ≡ pos 0 → (ht *ℤ ws) -ℤ (hs *ℤ wt) ≡ g → int_lt (pos 0) g ≡ int_lt hs (pos 0)
end_sign ht ws hs wt g wide level e =
    by_lt_z hs (pos 0)
    (λ h. under h (omega (arith, ints, e, ap (λ z. z *ℤ ws) level, zero-*ℤ ws, negative_times hs wt h wide)))
    (λ h. above h (omega (arith, ints, e, ap (λ z. z *ℤ ws) level, zero-*ℤ ws, not_negative_times hs wt h wide)))
  where
    under : hs <ℤ pos 0 → pos 0 <ℤ g → int_lt (pos 0) g ≡ int_lt hs (pos 0)
    under h k = grind (arith, ints, h, k)

    above : pos 0 ≤ℤ hs → g ≤ℤ pos 0 → int_lt (pos 0) g ≡ int_lt hs (pos 0)
    above h k = grind (arith, ints, h, k)

-- a form has one sign at two writings of one x
level_form : (a b x w y v : ℤ) → (x *ℤ v) ≡ (y *ℤ w) → ((a *ℤ y) +ℤ (b *ℤ v)) *ℤ w ≡ ((a *ℤ x) +ℤ (b *ℤ w)) *ℤ v
level_form a b x w y v e =
    form_moves a b x w y v ∙ omega (arith, ints, ap (λ z. a *ℤ z) (apart_none (y *ℤ w) (x *ℤ v) (sym e)), times_none a)
  where
    apart_none : (m n : ℤ) → m ≡ n → m -ℤ n ≡ pos 0
    apart_none m n f = omega (arith, ints)

    times_none : (z : ℤ) → z *ℤ pos 0 ≡ pos 0
    times_none z = omega (arith, ints)

-- the gap has one sign over one x
pub gap_sign : (t s : Segment) (q z : Point) → pos 0 <ℤ q.w → pos 0 <ℤ z.w → q.x *ℤ z.w ≡ z.x *ℤ q.w → int_lt (pos 0) (gap t s q) ≡ int_lt (pos 0) (gap t s z)
gap_sign t s q z hq hz e =
    ap (λ g. int_lt (pos 0) g) (gap_form t s q)
    ∙ one_sign ((turn_of t s *ℤ q.x) +ℤ (offset t s *ℤ q.w)) ((turn_of t s *ℤ z.x) +ℤ (offset t s *ℤ z.w)) q.w z.w hq hz (level_form (turn_of t s) (offset t s) q.x q.w z.x z.w e)
    ∙ ap (λ g. int_lt (pos 0) g) (sym (gap_form t s z))
