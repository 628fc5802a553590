-- The middle of two places of a line lies on it, strictly between them.
use Rattle.std.specs.Prelude.{◌≡◌, ℤ, pos, ◌+ℤ◌, ◌-ℤ◌, ◌*ℤ◌, ◌<ℤ◌}
use Rattle.std.proofs.Common.{ap, sym, ◌∙◌, arith}
use Rattle.std.proofs.lemmas.Int.{ints}
use Rattle.std.proofs.Math.IntN.{zero-*ℤ}
use Rattle.overlay_terms.specs.Plane.{Point, Segment, height_over}
use Rattle.overlay_terms.specs.Tiles.{midpoint}
use Rattle.overlay_terms.proofs.Difference.{split, whole_is, differences, same}
use Rattle.overlay_terms.proofs.InputNumbers.{twice_of, last_turned, less_times}
use Rattle.exact_point.proofs.ByX.{Left}
use Rattle.exact_point.proofs.Lines.{width, rise, base, height_form, line_form}

-- the mean of a / w and b / v, times both
mean_times : (a b w v z : ℤ) → ((a *ℤ v) +ℤ (b *ℤ w)) *ℤ z ≡ ((a *ℤ v) *ℤ z) +ℤ ((b *ℤ w) *ℤ z)
mean_times a b w v z = rw (split a, split b, split w, split v, split z) (simp differences (same _ _ _ _ (omega arith)))

-- the mean is more than the lesser
pub after_by : (a b w v : ℤ) → pos 0 <ℤ w → (a *ℤ v) <ℤ (b *ℤ w) → (a *ℤ (pos 2 *ℤ (w *ℤ v))) <ℤ (((a *ℤ v) +ℤ (b *ℤ w)) *ℤ w)
after_by a b w v positive h =
    omega (arith, ints, twice_of a w v, mean_times a b w v w, last_turned a w v, less_times (a *ℤ v) (b *ℤ w) w positive h)

-- the mean is less than the greater
pub before_by : (a b w v : ℤ) → pos 0 <ℤ v → (a *ℤ v) <ℤ (b *ℤ w) → (((a *ℤ v) +ℤ (b *ℤ w)) *ℤ v) <ℤ (b *ℤ (pos 2 *ℤ (w *ℤ v)))
before_by a b w v positive h =
    omega (arith, ints, twice_of b w v, mean_times a b w v v, last_turned b w v, less_times (a *ℤ v) (b *ℤ w) v positive h)

-- it lies right of the first
pub after_first : (p r : Point) → pos 0 <ℤ p.w → Left p r → Left p (midpoint p r)
after_first p r = after_by p.x r.x p.w r.w

-- and left of the second
pub before_second : (p r : Point) → pos 0 <ℤ r.w → Left p r → Left (midpoint p r) r
before_second p r = before_by p.x r.x p.w r.w

-- the height of the mean is the mean of the heights, times both denominators
pub height_of_mean : (d e b x y w u v q : ℤ) → (d *ℤ ((y *ℤ q) +ℤ (v *ℤ w))) -ℤ ((e *ℤ ((x *ℤ q) +ℤ (u *ℤ w))) +ℤ (b *ℤ (pos 2 *ℤ (w *ℤ q)))) ≡ (((d *ℤ y) -ℤ ((e *ℤ x) +ℤ (b *ℤ w))) *ℤ q) +ℤ (((d *ℤ v) -ℤ ((e *ℤ u) +ℤ (b *ℤ q))) *ℤ w)
height_of_mean d e b x y w u v q =
    rw (split d, split e, split b, split x, split y, split w, split u, split v, split q, whole_is 2) (simp differences (same _ _ _ _ (omega arith)))

none_of_both : (m n : ℤ) → (pos 0 *ℤ m) +ℤ (pos 0 *ℤ n) ≡ pos 0
none_of_both m n = omega (arith, ints, zero-*ℤ m, zero-*ℤ n)

-- the height over a line as a form
pub as_form : (s : Segment) (q : Point) → height_over s q ≡ (width s *ℤ q.y) -ℤ ((rise s *ℤ q.x) +ℤ (base s *ℤ q.w))
as_form s q = height_form s q ∙ ap (λ z. (width s *ℤ q.y) -ℤ z) (line_form s q)

-- on a line that holds both
pub middle_level : (s : Segment) (p r : Point) → height_over s p ≡ pos 0 → height_over s r ≡ pos 0 → height_over s (midpoint p r) ≡ pos 0
middle_level s p r h k =
    as_form s (midpoint p r)
    ∙ height_of_mean (width s) (rise s) (base s) p.x p.y p.w r.x r.y r.w
    ∙ ap (λ z. (z *ℤ r.w) +ℤ (((width s *ℤ r.y) -ℤ ((rise s *ℤ r.x) +ℤ (base s *ℤ r.w))) *ℤ p.w)) (sym (as_form s p) ∙ h)
    ∙ ap (λ z. (pos 0 *ℤ r.w) +ℤ (z *ℤ p.w)) (sym (as_form s r) ∙ k)
    ∙ none_of_both r.w p.w
