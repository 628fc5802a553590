-- A place on a proper segment has a y within the coordinates.
use Rattle.std.proofs.Common.{◌≡◌, ℤ, pos, ◌+ℤ◌, ◌-ℤ◌, ◌*ℤ◌, ◌<ℤ◌, ◌≤ℤ◌, neg_ℤ, inl, inr, ap, arith}
use Rattle.std.specs.Prelude.{IsTrue}
use Rattle.std.proofs.lemmas.Int.{ints}
use Rattle.overlay_terms.specs.Plane.{Point, Segment, is_on, coordinate_max}
use Rattle.overlay_terms.specs.TileLaws.{IsProper}
use Rattle.overlay_terms.proofs.Difference.{split, differences, same}
use Rattle.overlay_terms.proofs.InputNumbers.{most_back, most_times}
use Rattle.overlay_terms.proofs.Whole.{last_out}
use Rattle.exact_point.proofs.Lexical.{Forward, NotBack}
use Rattle.exact_point.proofs.Lines.{width, rise}
use Rattle.exact_point.proofs.CrossingLemmas.{mean_low, mean_high}
use Rattle.exact_point.proofs.OnSegment.{IsReached, reached, leads}

-- the y of a place is from one bound to another, times its denominator
pub record HasYFrom (m o : ℤ) (p : Point) : Type 0 where
  pub low : (m *ℤ p.w) ≤ℤ p.y
  pub high : p.y ≤ℤ (o *ℤ p.w)

-- ---- over opaque numbers: a segment from (l, m) to (r, n), the place (x, y) over w
opened : (d m e k y w : ℤ) → ((m *ℤ (d *ℤ w)) +ℤ (e *ℤ k)) +ℤ ((d *ℤ (y -ℤ (m *ℤ w))) -ℤ (e *ℤ k)) ≡ y *ℤ d
opened d m e k y w = rw (split d, split m, split e, split k, split y, split w) (simp differences (same _ _ _ _ (omega arith)))

-- the y of a place on a slanted line, as a mean of the ends' y
mean_y : (d m e k y w : ℤ) → (d *ℤ (y -ℤ (m *ℤ w))) -ℤ (e *ℤ k) ≡ pos 0 → (m *ℤ (d *ℤ w)) +ℤ (e *ℤ k) ≡ y *ℤ d
mean_y d m e k y w level = omega (arith, ints, level, opened d m e k y w)

not_back : (x y : ℤ) → NotBack x y → pos 0 ≤ℤ x
not_back x y (inl h) = omega (arith, ints, h)
not_back x y (inr (e, h)) = omega (arith, ints, e)

-- from the left end on, and up to the right one, by x
up_to_width : (l r x w : ℤ) → pos 0 ≤ℤ ((r *ℤ w) -ℤ x) → (x -ℤ (l *ℤ w)) ≤ℤ ((r -ℤ l) *ℤ w)
up_to_width l r x w h = omega (arith, ints, h, spread l r w)
  where
    spread : (l r w : ℤ) → (r -ℤ l) *ℤ w ≡ (r *ℤ w) -ℤ (l *ℤ w)
    spread l r w = rw (split l, split r, split w) (simp differences (same _ _ _ _ (omega arith)))

least : (b y d w : ℤ) → pos 0 <ℤ d → (b *ℤ (d *ℤ w)) ≤ℤ (y *ℤ d) → (b *ℤ w) ≤ℤ y
least b y d w hd h = most_back (b *ℤ w) y d hd (omega (arith, ints, h, last_out b d w))

most : (b y d w : ℤ) → pos 0 <ℤ d → (y *ℤ d) ≤ℤ (b *ℤ (d *ℤ w)) → y ≤ℤ (b *ℤ w)
most b y d w hd h = most_back y (b *ℤ w) d hd (omega (arith, ints, h, last_out b d w))

module _ (b t : ℤ) (s : Segment) (p : Point) (hp : pos 0 <ℤ p.w) (is : IsReached s p) (low_left : b ≤ℤ s.left.y) (low_right : b ≤ℤ s.right.y) (high_left : s.left.y ≤ℤ t) (high_right : s.right.y ≤ℤ t) where
  along : ℤ
  along = p.x -ℤ (s.left.x *ℤ p.w)

  slanted : pos 0 <ℤ width s → HasYFrom b t p
  slanted wide =
      let k : ℤ = p.x -ℤ (s.left.x *ℤ p.w) in
      let begun : pos 0 ≤ℤ k = not_back _ _ is.from_left in
      let ended : k ≤ℤ (width s *ℤ p.w) = up_to_width s.left.x s.right.x p.x p.w (not_back _ _ is.to_right) in
      let mean : (s.left.y *ℤ (width s *ℤ p.w)) +ℤ (rise s *ℤ k) ≡ p.y *ℤ width s = mean_y (width s) s.left.y (rise s) k p.y p.w is.level in
      record {
        low = least b p.y (width s) p.w wide (from_sum _ _ _ mean (mean_low b s.left.y s.right.y k (width s *ℤ p.w) low_left low_right begun ended));
        high = most t p.y (width s) p.w wide (to_sum _ _ _ mean (mean_high t s.left.y s.right.y k (width s *ℤ p.w) high_left high_right begun ended));
      }
    where
      from_sum : (a z y : ℤ) → z ≡ y → a ≤ℤ z → a ≤ℤ y
      from_sum a z y e h = omega (arith, ints, e, h)

      to_sum : (a z y : ℤ) → z ≡ y → z ≤ℤ a → y ≤ℤ a
      to_sum a z y e h = omega (arith, ints, e, h)

  upright : width s ≡ pos 0 → HasYFrom b t p
  upright none = record {
    low = from_end b s.left.y p.y p.w hp low_left (by_x (p.x -ℤ (s.left.x *ℤ p.w)) _ ((s.right.x *ℤ p.w) -ℤ p.x) _ (narrow s.left.x s.right.x p.x p.w none) is.from_left is.to_right).0;
    high = to_end t s.right.y p.y p.w hp high_right (by_x (p.x -ℤ (s.left.x *ℤ p.w)) _ ((s.right.x *ℤ p.w) -ℤ p.x) _ (narrow s.left.x s.right.x p.x p.w none) is.from_left is.to_right).1;
  }
    where
      narrow : (l r x w : ℤ) → r -ℤ l ≡ pos 0 → (x -ℤ (l *ℤ w)) +ℤ ((r *ℤ w) -ℤ x) ≡ pos 0
      narrow l r x w e = let same_x : r ≡ l = omega (arith, ints, e) in omega (arith, ints, ap (λ z. z *ℤ w) same_x)

      by_x : (a c e f : ℤ) → a +ℤ e ≡ pos 0 → NotBack a c → NotBack e f → (pos 0 ≤ℤ c) × (pos 0 ≤ℤ f)
      by_x a c e f sum (inl h) (inl k) = absurd (omega (arith, ints, sum, h, k))
      by_x a c e f sum (inl h) (inr (z, k)) = absurd (omega (arith, ints, sum, h, z))
      by_x a c e f sum (inr (z, h)) (inl k) = absurd (omega (arith, ints, sum, z, k))
      by_x a c e f sum (inr (z, h)) (inr (y, k)) = (h, k)

      from_end : (b m y w : ℤ) → pos 0 <ℤ w → b ≤ℤ m → pos 0 ≤ℤ (y -ℤ (m *ℤ w)) → (b *ℤ w) ≤ℤ y
      from_end b m y w hw h k = omega (arith, ints, k, most_times b m w hw h)

      to_end : (t n y w : ℤ) → pos 0 <ℤ w → n ≤ℤ t → pos 0 ≤ℤ ((n *ℤ w) -ℤ y) → y ≤ℤ (t *ℤ w)
      to_end t n y w hw h k = omega (arith, ints, k, most_times n t w hw h)

  pub y_from : Forward (width s) (rise s) → HasYFrom b t p
  y_from (inl wide) = slanted wide
  y_from (inr (none, up)) = upright none

-- on a proper segment
pub y_on_proper : (s : Segment) (p : Point) → IsProper s → pos 0 <ℤ p.w → IsTrue (is_on s p) → HasYFrom (neg_ℤ (pos coordinate_max)) (pos coordinate_max) p
y_on_proper s p proper hp on =
    y_from (neg_ℤ (pos coordinate_max)) (pos coordinate_max) s p hp (reached s p on) proper.left_y.0 proper.right_y.0 proper.left_y.1 proper.right_y.1 (leads s proper.first)
