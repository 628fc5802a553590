-- Where the line of a stretch meets another segment.
use Rattle.std.specs.Prelude.{◌≡◌, ℤ, pos, ◌-ℤ◌, ◌*ℤ◌, ◌<ℤ◌, ◌≤ℤ◌, IsTrue}
use Rattle.std.proofs.Common.{ap, sym, ◌∙◌, arith, inl, inr}
use Rattle.std.proofs.lemmas.Int.{ints, by_lt_z}
use Rattle.std.proofs.Math.IntN.{*ℤ_comm, *ℤ-zero}
use Rattle.overlay_terms.specs.Plane.{Point, Segment, whole, height_over, is_on}
use Rattle.overlay_terms.proofs.Difference.{split, differences, same, mul_pos}
use Rattle.overlay_terms.proofs.Whole.{last_out, most_same}
use Rattle.exact_point.proofs.Lexical.{NotBack}
use Rattle.exact_point.proofs.OnSegment.{is_reached}
use Rattle.exact_point.proofs.ByX.{Left, AtMost, left_after, left_before, at_most_through}
use Rattle.exact_point.proofs.Lines.{width, gap, gap_form, on_first, place_over, over_on_line, over_no_gap}
use Rattle.exact_point.proofs.Signs.{zero_factor}
use Rattle.exact_point.specs.Crossing.{turn_of}
use Rattle.exact_point.proofs.CrossingLemmas.{to_end}

-- a stretch of a segment that is not vertical, from p to r
pub record Stretch (s : Segment) (p r : Point) : Type 0 where
  pub wide : pos 0 <ℤ width s
  pub from_positive : pos 0 <ℤ p.w
  pub to_positive : pos 0 <ℤ r.w
  pub in_order : Left p r
  pub from_left : AtMost (whole s.left) p
  pub to_right : AtMost r (whole s.right)
  pub from_level : height_over s p ≡ pos 0
  pub to_level : height_over s r ≡ pos 0

-- nothing of t crosses s or ends on it strictly inside the stretch
pub record Apart (s t : Segment) (p r : Point) : Type 0 where
  pub no_crossing : (z : Point) → pos 0 <ℤ z.w → Left p z → Left z r → height_over s z ≡ pos 0 → IsTrue (is_on t z) → turn_of t s ≡ pos 0
  pub no_left : Left p (whole t.left) → Left (whole t.left) r → height_over s (whole t.left) ≡ pos 0 → ⊥
  pub no_right : Left p (whole t.right) → Left (whole t.right) r → height_over s (whole t.right) ≡ pos 0 → ⊥

-- ---- on a line and between the ends by x is on the segment
level_parts : (d e x y : ℤ) → pos 0 <ℤ d → (d *ℤ y) -ℤ (e *ℤ x) ≡ pos 0 → x ≡ pos 0 → y ≡ pos 0
level_parts d e x y h level none =
    zero_factor y d h (*ℤ_comm y d ∙ omega (arith, ints, level, ap (λ z. e *ℤ z) none, *ℤ-zero e))

-- how far a place is below the right end of its line, by how far it is left of it
back_parts : (d e x y w : ℤ) → d *ℤ ((e *ℤ w) -ℤ y) ≡ (e *ℤ ((d *ℤ w) -ℤ x)) -ℤ ((d *ℤ y) -ℤ (e *ℤ x))
back_parts d e x y w = rw (split d, split e, split x, split y, split w) (simp differences (same _ _ _ _ (omega arith)))

-- over the x of the right end of its line is at the right end
level_back : (d e x y w : ℤ) → pos 0 <ℤ d → (d *ℤ y) -ℤ (e *ℤ x) ≡ pos 0 → (d *ℤ w) -ℤ x ≡ pos 0 → (e *ℤ w) -ℤ y ≡ pos 0
level_back d e x y w h level none =
    zero_factor ((e *ℤ w) -ℤ y) d h (*ℤ_comm ((e *ℤ w) -ℤ y) d ∙ back_parts d e x y w ∙ omega (arith, ints, level, ap (λ z. e *ℤ z) none, *ℤ-zero e))

-- not back from a place whose x is at most: right of it, or over it and level with it
not_back : (x y : ℤ) → pos 0 ≤ℤ x → (x ≡ pos 0 → y ≡ pos 0) → NotBack x y
not_back x y h level =
    by_lt_z (pos 0) x (λ l. inl l)
    (λ l. let z : x ≡ pos 0 = omega (arith, ints) in let e : y ≡ pos 0 = level z in inr (z, omega (arith, ints)))

ahead : (a b : ℤ) → a ≤ℤ (b *ℤ pos 1) → pos 0 ≤ℤ (b -ℤ a)
ahead a b h = omega (arith, ints)

behind : (a b : ℤ) → (b *ℤ pos 1) ≤ℤ a → pos 0 ≤ℤ (a -ℤ b)
behind a b h = omega (arith, ints)

module _ (l m r n x y w : ℤ) (wide : pos 0 <ℤ (r -ℤ l)) (level : ((r -ℤ l) *ℤ (y -ℤ (m *ℤ w))) -ℤ ((n -ℤ m) *ℤ (x -ℤ (l *ℤ w))) ≡ pos 0) where
  -- not back from the left end
  from_begin : (l *ℤ w) ≤ℤ (x *ℤ pos 1) → NotBack (x -ℤ (l *ℤ w)) (y -ℤ (m *ℤ w))
  from_begin h =
      not_back (x -ℤ (l *ℤ w)) (y -ℤ (m *ℤ w)) (ahead (l *ℤ w) x h) (level_parts (r -ℤ l) (n -ℤ m) (x -ℤ (l *ℤ w)) (y -ℤ (m *ℤ w)) wide level)

  -- the right end is not back from it
  to_close : (x *ℤ pos 1) ≤ℤ (r *ℤ w) → NotBack ((r *ℤ w) -ℤ x) ((n *ℤ w) -ℤ y)
  to_close h =
      not_back ((r *ℤ w) -ℤ x) ((n *ℤ w) -ℤ y) (behind (r *ℤ w) x h)
      (λ z. sym (to_end m n w y) ∙ level_back (r -ℤ l) (n -ℤ m) (x -ℤ (l *ℤ w)) (y -ℤ (m *ℤ w)) w wide level (to_end l r w x ∙ z))

-- a place on the line of a segment that is not vertical, between its ends by x, is on the segment
pub on_from_level : (s : Segment) (p : Point) → pos 0 <ℤ width s → height_over s p ≡ pos 0 → AtMost (whole s.left) p → AtMost p (whole s.right) → IsTrue (is_on s p)
on_from_level s p wide level low high =
    is_reached s p (record {
      level = level;
      from_left = from_begin s.left.x s.left.y s.right.x s.right.y p.x p.y p.w wide level low;
      to_right = to_close s.left.x s.left.y s.right.x s.right.y p.x p.y p.w wide level high;
    })

-- ---- the point of a line over an x
-- it is over that x
pub over_least : (s : Segment) (q : Point) → AtMost q (place_over s q.x q.w)
over_least s q = most_same _ _ (last_out q.x q.w (width s))

pub over_most : (s : Segment) (q : Point) → AtMost (place_over s q.x q.w) q
over_most s q = most_same _ _ (sym (last_out q.x q.w (width s)))

-- over an x strictly inside the stretch and between the ends of t, no gap between the lines means that they are parallel
pub no_gap_inside : (s t : Segment) (p r q : Point) → Stretch s p r → Apart s t p r → pos 0 <ℤ width t → pos 0 <ℤ q.w → Left p q → Left q r → AtMost (whole t.left) q → AtMost q (whole t.right) → gap t s q ≡ pos 0 → turn_of t s ≡ pos 0
no_gap_inside s t p r q stretch apart wide positive after before low high none =
    let z : Point = place_over s q.x q.w in
    let z_positive : pos 0 <ℤ z.w = mul_pos q.w (width s) positive stretch.wide in
    let one : pos 0 <ℤ pos 1 = omega (arith, ints) in
    let s_level : height_over s z ≡ pos 0 = over_on_line s q.x q.w in
    let z_gap : gap t s z ≡ pos 0 = over_no_gap t s q.x q.w (sym (gap_form t s q) ∙ none) in
    let t_level : height_over t z ≡ pos 0 = on_first t s z stretch.wide s_level z_gap in
    apart.no_crossing z z_positive
    (left_before p q z stretch.from_positive positive z_positive after (over_least s q))
    (left_after z q r z_positive positive stretch.to_positive (over_most s q) before)
    s_level
    (on_from_level t z wide t_level
    (at_most_through (whole t.left) q z one positive z_positive low (over_least s q))
    (at_most_through z q (whole t.right) z_positive positive one (over_most s q) high))
