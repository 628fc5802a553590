-- Points on segments: between two others, on parallel segments, in the middle, at the ends.
use Rattle.std.proofs.Common.{◌≡◌, ℤ, pos, ◌+ℤ◌, ◌-ℤ◌, ◌*ℤ◌, ◌<ℤ◌, inl, inr, true, not, refl, ap, sym, ◌∙◌, arith}
use Rattle.std.specs.Prelude.{IsTrue}
use Rattle.std.proofs.lemmas.Int.{ints}
use Rattle.std.proofs.lemmas.Bool.Decides.{Decides-int_eq}
use Rattle.std.proofs.Math.IntN.{*ℤ_comm, *ℤ-zero, zero-*ℤ}
use Rattle.std.specs.Cmp.{int_ranks}
use Rattle.std.specs.Ordering.{int_eq, is_lt, is_gt, ordering_then, MatchOrdering}
use Rattle.std.specs.declared.cmp.Ordering.{Ordering}
use Rattle.std.specs.declared.cmp.Ordering.TheVariants.{Less, Equal, Greater}
use Rattle.overlay_terms.specs.Plane.{Point, Segment, whole, whole_cmp, point_cmp, height_over, is_on}
use Rattle.overlay_terms.specs.Tiles.{is_parallel, midpoint}
use Rattle.overlay_terms.proofs.Difference.{split, differences, same, mul_pos}
use Rattle.exact_point.proofs.Signs.{zero_factor}
use Rattle.exact_point.proofs.Lexical.{Forward, forward}
use Rattle.exact_point.proofs.OnSegment.{reached, leads, and3_parts, and3_from}
use Rattle.exact_point.specs.Crossing.{turn_of}
use Rattle.exact_point.proofs.MiddleLemmas.{middle_height}
use Rattle.exact_point.proofs.PlaceOrder.{one_positive, not_before_test, not_before_says, not_after_test, not_after_says, not_before_through}

-- ---- between
-- the three parts of lying on a segment
parts_of : (s : Segment) (p : Point) → IsTrue (is_on s p) → (int_eq (height_over s p) (pos 0) ≡ true) × (not (is_lt (point_cmp p (whole s.left))) ≡ true) × (not (is_gt (point_cmp p (whole s.right))) ≡ true)
parts_of s p h = and3_parts (int_eq (height_over s p) (pos 0)) (not (is_lt (point_cmp p (whole s.left)))) (not (is_gt (point_cmp p (whole s.right)))) h

-- not before the left end, not after the right one
pub after_left : (s : Segment) (p : Point) → IsTrue (is_on s p) → point_cmp p (whole s.left) ≡ Less → ⊥
after_left s p h = not_before_says p (whole s.left) (parts_of s p h).1

pub before_right : (s : Segment) (p : Point) → pos 0 <ℤ p.w → IsTrue (is_on s p) → point_cmp (whole s.right) p ≡ Less → ⊥
before_right s p w h = not_after_says p (whole s.right) w one_positive (parts_of s p h).2

-- a point on the line of a segment that is neither before a point of the segment nor after another lies on it
pub between_on : (s : Segment) (p q r : Point) → pos 0 <ℤ p.w → pos 0 <ℤ q.w → pos 0 <ℤ r.w → IsTrue (is_on s p) → IsTrue (is_on s r)
    → height_over s q ≡ pos 0 → (point_cmp q p ≡ Less → ⊥) → (point_cmp r q ≡ Less → ⊥) → IsTrue (is_on s q)
between_on s p q r hp hq hr on_p on_r level after_p before_r =
    and3_from (int_eq (height_over s q) (pos 0)) (not (is_lt (point_cmp q (whole s.left)))) (not (is_gt (point_cmp q (whole s.right))))
    ((Decides-int_eq (height_over s q) (pos 0)).1 level)
    (not_before_test q (whole s.left) (not_before_through q p (whole s.left) hq hp one_positive after_p (after_left s p on_p)))
    (not_after_test q (whole s.right) hq one_positive
    (not_before_through (whole s.right) r q one_positive hr hq (before_right s r hr on_r) before_r))

-- a point on the line of a segment that is not before its left end nor after its right one lies on it
pub within_on : (s : Segment) (q : Point) → pos 0 <ℤ q.w → height_over s q ≡ pos 0 → (point_cmp q (whole s.left) ≡ Less → ⊥) → (point_cmp (whole s.right) q ≡ Less → ⊥) → IsTrue (is_on s q)
within_on s q hq level from to =
    and3_from (int_eq (height_over s q) (pos 0)) (not (is_lt (point_cmp q (whole s.left)))) (not (is_gt (point_cmp q (whole s.right))))
    ((Decides-int_eq (height_over s q) (pos 0)).1 level) (not_before_test q (whole s.left) from) (not_after_test q (whole s.right) hq one_positive to)

-- a point on a segment is on its line
pub on_line : (s : Segment) (p : Point) → IsTrue (is_on s p) → height_over s p ≡ pos 0
on_line s p h = (reached s p h).level

-- ---- parallel
-- what both parts of a forward way (a, b) multiply to 0 is 0
way_zero : (a b z : ℤ) → Forward a b → a *ℤ z ≡ pos 0 → b *ℤ z ≡ pos 0 → z ≡ pos 0
way_zero a b z (inl h) e f = zero_factor z a h (*ℤ_comm z a ∙ e)
way_zero a b z (inr h) e f = zero_factor z b h.1 (*ℤ_comm z b ∙ f)

-- the turn between two ways, times the one part of a third
turn_a : (a b c d e f : ℤ) → a *ℤ ((c *ℤ f) -ℤ (d *ℤ e)) ≡ (c *ℤ ((a *ℤ f) -ℤ (b *ℤ e))) -ℤ (e *ℤ ((a *ℤ d) -ℤ (b *ℤ c)))
turn_a a b c d e f = rw (split a, split b, split c, split d, split e, split f) (simp differences (same _ _ _ _ (omega arith)))

-- the same times the other part
turn_b : (a b c d e f : ℤ) → b *ℤ ((c *ℤ f) -ℤ (d *ℤ e)) ≡ (d *ℤ ((a *ℤ f) -ℤ (b *ℤ e))) -ℤ (f *ℤ ((a *ℤ d) -ℤ (b *ℤ c)))
turn_b a b c d e f = rw (split a, split b, split c, split d, split e, split f) (simp differences (same _ _ _ _ (omega arith)))

-- none less none
two_none : (x y : ℤ) → (x *ℤ pos 0) -ℤ (y *ℤ pos 0) ≡ pos 0
two_none x y = omega (arith, ints, *ℤ-zero x, *ℤ-zero y)

-- two ways that do not turn from a third do not turn from one another
pub no_turn_through : (a b c d e f : ℤ) → Forward a b → (a *ℤ d) -ℤ (b *ℤ c) ≡ pos 0 → (a *ℤ f) -ℤ (b *ℤ e) ≡ pos 0 → (c *ℤ f) -ℤ (d *ℤ e) ≡ pos 0
no_turn_through a b c d e f h k l =
    way_zero a b ((c *ℤ f) -ℤ (d *ℤ e)) h
    (turn_a a b c d e f ∙ ap (λ z. (c *ℤ z) -ℤ (e *ℤ ((a *ℤ d) -ℤ (b *ℤ c)))) l ∙ ap (λ z. (c *ℤ pos 0) -ℤ (e *ℤ z)) k ∙ two_none c e)
    (turn_b a b c d e f ∙ ap (λ z. (d *ℤ z) -ℤ (f *ℤ ((a *ℤ d) -ℤ (b *ℤ c)))) l ∙ ap (λ z. (d *ℤ pos 0) -ℤ (f *ℤ z)) k ∙ two_none d f)

-- segments that do not turn from one another are parallel
pub parallel_from_turn : (s t : Segment) → turn_of s t ≡ pos 0 → is_parallel s t ≡ true
parallel_from_turn s t e =
    (Decides-int_eq ((s.right.x -ℤ s.left.x) *ℤ (t.right.y -ℤ t.left.y)) ((s.right.y -ℤ s.left.y) *ℤ (t.right.x -ℤ t.left.x))).1 (omega (arith, ints, e))

-- parallel segments do not turn from one another
pub turn_from_parallel : (s t : Segment) → is_parallel s t ≡ true → turn_of s t ≡ pos 0
turn_from_parallel s t e =
    let level = (Decides-int_eq ((s.right.x -ℤ s.left.x) *ℤ (t.right.y -ℤ t.left.y)) ((s.right.y -ℤ s.left.y) *ℤ (t.right.x -ℤ t.left.x))).0 e in
    omega (arith, ints, level)

-- a segment that does not turn from another is not one that the other turns from
pub no_turn_back : (s t : Segment) → turn_of s t ≡ pos 0 → turn_of t s ≡ pos 0
no_turn_back s t e = omega (arith, ints, e, *ℤ_comm (s.right.x -ℤ s.left.x) (t.right.y -ℤ t.left.y), *ℤ_comm (s.right.y -ℤ s.left.y) (t.right.x -ℤ t.left.x))

-- segments that are parallel to a third are parallel
pub parallel_through : (s t u : Segment) → whole_cmp s.left s.right ≡ Less → is_parallel s t ≡ true → is_parallel s u ≡ true → is_parallel t u ≡ true
parallel_through s t u h e f =
    parallel_from_turn t u (no_turn_through (s.right.x -ℤ s.left.x) (s.right.y -ℤ s.left.y) (t.right.x -ℤ t.left.x) (t.right.y -ℤ t.left.y)
    (u.right.x -ℤ u.left.x) (u.right.y -ℤ u.left.y) (leads s h) (turn_from_parallel s t e) (turn_from_parallel s u f))

-- the heights of two points over a line, as the way between them turns from it
way_height : (a b l m x y w u v q : ℤ) → (w *ℤ ((a *ℤ (v -ℤ (m *ℤ q))) -ℤ (b *ℤ (u -ℤ (l *ℤ q))))) -ℤ (q *ℤ ((a *ℤ (y -ℤ (m *ℤ w))) -ℤ (b *ℤ (x -ℤ (l *ℤ w))))) ≡ (a *ℤ ((v *ℤ w) -ℤ (y *ℤ q))) -ℤ (b *ℤ ((u *ℤ w) -ℤ (x *ℤ q)))
way_height a b l m x y w u v q =
    rw (split a, split b, split l, split m, split x, split y, split w, split u, split v, split q) (simp differences (same _ _ _ _ (omega arith)))

-- the way between two points of a line does not turn from it
pub level_way : (s : Segment) (p q : Point) → height_over s p ≡ pos 0 → height_over s q ≡ pos 0 →
    ((s.right.x -ℤ s.left.x) *ℤ ((q.y *ℤ p.w) -ℤ (p.y *ℤ q.w))) -ℤ ((s.right.y -ℤ s.left.y) *ℤ ((q.x *ℤ p.w) -ℤ (p.x *ℤ q.w))) ≡ pos 0
level_way s p q h k =
    sym (way_height (s.right.x -ℤ s.left.x) (s.right.y -ℤ s.left.y) s.left.x s.left.y p.x p.y p.w q.x q.y q.w)
    ∙ ap (λ z. (p.w *ℤ z) -ℤ (q.w *ℤ height_over s p)) k ∙ ap (λ z. (p.w *ℤ pos 0) -ℤ (q.w *ℤ z)) h ∙ two_none p.w q.w

-- nothing taken away
pub less_none : (z w : ℤ) → z -ℤ (w *ℤ pos 0) ≡ z
less_none z w = omega (arith, ints, *ℤ-zero w)

-- the way from a point of a line to another point turns as that is above the line
pub way_up : (s : Segment) (p q : Point) → height_over s p ≡ pos 0 →
    ((s.right.x -ℤ s.left.x) *ℤ ((q.y *ℤ p.w) -ℤ (p.y *ℤ q.w))) -ℤ ((s.right.y -ℤ s.left.y) *ℤ ((q.x *ℤ p.w) -ℤ (p.x *ℤ q.w))) ≡ p.w *ℤ height_over s q
way_up s p q h =
    sym (way_height (s.right.x -ℤ s.left.x) (s.right.y -ℤ s.left.y) s.left.x s.left.y p.x p.y p.w q.x q.y q.w)
    ∙ ap (λ z. (p.w *ℤ height_over s q) -ℤ (q.w *ℤ z)) h ∙ less_none (p.w *ℤ height_over s q) q.w

-- a segment holds the line of another in its direction that it has a point with
pub parallel_line : (s t : Segment) (p q : Point) → whole_cmp s.left s.right ≡ Less → turn_of s t ≡ pos 0 → pos 0 <ℤ p.w
    → height_over s p ≡ pos 0 → height_over t p ≡ pos 0 → height_over s q ≡ pos 0 → height_over t q ≡ pos 0
parallel_line s t p q h e hp sp tp sq =
    let along = no_turn_through (s.right.x -ℤ s.left.x) (s.right.y -ℤ s.left.y) (t.right.x -ℤ t.left.x) (t.right.y -ℤ t.left.y)
    ((q.x *ℤ p.w) -ℤ (p.x *ℤ q.w)) ((q.y *ℤ p.w) -ℤ (p.y *ℤ q.w)) (leads s h) e (level_way s p q sp sq) in
    zero_factor (height_over t q) p.w hp (*ℤ_comm (height_over t q) p.w ∙ sym (way_up t p q tp) ∙ along)

-- ---- the middle
-- the middle of two points of a line is on it
pub middle_line : (s : Segment) (p r : Point) → height_over s p ≡ pos 0 → height_over s r ≡ pos 0 → height_over s (midpoint p r) ≡ pos 0
middle_line s p r e f =
    middle_height s p r ∙ omega (arith, ints, ap (λ z. z *ℤ r.w) e, zero-*ℤ r.w, ap (λ z. z *ℤ p.w) f, zero-*ℤ p.w)

-- the same, by how the coordinates compare
by_forward : (o i : Ordering) (x a y b : ℤ) → MatchOrdering o (x <ℤ a) (x ≡ a) (a <ℤ x) → MatchOrdering i (y <ℤ b) (y ≡ b) (b <ℤ y) → Forward (a -ℤ x) (b -ℤ y) → ordering_then o i ≡ Less
by_forward Less i x a y b h k f = refl
by_forward Equal Less x a y b h k f = refl
by_forward Equal Equal x a y b h k (inl f) = absurd (omega (arith, ints))
by_forward Equal Equal x a y b h k (inr f) = absurd (omega (arith, ints, f.1))
by_forward Equal Greater x a y b h k (inl f) = absurd (omega (arith, ints))
by_forward Equal Greater x a y b h k (inr f) = absurd (omega (arith, ints, f.1))
by_forward Greater i x a y b h k (inl f) = absurd (omega (arith, ints))
by_forward Greater i x a y b h k (inr f) = absurd (omega (arith, ints, f.0))

-- a step forward leads to a later point
pub less_from_forward : (p q : Point) → Forward ((q.x *ℤ p.w) -ℤ (p.x *ℤ q.w)) ((q.y *ℤ p.w) -ℤ (p.y *ℤ q.w)) → point_cmp p q ≡ Less
less_from_forward p q = by_forward _ _ (p.x *ℤ q.w) (q.x *ℤ p.w) (p.y *ℤ q.w) (q.y *ℤ p.w) (int_ranks (p.x *ℤ q.w) (q.x *ℤ p.w)) (int_ranks (p.y *ℤ q.w) (q.y *ℤ p.w))

-- a later point is a step forward
pub forward_from_less : (p q : Point) → point_cmp p q ≡ Less → Forward ((q.x *ℤ p.w) -ℤ (p.x *ℤ q.w)) ((q.y *ℤ p.w) -ℤ (p.y *ℤ q.w))
forward_from_less p q = forward (p.x *ℤ q.w) (q.x *ℤ p.w) (p.y *ℤ q.w) (q.y *ℤ p.w)

-- a positive multiple of a step forward
still_forward : (k a b : ℤ) → pos 0 <ℤ k → Forward a b → Forward (k *ℤ a) (k *ℤ b)
still_forward k a b h (inl f) = inl (mul_pos k a h f)
still_forward k a b h (inr (e, f)) = inr (ap (λ z. k *ℤ z) e ∙ *ℤ-zero k, mul_pos k b h f)

-- the way to a middle
to_middle : (x w u q : ℤ) → (((x *ℤ q) +ℤ (u *ℤ w)) *ℤ w) -ℤ (x *ℤ (pos 2 *ℤ (w *ℤ q))) ≡ w *ℤ ((u *ℤ w) -ℤ (x *ℤ q))
to_middle x w u q = rw (split x, split w, split u, split q) (simp differences (same _ _ _ _ (omega arith)))

-- the way from a middle
from_middle : (x w u q : ℤ) → (u *ℤ (pos 2 *ℤ (w *ℤ q))) -ℤ (((x *ℤ q) +ℤ (u *ℤ w)) *ℤ q) ≡ q *ℤ ((u *ℤ w) -ℤ (x *ℤ q))
from_middle x w u q = rw (split x, split w, split u, split q) (simp differences (same _ _ _ _ (omega arith)))

-- the middle of two points lies between them
pub middle_after : (p r : Point) → pos 0 <ℤ p.w → point_cmp p r ≡ Less → point_cmp p (midpoint p r) ≡ Less
middle_after p r h e =
    less_from_forward p (midpoint p r) (rw (to_middle p.x p.w r.x r.w, to_middle p.y p.w r.y r.w) (still_forward p.w _ _ h (forward_from_less p r e)))

-- and before the second
pub middle_before : (p r : Point) → pos 0 <ℤ r.w → point_cmp p r ≡ Less → point_cmp (midpoint p r) r ≡ Less
middle_before p r h e =
    less_from_forward (midpoint p r) r (rw (from_middle p.x p.w r.x r.w, from_middle p.y p.w r.y r.w) (still_forward r.w _ _ h (forward_from_less p r e)))

-- segments with two points of their lines in common have one direction
pub one_direction : (s t : Segment) (p r : Point) → height_over s p ≡ pos 0 → height_over s r ≡ pos 0 → height_over t p ≡ pos 0 → height_over t r ≡ pos 0 → point_cmp p r ≡ Less → turn_of s t ≡ pos 0
one_direction s t p r sp sr tp tr before =
    no_turn_through ((r.x *ℤ p.w) -ℤ (p.x *ℤ r.w)) ((r.y *ℤ p.w) -ℤ (p.y *ℤ r.w)) (s.right.x -ℤ s.left.x) (s.right.y -ℤ s.left.y) (t.right.x -ℤ t.left.x) (t.right.y -ℤ t.left.y)
    (forward_from_less p r before) (along s sp sr) (along t tp tr)
  where
    flipped : (a b x y : ℤ) → (a *ℤ y) -ℤ (b *ℤ x) ≡ pos 0 → (x *ℤ b) -ℤ (y *ℤ a) ≡ pos 0
    flipped a b x y e = omega (arith, ints, e, *ℤ_comm a y, *ℤ_comm b x)

    along : (u : Segment) → height_over u p ≡ pos 0 → height_over u r ≡ pos 0 → (((r.x *ℤ p.w) -ℤ (p.x *ℤ r.w)) *ℤ (u.right.y -ℤ u.left.y)) -ℤ (((r.y *ℤ p.w) -ℤ (p.y *ℤ r.w)) *ℤ (u.right.x -ℤ u.left.x)) ≡ pos 0
    along u h k =
        flipped (u.right.x -ℤ u.left.x) (u.right.y -ℤ u.left.y) ((r.x *ℤ p.w) -ℤ (p.x *ℤ r.w)) ((r.y *ℤ p.w) -ℤ (p.y *ℤ r.w)) (level_way u p r h k)

-- ---- ends
-- the left end's height over the line
left_height : (a b l m : ℤ) → (a *ℤ (m -ℤ (m *ℤ pos 1))) -ℤ (b *ℤ (l -ℤ (l *ℤ pos 1))) ≡ pos 0
left_height a b l m = rw (split a, split b, split l, split m) (simp differences (same _ _ _ _ (omega arith)))

-- the left end is on the line
pub left_on_line : (s : Segment) → height_over s (whole s.left) ≡ pos 0
left_on_line s = left_height (s.right.x -ℤ s.left.x) (s.right.y -ℤ s.left.y) s.left.x s.left.y

-- the right end's height over the line
right_height : (l m r n : ℤ) → ((r -ℤ l) *ℤ (n -ℤ (m *ℤ pos 1))) -ℤ ((n -ℤ m) *ℤ (r -ℤ (l *ℤ pos 1))) ≡ pos 0
right_height l m r n = rw (split l, split m, split r, split n) (simp differences (same _ _ _ _ (omega arith)))

-- the right end is on the line
pub right_on_line : (s : Segment) → height_over s (whole s.right) ≡ pos 0
right_on_line s = right_height s.left.x s.left.y s.right.x s.right.y
