-- Lying on a segment, in its parts.
use Rattle.std.proofs.Common.{◌≡◌, ℤ, pos, ◌+ℤ◌, ◌-ℤ◌, ◌*ℤ◌, ◌≤ℤ◌, refl, ap, ◌∙◌, arith, true, false, Bool, ◌&&◌}
use Rattle.std.proofs.lemmas.Int.{ints}
use Rattle.std.proofs.lemmas.Bool.Decides.{Decides-int_eq}
use Rattle.std.specs.Bool.{IsTrue}
use Rattle.overlay_terms.specs.Plane.{Point, Segment, is_on, height_over, whole_cmp}
use Rattle.std.specs.declared.cmp.Ordering.TheVariants.{Less}
use Rattle.overlay_terms.proofs.Difference.{split, differences, same}
use Rattle.overlay_terms.proofs.InputNumbers.{times_one}
use Rattle.exact_point.proofs.Lexical.{Forward, NotBack, forward, not_before, not_after, is_not_before, is_not_after, stays_forward}
use Rattle.exact_point.specs.Crossing.{IsPartWay}

pub and3_parts : (x y z : Bool) → (x && y && z) ≡ true → (x ≡ true) × (y ≡ true) × (z ≡ true)
and3_parts true true true e = (refl, refl, refl)
and3_parts true true false e = cc
and3_parts true false z e = cc
and3_parts false y z e = cc

pub and3_from : (x y z : Bool) → x ≡ true → y ≡ true → z ≡ true → (x && y && z) ≡ true
and3_from true true true e f g = refl
and3_from true true false e f g = cc
and3_from true false z e f g = cc
and3_from false y z e f g = cc

-- from the left end to the right one is forward
pub leads : (s : Segment) → whole_cmp s.left s.right ≡ Less → Forward (s.right.x -ℤ s.left.x) (s.right.y -ℤ s.left.y)
leads s = forward s.left.x s.right.x s.left.y s.right.y

-- p lies on s: on its line, not back from its left end, and its right end not back from it
pub record IsReached (s : Segment) (p : Point) : Type 0 where
  pub level : height_over s p ≡ pos 0
  pub from_left : NotBack (p.x -ℤ s.left.x *ℤ p.w) (p.y -ℤ s.left.y *ℤ p.w)
  pub to_right : NotBack (s.right.x *ℤ p.w -ℤ p.x) (s.right.y *ℤ p.w -ℤ p.y)

pub reached : (s : Segment) (p : Point) → IsTrue (is_on s p) → IsReached s p
reached s p h =
    let parts = and3_parts _ _ _ h in
    record {
      level = (Decides-int_eq (height_over s p) (pos 0)).0 parts.0;
      from_left = rw (times_one p.x, times_one p.y) at (not_before (p.x *ℤ pos 1) (s.left.x *ℤ p.w) (p.y *ℤ pos 1) (s.left.y *ℤ p.w) parts.1);
      to_right = rw (times_one p.x, times_one p.y) at (not_after (p.x *ℤ pos 1) (s.right.x *ℤ p.w) (p.y *ℤ pos 1) (s.right.y *ℤ p.w) parts.2);
    }

pub is_reached : (s : Segment) (p : Point) → IsReached s p → IsTrue (is_on s p)
is_reached s p h =
    and3_from _ _ _ ((Decides-int_eq (height_over s p) (pos 0)).1 h.level)
    (is_not_before (p.x *ℤ pos 1) (s.left.x *ℤ p.w) (p.y *ℤ pos 1) (s.left.y *ℤ p.w) (rw (times_one p.x, times_one p.y) h.from_left))
    (is_not_after (p.x *ℤ pos 1) (s.right.x *ℤ p.w) (p.y *ℤ pos 1) (s.right.y *ℤ p.w) (rw (times_one p.x, times_one p.y) h.to_right))

-- ---- part of the way
left_step : (l a t w : ℤ) → ((l *ℤ w) +ℤ (a *ℤ t)) -ℤ (l *ℤ w) ≡ t *ℤ a
left_step l a t w = rw (split l, split a, split t, split w) (simp differences (same _ _ _ _ (omega arith)))

right_step : (l r t w : ℤ) → (r *ℤ w) -ℤ ((l *ℤ w) +ℤ ((r -ℤ l) *ℤ t)) ≡ (w -ℤ t) *ℤ (r -ℤ l)
right_step l r t w = rw (split l, split r, split t, split w) (simp differences (same _ _ _ _ (omega arith)))

no_height : (a b t : ℤ) → (a *ℤ (t *ℤ b)) -ℤ (b *ℤ (t *ℤ a)) ≡ pos 0
no_height a b t = rw (split a, split b, split t) (simp differences (same _ _ _ _ (omega arith)))

-- a place part of the way along a segment lies on it
pub part_reached : (s : Segment) (t w : ℤ) (p : Point) → Forward (s.right.x -ℤ s.left.x) (s.right.y -ℤ s.left.y) → pos 0 ≤ℤ t → t ≤ℤ w → IsPartWay s t w p → IsReached s p
part_reached s t w p f low high h =
    let a = s.right.x -ℤ s.left.x in
    let b = s.right.y -ℤ s.left.y in
    let rest : pos 0 ≤ℤ (w -ℤ t) = omega (arith, ints) in
    let ex : p.x -ℤ s.left.x *ℤ p.w ≡ t *ℤ a = ap (λ v. p.x -ℤ s.left.x *ℤ v) h.over ∙ ap (λ z. z -ℤ s.left.x *ℤ w) h.across ∙ left_step s.left.x a t w in
    let ey : p.y -ℤ s.left.y *ℤ p.w ≡ t *ℤ b = ap (λ v. p.y -ℤ s.left.y *ℤ v) h.over ∙ ap (λ z. z -ℤ s.left.y *ℤ w) h.along ∙ left_step s.left.y b t w in
    let fx : s.right.x *ℤ p.w -ℤ p.x ≡ (w -ℤ t) *ℤ a = ap (λ v. s.right.x *ℤ v -ℤ p.x) h.over ∙ ap (λ z. s.right.x *ℤ w -ℤ z) h.across ∙ right_step s.left.x s.right.x t w in
    let fy : s.right.y *ℤ p.w -ℤ p.y ≡ (w -ℤ t) *ℤ b = ap (λ v. s.right.y *ℤ v -ℤ p.y) h.over ∙ ap (λ z. s.right.y *ℤ w -ℤ z) h.along ∙ right_step s.left.y s.right.y t w in
    record {
      level = ap (λ z. (a *ℤ z) -ℤ (b *ℤ (p.x -ℤ s.left.x *ℤ p.w))) ey ∙ ap (λ z. (a *ℤ (t *ℤ b)) -ℤ (b *ℤ z)) ex ∙ no_height a b t;
      from_left = rw (ex, ey) (stays_forward t a b low f);
      to_right = rw (fx, fy) (stays_forward (w -ℤ t) a b rest f);
    }
