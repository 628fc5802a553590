-- A segment is below a place exactly where the leaned one is below the leaned place.
use Rattle.std.proofs.Common.{◌≡◌, ℤ, pos, ◌+ℤ◌, ◌-ℤ◌, ◌*ℤ◌, ◌<ℤ◌, ◌≤ℤ◌, neg_ℤ, inl, inr, true, ap, sym, ◌∙◌, arith}
use Rattle.std.specs.Prelude.{Bool, int_le, int_lt, ◌&&◌}
use Rattle.std.proofs.lemmas.Int.{ints, by_lt_z}
use Rattle.std.proofs.Math.IntN.{zero-*ℤ, *ℤ-zero, *ℤ_comm}
use Rattle.overlay_terms.specs.Plane.{Point, Segment, height_over, is_below}
use Rattle.overlay_terms.proofs.Difference.{split, differences, same, diff-neg, mul_pos}
use Rattle.overlay_terms.proofs.InputNumbers.{le_true, true_le, lt_true, true_lt}
use Rattle.overlay_terms.proofs.Tests.{same_tests}
use Rattle.overlay_terms.proofs.Whole.{negated_positive}
use Rattle.exact_point.proofs.Lexical.{Forward}
use Rattle.exact_point.proofs.Lines.{width, rise}
use Rattle.exact_point.proofs.Signs.{positive_factor, not_positive_times}
use Rattle.crossing_sweep.specs.Leaning.{lean, lean_segment}
use Rattle.crossing_sweep.proofs.Lean.{lean_height, at_least_once, leaned_along}

-- ---- over opaque numbers
negated : (n d : ℤ) → n *ℤ neg_ℤ d ≡ neg_ℤ (n *ℤ d)
negated n d = rw (split n, split d) (simp (diff-neg, differences) (same _ _ _ _ (omega arith)))

-- a product with a number that is not negative is positive only where the other is
positive_other : (a e : ℤ) → pos 0 ≤ℤ a → pos 0 <ℤ (a *ℤ e) → pos 0 <ℤ e
positive_other a e h k =
    by_lt_z (pos 0) e (λ l. l)
    (λ l. absurd (by_lt_z (pos 0) a (λ m. omega (arith, ints, k, not_positive_times e a l m, *ℤ_comm a e))
    (λ m. let none : a ≡ pos 0 = omega (arith, ints, h, m) in omega (arith, ints, k, ap (λ z. z *ℤ e) none, zero-*ℤ e))))

less_none : (a b d e : ℤ) → d ≡ pos 0 → pos 0 <ℤ ((a *ℤ e) -ℤ (b *ℤ d)) → pos 0 <ℤ (a *ℤ e)
less_none a b d e none h = omega (arith, ints, h, ap (λ z. b *ℤ z) none, *ℤ-zero b)

-- where the place is above the line, it is not left of the left end exactly where it is not in the leaned plane
left_sign : (n d e a b : ℤ) → pos 0 <ℤ n → neg_ℤ n <ℤ e → e <ℤ n → pos 0 ≤ℤ a → pos 0 <ℤ ((a *ℤ e) -ℤ (b *ℤ d)) → int_le (pos 0) ((n *ℤ d) +ℤ e) ≡ int_le (pos 0) d
left_sign n d e a b hn low high ha above = same_tests _ _ (λ t. true_le (pos 0) d (plain (le_true (pos 0) ((n *ℤ d) +ℤ e) t))) (λ t. true_le (pos 0) ((n *ℤ d) +ℤ e) (leaned (le_true (pos 0) d t)))
  where
    plain : pos 0 ≤ℤ ((n *ℤ d) +ℤ e) → pos 0 ≤ℤ d
    plain h = by_lt_z d (pos 0) (λ l. absurd (omega (arith, ints, h, high, at_least_once n (neg_ℤ d) hn (negated_positive d l), negated n d))) (λ l. l)

    leaned : pos 0 ≤ℤ d → pos 0 ≤ℤ ((n *ℤ d) +ℤ e)
    leaned h =
        by_lt_z (pos 0) d (λ l. omega (arith, ints, low, at_least_once n d hn l))
        (λ l. let none : d ≡ pos 0 = omega (arith, ints, h, l) in
        omega (arith, ints, positive_other a e ha (less_none a b d e none above), ap (λ z. n *ℤ z) none, *ℤ-zero n))

-- and it is left of the right end exactly where it is in the leaned plane
right_sign : (n d e a b : ℤ) → pos 0 <ℤ n → neg_ℤ n <ℤ e → e <ℤ n → pos 0 ≤ℤ a → pos 0 <ℤ ((b *ℤ d) -ℤ (a *ℤ e)) → int_lt (pos 0) ((n *ℤ d) +ℤ e) ≡ int_lt (pos 0) d
right_sign n d e a b hn low high ha above = same_tests _ _ (λ t. true_lt (pos 0) d (plain (lt_true (pos 0) ((n *ℤ d) +ℤ e) t))) (λ t. true_lt (pos 0) ((n *ℤ d) +ℤ e) (leaned (lt_true (pos 0) d t)))
  where
    times_negated : (a e : ℤ) → a *ℤ neg_ℤ e ≡ neg_ℤ (a *ℤ e)
    times_negated a e = negated a e

    plain : pos 0 <ℤ ((n *ℤ d) +ℤ e) → pos 0 <ℤ d
    plain h =
        by_lt_z (pos 0) d (λ l. l)
        (λ l. absurd (by_lt_z d (pos 0) (λ m. omega (arith, ints, h, high, at_least_once n (neg_ℤ d) hn (negated_positive d m), negated n d))
        (λ m. let none : d ≡ pos 0 = omega (arith, ints, l, m) in
        let down : pos 0 <ℤ neg_ℤ e = positive_other a (neg_ℤ e) ha (omega (arith, ints, above, ap (λ z. b *ℤ z) none, *ℤ-zero b, times_negated a e)) in
        omega (arith, ints, h, down, ap (λ z. n *ℤ z) none, *ℤ-zero n))))

    leaned : pos 0 <ℤ d → pos 0 <ℤ ((n *ℤ d) +ℤ e)
    leaned l = omega (arith, ints, low, at_least_once n d hn l)

-- tests by differences
le_by : (a b : ℤ) → int_le a b ≡ int_le (pos 0) (b -ℤ a)
le_by a b = grind (arith, ints)

lt_by : (a b : ℤ) → int_lt a b ≡ int_lt (pos 0) (b -ℤ a)
lt_by a b = grind (arith, ints)

-- two tests before a third that agree where it passes
agree : (a b c e f g : Bool) → c ≡ g → (g ≡ true → a ≡ e) → (g ≡ true → b ≡ f) → (a && b && c) ≡ (e && f && g)
agree a b c e f g h k l = grind (arith, h, k, l)

positive_alike : (n h : ℤ) → pos 0 <ℤ n → int_lt (pos 0) (n *ℤ h) ≡ int_lt (pos 0) h
positive_alike n h hn = same_tests _ _ (λ t. true_lt (pos 0) h (positive_factor h n hn (omega (arith, ints, lt_true (pos 0) (n *ℤ h) t, *ℤ_comm h n)))) (λ t. true_lt (pos 0) (n *ℤ h) (mul_pos n h hn (lt_true (pos 0) h t)))

back_form : (n x y l m w : ℤ) → (((n *ℤ l) +ℤ m) *ℤ w) -ℤ ((n *ℤ x) +ℤ y) ≡ (n *ℤ ((l *ℤ w) -ℤ x)) +ℤ ((m *ℤ w) -ℤ y)
back_form n x y l m w = rw (split n, split x, split y, split l, split m, split w) (simp differences (same _ _ _ _ (omega arith)))

-- the height over a line, from its right end
from_right : (l m r o x y w : ℤ) → ((r -ℤ l) *ℤ (y -ℤ (m *ℤ w))) -ℤ ((o -ℤ m) *ℤ (x -ℤ (l *ℤ w))) ≡ ((o -ℤ m) *ℤ ((r *ℤ w) -ℤ x)) -ℤ ((r -ℤ l) *ℤ ((o *ℤ w) -ℤ y))
from_right l m r o x y w = rw (split l, split m, split r, split o, split x, split y, split w) (simp differences (same _ _ _ _ (omega arith)))

not_narrow : (a b : ℤ) → Forward a b → pos 0 ≤ℤ a
not_narrow a b (inl h) = omega (arith, ints, h)
not_narrow a b (inr (e, h)) = omega (arith, ints, e)

-- what is asked: the heights of the place and of the ends are near
pub record IsNearEnds (n : ℤ) (t : Segment) (p : Point) : Type 0 where
  pub left_low : neg_ℤ n <ℤ (p.y -ℤ (t.left.y *ℤ p.w))
  pub left_high : (p.y -ℤ (t.left.y *ℤ p.w)) <ℤ n
  pub right_low : neg_ℤ n <ℤ ((t.right.y *ℤ p.w) -ℤ p.y)
  pub right_high : ((t.right.y *ℤ p.w) -ℤ p.y) <ℤ n

pub below_alike : (n : ℤ) (t : Segment) (p : Point) → pos 0 <ℤ n → Forward (width t) (rise t) → IsNearEnds n t p → is_below (lean_segment n t) (lean n p) ≡ is_below t p
below_alike n t p hn ahead near =
    agree (int_le ((lean_segment n t).left.x *ℤ p.w) (lean n p).x) (int_lt (lean n p).x ((lean_segment n t).right.x *ℤ p.w)) (int_lt (pos 0) (height_over (lean_segment n t) (lean n p)))
    (int_le (t.left.x *ℤ p.w) p.x) (int_lt p.x (t.right.x *ℤ p.w)) (int_lt (pos 0) (height_over t p))
    (ap (int_lt (pos 0)) (lean_height n t p) ∙ positive_alike n (height_over t p) hn)
    (λ above.
    le_by ((lean_segment n t).left.x *ℤ p.w) (lean n p).x
    ∙ ap (int_le (pos 0)) (leaned_along n p.x p.y t.left.x t.left.y p.w)
    ∙ left_sign n (p.x -ℤ (t.left.x *ℤ p.w)) (p.y -ℤ (t.left.y *ℤ p.w)) (width t) (rise t) hn near.left_low near.left_high (not_narrow (width t) (rise t) ahead) (lt_true (pos 0) (height_over t p) above)
    ∙ sym (le_by (t.left.x *ℤ p.w) p.x))
    (λ above.
    lt_by (lean n p).x ((lean_segment n t).right.x *ℤ p.w)
    ∙ ap (int_lt (pos 0)) (back_form n p.x p.y t.right.x t.right.y p.w)
    ∙ right_sign n ((t.right.x *ℤ p.w) -ℤ p.x) ((t.right.y *ℤ p.w) -ℤ p.y) (width t) (rise t) hn near.right_low near.right_high (not_narrow (width t) (rise t) ahead) (carried (height_over t p) _ (from_right t.left.x t.left.y t.right.x t.right.y p.x p.y p.w) (lt_true (pos 0) (height_over t p) above))
    ∙ sym (lt_by p.x (t.right.x *ℤ p.w)))
  where
    carried : (h g : ℤ) → h ≡ g → pos 0 <ℤ h → pos 0 <ℤ g
    carried h g e k = omega (arith, ints, e, k)
