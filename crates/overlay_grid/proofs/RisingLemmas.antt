-- How the height over a line grows from point to point.
use Rattle.std.specs.Prelude.{◌≡◌, ℕ, ℤ, pos, neg_ℤ, ◌+◌, ◌*◌, ◌/◌, ◌<◌, ◌+ℤ◌, ◌-ℤ◌, ◌*ℤ◌, ◌<ℤ◌, ◌≤ℤ◌, int_lt, nat_le, true, false, unsigned_abs, negsuc, ◌%◌, ◌==◌, ◌&&◌}
use Rattle.std.specs.Ordering.{int_eq}
use Rattle.std.proofs.Common.{ap, sym, subst, ◌∙◌, refl, arith, inl, inr}
use Rattle.std.proofs.lemmas.Int.{ints}
use Rattle.std.proofs.lemmas.Bool.Decides.{leb_tells, eqb_tells, nat_tests}
use Rattle.std.proofs.Math.Nat.{div-lt_iff_lt-mul, mod-add-div, mul-div_cancel_left, mul-mod_right}
use Rattle.overlay_terms.specs.Plane.{Segment, height_over}
use Rattle.overlay_terms.proofs.Difference.{split, differences, same, mul_pos}
use Rattle.overlay_terms.proofs.InputNumbers.{times_one}
use Rattle.overlay_grid.specs.declared.rising.Rise.{Rise}
use Rattle.overlay_grid.specs.Rising.{point_at, start_of}

-- the height of a point so many steps up; l and h stand for what does not change
moved : (d l h y t j : ℤ) → (d *ℤ ((y +ℤ (t *ℤ j)) -ℤ l)) -ℤ h ≡ ((d *ℤ (y -ℤ l)) -ℤ h) +ℤ ((d *ℤ t) *ℤ j)
moved d l h y t j = rw (split d, split l, split h, split y, split t, split j) (simp differences (same _ _ _ _ (omega arith)))

-- nothing is added at the first point
pub first_is : (y t : ℤ) → y ≡ y +ℤ (t *ℤ pos 0)
first_is y t = rw (split y, split t) (simp differences (same _ _ _ _ (omega arith)))

-- the height over a line at each point, from that at the first
pub height_at : (s : Segment) (r : Rise) (j : ℕ) → height_over s (point_at r j) ≡ height_over s (point_at r 0) +ℤ (((s.right.x -ℤ s.left.x) *ℤ r.step) *ℤ pos j)
height_at s r j =
    moved (s.right.x -ℤ s.left.x) (s.left.y *ℤ pos 1) ((s.right.y -ℤ s.left.y) *ℤ (r.x -ℤ (s.left.x *ℤ pos 1))) r.y r.step (pos j)
    ∙ ap (λ y. ((((s.right.x -ℤ s.left.x) *ℤ (y -ℤ (s.left.y *ℤ pos 1))) -ℤ ((s.right.y -ℤ s.left.y) *ℤ (r.x -ℤ (s.left.x *ℤ pos 1)))) +ℤ (((s.right.x -ℤ s.left.x) *ℤ r.step) *ℤ pos j))) (first_is r.y r.step)

-- from a place above the line each point is above it
pub all_above : (over : ℤ) (p j : ℕ) → pos 0 <ℤ over → int_lt (pos 0) (over +ℤ (pos p *ℤ pos j)) ≡ nat_le 0 j
all_above over p j h =
    let product : pos p *ℤ pos j ≡ pos (p * j) = refl in
    grind (arith, ints, nat_tests)

-- from n below the line, rising by p, the points above it are those with more than n / p below them
pub some_above : (over : ℤ) (n p j : ℕ) → 0 < p → over ≡ neg_ℤ (pos n) → int_lt (pos 0) (over +ℤ (pos p *ℤ pos j)) ≡ nat_le (n / p + 1) j
some_above over n p j h e =
    let product : pos p *ℤ pos j ≡ pos (p * j) = refl in
    let turned : p * j ≡ j * p = omega arith in
    let both = div-lt_iff_lt-mul {k = p} {x = n} {y = j} h in
    elim (leb_tells (n / p + 1) j) [
      | inl t ↦ let over_it : n < j * p = both.0 (omega (arith, t.1)) in sym (t.0 ∙ sym (yes (omega (arith, turned, over_it))))
      | inr t ↦ sym (t.0 ∙ sym (no (λ k. let up = both.1 (omega (arith, turned, k)) in absurd (omega (arith, t.1, up)))))
    ]
  where
    yes : n < p * j → int_lt (pos 0) (over +ℤ (pos p *ℤ pos j)) ≡ true
    yes k = grind (arith, ints)

    no : (n < p * j → ⊥) → int_lt (pos 0) (over +ℤ (pos p *ℤ pos j)) ≡ false
    no k = grind (arith, ints)

-- a number that is not below 0, and one that is not above it, by its size
size_up : (z : ℤ) → pos 0 ≤ℤ z → pos (unsigned_abs z) ≡ z
size_up (pos n) h = refl
size_up (negsuc n) h = absurd (omega (arith, ints, h))

size_down : (z : ℤ) → z ≤ℤ pos 0 → z ≡ neg_ℤ (pos (unsigned_abs z))
size_down (pos n) h = let none : n ≡ 0 = omega (arith, ints, h) in rw none refl
size_down (negsuc n) h = refl

pub size_some : (z : ℤ) → pos 0 <ℤ z → 0 < unsigned_abs z
size_some (pos n) h = omega (arith, ints, h)
size_some (negsuc n) h = absurd (omega (arith, ints, h))

-- each step goes up over the line of a slanted segment
pub pace_up : (s : Segment) (r : Rise) → s.left.x <ℤ s.right.x → pos 0 <ℤ ((s.right.x -ℤ s.left.x) *ℤ r.step)
pace_up s r h =
    let wide : pos 0 <ℤ (s.right.x -ℤ s.left.x) = omega (arith, ints, h) in
    let up : pos 0 <ℤ r.step = omega (arith, ints, r.step_low) in
    mul_pos (s.right.x -ℤ s.left.x) r.step wide up

-- the height at the first point
pub height_first : (s : Segment) (r : Rise) → height_over s (start_of r) ≡ height_over s (point_at r 0)
height_first s r = ap (λ y. ((s.right.x -ℤ s.left.x) *ℤ (y -ℤ (s.left.y *ℤ pos 1))) -ℤ ((s.right.y -ℤ s.left.y) *ℤ (r.x -ℤ (s.left.x *ℤ pos 1)))) (first_is r.y r.step)

-- the same, as the code computes it
pub first_height : (s : Segment) (r : Rise) → (s.right.x -ℤ s.left.x) *ℤ (r.y -ℤ s.left.y) -ℤ (s.right.y -ℤ s.left.y) *ℤ (r.x -ℤ s.left.x) ≡ height_over s (start_of r)
first_height s r = rw (times_one s.left.y, times_one s.left.x)

-- where the first point is above the line, each is
pub above_at_once : (s : Segment) (r : Rise) (over : ℤ) (j : ℕ) → s.left.x <ℤ s.right.x → over ≡ height_over s (point_at r 0) → pos 0 <ℤ over → int_lt (pos 0) (height_over s (point_at r j)) ≡ nat_le 0 j
above_at_once s r over j h e up =
    let pace = (s.right.x -ℤ s.left.x) *ℤ r.step in
    let size : pos (unsigned_abs pace) ≡ pace = size_up pace (omega (arith, ints, pace_up s r h)) in
    ap (int_lt (pos 0)) (height_at s r j ∙ ap (λ z. z +ℤ (pace *ℤ pos j)) (sym e) ∙ ap (λ z. over +ℤ (z *ℤ pos j)) (sym size))
    ∙ all_above over (unsigned_abs pace) j up

-- where it is not, those are that have more points below them than the height divided by the step
pub above_later : (s : Segment) (r : Rise) (over pace : ℤ) (j : ℕ) → s.left.x <ℤ s.right.x → over ≡ height_over s (point_at r 0) → over ≤ℤ pos 0 → pace ≡ (s.right.x -ℤ s.left.x) *ℤ r.step
    → int_lt (pos 0) (height_over s (point_at r j)) ≡ nat_le (unsigned_abs over / unsigned_abs pace + 1) j
above_later s r over pace j h e down is =
    let up : pos 0 <ℤ pace = subst (λ z. pos 0 <ℤ z) (sym is) (pace_up s r h) in
    let size : pos (unsigned_abs pace) ≡ pace = size_up pace (omega (arith, ints, up)) in
    ap (int_lt (pos 0)) (height_at s r j ∙ ap (λ z. z +ℤ (((s.right.x -ℤ s.left.x) *ℤ r.step) *ℤ pos j)) (sym e) ∙ ap (λ z. over +ℤ (z *ℤ pos j)) (sym (size ∙ is)))
    ∙ some_above over (unsigned_abs over) (unsigned_abs pace) j (size_some pace up) (size_down over down)

-- ---- the point on the line
on_height : (over : ℤ) (n p j : ℕ) → over ≡ neg_ℤ (pos n) → n ≡ p * j → int_eq (over +ℤ (pos p *ℤ pos j)) (pos 0) ≡ true
on_height over n p j e k =
    let product : pos p *ℤ pos j ≡ pos (p * j) = refl in
    grind (arith, ints)

off_height : (over : ℤ) (n p j : ℕ) → over ≡ neg_ℤ (pos n) → (n ≡ p * j → ⊥) → int_eq (over +ℤ (pos p *ℤ pos j)) (pos 0) ≡ false
off_height over n p j e k =
    let product : pos p *ℤ pos j ≡ pos (p * j) = refl in
    grind (arith, ints)

-- above the line from the first point on, none is on it
never_on : (over : ℤ) (p j : ℕ) → pos 0 <ℤ over → int_eq (over +ℤ (pos p *ℤ pos j)) (pos 0) ≡ false
never_on over p j h =
    let product : pos p *ℤ pos j ≡ pos (p * j) = refl in
    grind (arith, ints)

-- n below the line, rising by p that does not divide it, none is on it
missed : (over : ℤ) (n p j : ℕ) → over ≡ neg_ℤ (pos n) → (n % p ≡ 0 → ⊥) → int_eq (over +ℤ (pos p *ℤ pos j)) (pos 0) ≡ false
missed over n p j e rest = off_height over n p j e (λ k. rest (ap (λ m. m % p) k ∙ mul-mod_right p j))

-- where p divides n, the one with n / p below it is
met : (over : ℤ) (n p j : ℕ) → 0 < p → over ≡ neg_ℤ (pos n) → n % p ≡ 0 → int_eq (over +ℤ (pos p *ℤ pos j)) (pos 0) ≡ (n / p == j)
met over n p j h e none =
    elim (eqb_tells (n / p) j) [
      | inl t ↦ on_height over n p j e (whole ∙ ap (λ q. p * q) t.1) ∙ sym t.0
      | inr t ↦ off_height over n p j e (λ k. t.1 (ap (λ m. m / p) k ∙ mul-div_cancel_left j h)) ∙ sym t.0
    ]
  where
    whole : n ≡ p * (n / p)
    whole = let all : n % p + p * (n / p) ≡ n = mod-add-div n p in omega (arith, all, none)

-- two numbers are one where the next ones are
next_same : (m n : ℕ) → (m == n) ≡ (m + 1 == n + 1)
next_same m n = grind (arith, nat_tests)

module _ (s : Segment) (r : Rise) (over pace : ℤ) (j : ℕ) (h : s.left.x <ℤ s.right.x) (e : over ≡ height_over s (point_at r 0)) (is : pace ≡ (s.right.x -ℤ s.left.x) *ℤ r.step) where
  pub is_up : pos 0 <ℤ pace
  is_up = subst (λ z. pos 0 <ℤ z) (sym is) (pace_up s r h)

  there : int_eq (height_over s (point_at r j)) (pos 0) ≡ int_eq (over +ℤ (pos (unsigned_abs pace) *ℤ pos j)) (pos 0)
  there =
      let size : pos (unsigned_abs pace) ≡ pace = size_up pace (omega (arith, ints, is_up)) in
      ap (λ z. int_eq z (pos 0)) (height_at s r j ∙ ap (λ z. z +ℤ (((s.right.x -ℤ s.left.x) *ℤ r.step) *ℤ pos j)) (sym e) ∙ ap (λ z. over +ℤ (z *ℤ pos j)) (sym (size ∙ is)))

  pub level_above : pos 0 <ℤ over → int_eq (height_over s (point_at r j)) (pos 0) ≡ false
  level_above k = there ∙ never_on over (unsigned_abs pace) j k

  pub level_missed : over ≤ℤ pos 0 → (unsigned_abs over % unsigned_abs pace ≡ 0 → ⊥) → int_eq (height_over s (point_at r j)) (pos 0) ≡ false
  level_missed down rest = there ∙ missed over (unsigned_abs over) (unsigned_abs pace) j (size_down over down) rest

  pub level_met : over ≤ℤ pos 0 → unsigned_abs over % unsigned_abs pace ≡ 0 → int_eq (height_over s (point_at r j)) (pos 0) ≡ (unsigned_abs over / unsigned_abs pace == j)
  level_met down none = there ∙ met over (unsigned_abs over) (unsigned_abs pace) j (size_some pace is_up) (size_down over down) none

  -- one of the points is on the line where the division leaves nothing, and it is the last that is not above it
  pub level_tells : over ≤ℤ pos 0 → int_eq (height_over s (point_at r j)) (pos 0) ≡ ((unsigned_abs over % unsigned_abs pace == 0) && (unsigned_abs over / unsigned_abs pace + 1 == j + 1))
  level_tells down =
      elim (eqb_tells (unsigned_abs over % unsigned_abs pace) 0) [
        | inl t ↦ level_met down t.1 ∙ next_same (unsigned_abs over / unsigned_abs pace) j ∙ sym (ap (λ b. b && (unsigned_abs over / unsigned_abs pace + 1 == j + 1)) t.0)
        | inr t ↦ level_missed down t.1 ∙ sym (ap (λ b. b && (unsigned_abs over / unsigned_abs pace + 1 == j + 1)) t.0)
      ]
