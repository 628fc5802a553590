-- A point against a step.
use Rattle.std.proofs.Common.{◌≡◌, inl, inr, ℤ, pos, ◌+ℤ◌, ◌-ℤ◌, ◌*ℤ◌, ◌<ℤ◌, ◌≤ℤ◌, refl, ap, sym, ◌∙◌, subst, arith, true, false, Bool, ◌&&◌}
use Rattle.std.specs.Prelude.{int_lt, int_le, Option, Some, None, IfSome}
use Rattle.std.specs.Bool.{IsTrue}
use Rattle.std.specs.Cmp.{int_ranks, int_cmp_is, both_ways}
use Rattle.std.specs.Ordering.{int_cmp, int_eq, ordering_then, MatchOrdering}
use Rattle.std.specs.declared.cmp.Ordering.{Ordering}
use Rattle.std.specs.declared.cmp.Ordering.TheVariants.{Less, Equal, Greater}
use Rattle.std.proofs.lemmas.Int.{ints, by_lt_z}
use Rattle.std.proofs.lemmas.Bool.Decides.{Decides-int_eq}
use Rattle.std.proofs.Math.IntN.{*ℤ_comm, *ℤ-zero, zero-*ℤ}
use Rattle.overlay_terms.specs.Plane.{WholePoint, Point, Segment, whole, same_place, whole_cmp, segment_between, height_over, side_of, is_below, is_on}
use Rattle.overlay_terms.proofs.Difference.{split, differences, same, mul_pos}
use Rattle.overlay_terms.proofs.InputNumbers.{lt_true, le_true, true_le, true_lt, times_one}
use Rattle.exact_point.proofs.Signs.{zero_factor}
use Rattle.exact_point.proofs.Lexical.{NotBack}
use Rattle.exact_point.proofs.OnSegment.{and3_parts, and3_from, IsReached, reached, is_reached}
use Rattle.exact_point.proofs.Tests.{lt_no}
use Rattle.feature_spots.specs.Spots.{is_on_way, is_on_step, is_way_below, is_step_below}

-- ---- the segment of a step
less_is : (x y : ℤ) → x <ℤ y → int_cmp x y ≡ Less
less_is x y h = sym (int_cmp_is x y Less h)

more_is : (x y : ℤ) → y <ℤ x → int_cmp x y ≡ Greater
more_is x y h = sym (int_cmp_is x y Greater h)

same_is : (x y : ℤ) → x ≡ y → int_cmp x y ≡ Equal
same_is x y h = sym (int_cmp_is x y Equal h)

between : (a b : WholePoint) (o : Ordering) → whole_cmp a b ≡ o → Option Segment
between a b Less e = Some (record { left = a; right = b })
between a b Equal e = None
between a b Greater e = Some (record { left = b; right = a })

is_between : (a b : WholePoint) (o : Ordering) → (e : whole_cmp a b ≡ o) → segment_between (a, b) ≡ between a b o e
unfolding between
is_between a b Less e = rw e refl
is_between a b Equal e = rw e refl
is_between a b Greater e = rw e refl

pub right_step : (a b : WholePoint) → a.x <ℤ b.x → segment_between (a, b) ≡ Some (record { left = a; right = b })
unfolding between
right_step a b h = is_between a b Less (ap (λ o. ordering_then o (int_cmp a.y b.y)) (less_is a.x b.x h))

pub left_step : (a b : WholePoint) → b.x <ℤ a.x → segment_between (a, b) ≡ Some (record { left = b; right = a })
unfolding between
left_step a b h = is_between a b Greater (ap (λ o. ordering_then o (int_cmp a.y b.y)) (more_is a.x b.x h))

upright_cmp : (a b : WholePoint) → a.x ≡ b.x → whole_cmp a b ≡ int_cmp a.y b.y
upright_cmp a b h = ap (λ o. ordering_then o (int_cmp a.y b.y)) (same_is a.x b.x h)

pub up_step : (a b : WholePoint) → a.x ≡ b.x → a.y <ℤ b.y → segment_between (a, b) ≡ Some (record { left = a; right = b })
unfolding between
up_step a b h k = is_between a b Less (upright_cmp a b h ∙ less_is a.y b.y k)

pub down_step : (a b : WholePoint) → a.x ≡ b.x → b.y <ℤ a.y → segment_between (a, b) ≡ Some (record { left = b; right = a })
unfolding between
down_step a b h k = is_between a b Greater (upright_cmp a b h ∙ more_is a.y b.y k)

pub no_step : (a b : WholePoint) → a.x ≡ b.x → a.y ≡ b.y → segment_between (a, b) ≡ None
unfolding between
no_step a b h k = is_between a b Equal (upright_cmp a b h ∙ same_is a.y b.y k)

-- ---- tests
pub never : {A : Type 0} → false ≡ true → A
never e = cc

not_true : (b : Bool) → (IsTrue b → ⊥) → false ≡ b
not_true true h = absurd (h refl)
not_true false h = refl

true_is : (b : Bool) → IsTrue b → true ≡ b
true_is b h = sym h

second_decides : (x y z b : Bool) → x ≡ true → z ≡ true → b ≡ y → b ≡ (x && y && z)
second_decides true true true b e f k = k
second_decides true true false b e f k = cc
second_decides true false z b e f k = k
second_decides false y z b e f k = cc

-- ---- a step that leads to the right, and a point within its range of x
-- the height over a line, from its right end
pub from_right : (a b c d x y w : ℤ) → (c -ℤ a) *ℤ (y -ℤ b *ℤ w) -ℤ (d -ℤ b) *ℤ (x -ℤ a *ℤ w) ≡ (d -ℤ b) *ℤ (c *ℤ w -ℤ x) -ℤ (c -ℤ a) *ℤ (d *ℤ w -ℤ y)
from_right a b c d x y w = rw (split a, split b, split c, split d, split x, split y, split w) (simp differences (same _ _ _ _ (omega arith)))

-- where one of two products is 0 and the other one is as large
other_factor : (a y b x : ℤ) → pos 0 <ℤ a → x ≡ pos 0 → a *ℤ y -ℤ b *ℤ x ≡ pos 0 → y ≡ pos 0
other_factor a y b x wide none level =
    let nothing : b *ℤ x ≡ pos 0 = ap (λ z. b *ℤ z) none ∙ *ℤ-zero b in
    let product : a *ℤ y ≡ pos 0 = omega (arith, ints, nothing, level) in
    zero_factor y a wide (*ℤ_comm y a ∙ product)

other_second : (a y b x : ℤ) → pos 0 <ℤ a → x ≡ pos 0 → b *ℤ x -ℤ a *ℤ y ≡ pos 0 → y ≡ pos 0
other_second a y b x wide none level =
    let nothing : b *ℤ x ≡ pos 0 = ap (λ z. b *ℤ z) none ∙ *ℤ-zero b in
    let product : a *ℤ y ≡ pos 0 = omega (arith, ints, nothing, level) in
    zero_factor y a wide (*ℤ_comm y a ∙ product)

module _ (s : Segment) (p : Point) (wide : s.left.x <ℤ s.right.x) (after : (s.left.x *ℤ p.w) ≤ℤ p.x) (before : p.x ≤ℤ (s.right.x *ℤ p.w)) where
  spread : pos 0 <ℤ (s.right.x -ℤ s.left.x)
  spread = omega (arith, ints)

  level_left : height_over s p ≡ pos 0 → NotBack (p.x -ℤ s.left.x *ℤ p.w) (p.y -ℤ s.left.y *ℤ p.w)
  level_left level =
      by_lt_z (s.left.x *ℤ p.w) p.x (λ l. inl (omega (arith, ints)))
      (λ l. let none : p.x -ℤ s.left.x *ℤ p.w ≡ pos 0 = omega (arith, ints) in
      let same : p.y -ℤ s.left.y *ℤ p.w ≡ pos 0 = other_factor (s.right.x -ℤ s.left.x) (p.y -ℤ s.left.y *ℤ p.w) (s.right.y -ℤ s.left.y) (p.x -ℤ s.left.x *ℤ p.w) spread none level in
      inr (none, omega (arith, ints, same)))

  level_right : height_over s p ≡ pos 0 → NotBack (s.right.x *ℤ p.w -ℤ p.x) (s.right.y *ℤ p.w -ℤ p.y)
  level_right level =
      by_lt_z p.x (s.right.x *ℤ p.w) (λ l. inl (omega (arith, ints)))
      (λ l. let none : s.right.x *ℤ p.w -ℤ p.x ≡ pos 0 = omega (arith, ints) in
      let same : s.right.y *ℤ p.w -ℤ p.y ≡ pos 0 =
      other_second (s.right.x -ℤ s.left.x) (s.right.y *ℤ p.w -ℤ p.y) (s.right.y -ℤ s.left.y) (s.right.x *ℤ p.w -ℤ p.x) spread none
      (sym (from_right s.left.x s.left.y s.right.x s.right.y p.x p.y p.w) ∙ level) in
      inr (none, omega (arith, ints, same)))

  level_on : height_over s p ≡ pos 0 → true ≡ is_on s p
  level_on level = sym (is_reached s p (record { level = level; from_left = level_left level; to_right = level_right level }))

  off_level : (height_over s p ≡ pos 0 → ⊥) → false ≡ is_on s p
  off_level h = not_true (is_on s p) (λ t. h (reached s p t).level)

  not_over : (pos 0 <ℤ height_over s p → ⊥) → false ≡ is_below s p
  not_over h = not_true (is_below s p) (λ t. h (lt_true (pos 0) (height_over s p) (and3_parts (int_le (s.left.x *ℤ p.w) p.x) (int_lt p.x (s.right.x *ℤ p.w)) (int_lt (pos 0) (height_over s p)) t).2))

  over_below : pos 0 <ℤ height_over s p → int_lt p.x (s.right.x *ℤ p.w) ≡ is_below s p
  over_below h = second_decides _ _ _ _ (true_le (s.left.x *ℤ p.w) p.x after) (true_lt (pos 0) (height_over s p) h) refl

-- which side a point lies on, by name
less_side : (z : ℤ) (o : Ordering) → o ≡ Less → MatchOrdering o (z <ℤ pos 0) (z ≡ pos 0) (pos 0 <ℤ z) → z <ℤ pos 0
less_side z Less e m = m
less_side z Equal e m = cc
less_side z Greater e m = cc

equal_side : (z : ℤ) (o : Ordering) → o ≡ Equal → MatchOrdering o (z <ℤ pos 0) (z ≡ pos 0) (pos 0 <ℤ z) → z ≡ pos 0
equal_side z Less e m = cc
equal_side z Equal e m = m
equal_side z Greater e m = cc

more_side : (z : ℤ) (o : Ordering) → o ≡ Greater → MatchOrdering o (z <ℤ pos 0) (z ≡ pos 0) (pos 0 <ℤ z) → pos 0 <ℤ z
more_side z Less e m = cc
more_side z Equal e m = cc
more_side z Greater e m = m

pub is_under : (s : Segment) (p : Point) → side_of s p ≡ Less → height_over s p <ℤ pos 0
is_under s p e = less_side (height_over s p) (side_of s p) e (int_ranks (height_over s p) (pos 0))

pub is_level : (s : Segment) (p : Point) → side_of s p ≡ Equal → height_over s p ≡ pos 0
is_level s p e = equal_side (height_over s p) (side_of s p) e (int_ranks (height_over s p) (pos 0))

pub is_over : (s : Segment) (p : Point) → side_of s p ≡ Greater → pos 0 <ℤ height_over s p
is_over s p e = more_side (height_over s p) (side_of s p) e (int_ranks (height_over s p) (pos 0))

-- what is seen, by the side
pub record IsSeen (s : Segment) (p : Point) (on below : Bool) : Type 0 where
  pub on_is : on ≡ is_on s p
  pub below_is : below ≡ is_below s p

module _ (s : Segment) (p : Point) (wide : s.left.x <ℤ s.right.x) (after : (s.left.x *ℤ p.w) ≤ℤ p.x) (before : p.x ≤ℤ (s.right.x *ℤ p.w)) where
  pub seen_under : side_of s p ≡ Less → IsSeen s p false false
  seen_under e =
      let h = is_under s p e in
      record { on_is = off_level s p wide after before (λ k. omega (arith, ints, h, k)); below_is = not_over s p wide after before (λ k. omega (arith, ints, h, k)) }

  pub seen_level : side_of s p ≡ Equal → IsSeen s p true false
  seen_level e =
      let h = is_level s p e in
      record { on_is = level_on s p wide after before h; below_is = not_over s p wide after before (λ k. omega (arith, ints, h, k)) }

  pub seen_over : side_of s p ≡ Greater → IsSeen s p false (int_lt p.x (s.right.x *ℤ p.w))
  seen_over e =
      let h = is_over s p e in
      record { on_is = off_level s p wide after before (λ k. omega (arith, ints, h, k)); below_is = over_below s p wide after before h }

-- ---- an upright step, or none
same_spot : (a : WholePoint) (p : Point) → a.x *ℤ p.w ≡ p.x → a.y *ℤ p.w ≡ p.y → true ≡ same_place (whole a) p
same_spot a p e f =
    let x : int_eq (a.x *ℤ p.w) (p.x *ℤ pos 1) ≡ true = (Decides-int_eq (a.x *ℤ p.w) (p.x *ℤ pos 1)).1 (e ∙ sym (times_one p.x)) in
    let y : int_eq (a.y *ℤ p.w) (p.y *ℤ pos 1) ≡ true = (Decides-int_eq (a.y *ℤ p.w) (p.y *ℤ pos 1)).1 (f ∙ sym (times_one p.y)) in
    sym (ap (λ b. b && int_eq (a.y *ℤ p.w) (p.y *ℤ pos 1)) x ∙ y)

and_parts : (x y : Bool) → (x && y) ≡ true → (x ≡ true) × (y ≡ true)
and_parts true true e = (refl, refl)
and_parts true false e = cc
and_parts false y e = cc

pub is_spot : (a : WholePoint) (p : Point) → IsTrue (same_place (whole a) p) → (a.x *ℤ p.w ≡ p.x) × (a.y *ℤ p.w ≡ p.y)
is_spot a p t =
    let parts = and_parts (int_eq (a.x *ℤ p.w) (p.x *ℤ pos 1)) (int_eq (a.y *ℤ p.w) (p.y *ℤ pos 1)) t in
    ((Decides-int_eq (a.x *ℤ p.w) (p.x *ℤ pos 1)).0 parts.0 ∙ times_one p.x, (Decides-int_eq (a.y *ℤ p.w) (p.y *ℤ pos 1)).0 parts.1 ∙ times_one p.y)

-- the numbers of a point on an upright step
pub record IsAlong (a b : WholePoint) (p : Point) : Type 0 where
  pub at_x : p.x ≡ a.x *ℤ p.w
  pub from_low : (a.y *ℤ p.w) ≤ℤ p.y
  pub to_high : p.y ≤ℤ (b.y *ℤ p.w)

upright_level : (a b : WholePoint) (p : Point) → a.x ≡ b.x → p.x ≡ a.x *ℤ p.w → height_over (record { left = a; right = b }) p ≡ pos 0
upright_level a b p same at =
    let flat : b.x -ℤ a.x ≡ pos 0 = omega (arith, ints, same) in
    let none : p.x -ℤ a.x *ℤ p.w ≡ pos 0 = omega (arith, ints, at) in
    let first : (b.x -ℤ a.x) *ℤ (p.y -ℤ a.y *ℤ p.w) ≡ pos 0 = ap (λ z. z *ℤ (p.y -ℤ a.y *ℤ p.w)) flat ∙ zero-*ℤ (p.y -ℤ a.y *ℤ p.w) in
    let second : (b.y -ℤ a.y) *ℤ (p.x -ℤ a.x *ℤ p.w) ≡ pos 0 = ap (λ z. (b.y -ℤ a.y) *ℤ z) none ∙ *ℤ-zero (b.y -ℤ a.y) in
    omega (arith, ints, first, second)

upright_on : (a b : WholePoint) (p : Point) → a.x ≡ b.x → IsAlong a b p → true ≡ is_on (record { left = a; right = b }) p
upright_on a b p same along = sym (is_reached (record { left = a; right = b }) p (record {
  level = upright_level a b p same along.at_x;
  from_left = inr (omega (arith, ints, along.at_x), omega (arith, ints, along.from_low));
  to_right = inr ((let e : b.x *ℤ p.w ≡ p.x = ap (λ z. z *ℤ p.w) (sym same) ∙ sym along.at_x in omega (arith, ints, e)), omega (arith, ints, along.to_high));
}))

on_upright : (a b : WholePoint) (p : Point) → a.x ≡ b.x → a.y <ℤ b.y → IsTrue (is_on (record { left = a; right = b }) p) → IsAlong a b p
on_upright a b p same up t =
    let r = reached (record { left = a; right = b }) p t in
    let flat : b.x -ℤ a.x ≡ pos 0 = omega (arith, ints, same) in
    let first : (b.x -ℤ a.x) *ℤ (p.y -ℤ a.y *ℤ p.w) ≡ pos 0 = ap (λ z. z *ℤ (p.y -ℤ a.y *ℤ p.w)) flat ∙ zero-*ℤ (p.y -ℤ a.y *ℤ p.w) in
    let product : (b.y -ℤ a.y) *ℤ (p.x -ℤ a.x *ℤ p.w) ≡ pos 0 = omega (arith, ints, first, r.level) in
    let none : p.x -ℤ a.x *ℤ p.w ≡ pos 0 = zero_factor (p.x -ℤ a.x *ℤ p.w) (b.y -ℤ a.y) (omega (arith, ints, up)) (*ℤ_comm (p.x -ℤ a.x *ℤ p.w) (b.y -ℤ a.y) ∙ product) in
    let at : p.x ≡ a.x *ℤ p.w = omega (arith, ints, none) in
    let end : b.x *ℤ p.w -ℤ p.x ≡ pos 0 = let e : b.x *ℤ p.w ≡ p.x = ap (λ z. z *ℤ p.w) (sym same) ∙ sym at in omega (arith, ints, e) in
    record { at_x = at; from_low = low r.from_left none; to_high = high r.to_right end }
  where
    low : NotBack (p.x -ℤ a.x *ℤ p.w) (p.y -ℤ a.y *ℤ p.w) → p.x -ℤ a.x *ℤ p.w ≡ pos 0 → (a.y *ℤ p.w) ≤ℤ p.y
    low (inl k) e = absurd (omega (arith, ints, k, e))
    low (inr k) e = omega (arith, ints, k.1)

    high : NotBack (b.x *ℤ p.w -ℤ p.x) (b.y *ℤ p.w -ℤ p.y) → b.x *ℤ p.w -ℤ p.x ≡ pos 0 → p.y ≤ℤ (b.y *ℤ p.w)
    high (inl k) e = absurd (omega (arith, ints, k, e))
    high (inr k) e = omega (arith, ints, k.1)

-- a step that leads up or nowhere has the points along it
pub along_on : (a b : WholePoint) (p : Point) → a.x ≡ b.x → a.y ≤ℤ b.y → IsAlong a b p → true ≡ is_on_step p (a, b)
along_on a b p same up along =
    by_lt_z a.y b.y
    (λ l. upright_on a b p same along ∙ ap (is_on_way p a) (sym (up_step a b same l)))
    (λ l. let level : a.y ≡ b.y = omega (arith, ints, up, l) in
    let at : a.y *ℤ p.w ≡ p.y = let e : b.y *ℤ p.w ≡ a.y *ℤ p.w = ap (λ z. z *ℤ p.w) (sym level) in omega (arith, ints, e, along.from_low, along.to_high) in
    same_spot a p (sym along.at_x) at ∙ ap (is_on_way p a) (sym (no_step a b same level)))

pub on_along : (a b : WholePoint) (p : Point) → a.x ≡ b.x → a.y ≤ℤ b.y → IsTrue (is_on_step p (a, b)) → IsAlong a b p
on_along a b p same up t =
    by_lt_z a.y b.y
    (λ l. on_upright a b p same l (subst (λ o. IsTrue (is_on_way p a o)) (up_step a b same l) t))
    (λ l. let level : a.y ≡ b.y = omega (arith, ints, up, l) in
    let spot = is_spot a p (subst (λ o. IsTrue (is_on_way p a o)) (no_step a b same level) t) in
    let end : b.y *ℤ p.w ≡ p.y = ap (λ z. z *ℤ p.w) (sym level) ∙ spot.1 in
    record { at_x = sym spot.0; from_low = omega (arith, ints, spot.1); to_high = omega (arith, ints, end) })

pub off_step : (a b : WholePoint) (p : Point) → a.x ≡ b.x → a.y ≤ℤ b.y → (IsAlong a b p → ⊥) → false ≡ is_on_step p (a, b)
off_step a b p same up h = not_true (is_on_step p (a, b)) (λ t. h (on_along a b p same up t))

-- an upright step is below no point
narrow : (a b : WholePoint) (p : Point) → a.x ≡ b.x → false ≡ is_below (record { left = a; right = b }) p
narrow a b p same = not_true (is_below (record { left = a; right = b }) p) (λ t.
    let parts = and3_parts (int_le (a.x *ℤ p.w) p.x) (int_lt p.x (b.x *ℤ p.w)) (int_lt (pos 0) (height_over (record { left = a; right = b }) p)) t in
    let e : b.x *ℤ p.w ≡ a.x *ℤ p.w = ap (λ z. z *ℤ p.w) (sym same) in
    omega (arith, ints, e, le_true (a.x *ℤ p.w) p.x parts.0, lt_true p.x (b.x *ℤ p.w) parts.1))

pub none_below : (a b : WholePoint) (p : Point) → a.x ≡ b.x → a.y ≤ℤ b.y → false ≡ is_step_below p (a, b)
none_below a b p same up =
    by_lt_z a.y b.y
    (λ l. narrow a b p same ∙ ap (is_way_below p) (sym (up_step a b same l)))
    (λ l. ap (is_way_below p) (sym (no_step a b same (omega (arith, ints, up, l)))))

-- ---- what the code's tests say
no_less : (x y : ℤ) → int_lt x y ≡ false → y ≤ℤ x
no_less x y e = by_lt_z x y (λ l. let t : int_lt x y ≡ true = true_lt x y l in absurd (cc)) (λ l. l)

pub yes : (r : Bool) (x y : ℤ) → r ≡ int_lt x y → r ≡ true → x <ℤ y
yes r x y e t = lt_true x y (sym e ∙ t)

pub no : (r : Bool) (x y : ℤ) → r ≡ int_lt x y → r ≡ false → y ≤ℤ x
no r x y e t = no_less x y (sym e ∙ t)

-- the same of a number that may be missing
pub some_is : (o : Option ℤ) (s t : ℤ) → s ≡ t → IfSome o (λ z. z ≡ s) → IfSome o (λ z. z ≡ t)
some_is (Some v) s t e h = h ∙ e
some_is None s t e h = tt

-- ---- what is seen of a step, by where it leads
module _ {A : Type 0} (f : A → Bool) (a b : WholePoint) (p : Point) where
  pub right_on : (o : Option A) → a.x <ℤ b.x → IfSome o (λ v. f v ≡ is_on (record { left = a; right = b }) p) → IfSome o (λ v. f v ≡ is_on_step p (a, b))
  right_on (Some v) h k = k ∙ ap (is_on_way p a) (sym (right_step a b h))
  right_on None h k = tt

  pub right_below : (o : Option A) → a.x <ℤ b.x → IfSome o (λ v. f v ≡ is_below (record { left = a; right = b }) p) → IfSome o (λ v. f v ≡ is_step_below p (a, b))
  right_below (Some v) h k = k ∙ ap (is_way_below p) (sym (right_step a b h))
  right_below None h k = tt

  pub left_on : (o : Option A) → b.x <ℤ a.x → IfSome o (λ v. f v ≡ is_on (record { left = b; right = a }) p) → IfSome o (λ v. f v ≡ is_on_step p (a, b))
  left_on (Some v) h k = k ∙ ap (is_on_way p a) (sym (left_step a b h))
  left_on None h k = tt

  pub left_below : (o : Option A) → b.x <ℤ a.x → IfSome o (λ v. f v ≡ is_below (record { left = b; right = a }) p) → IfSome o (λ v. f v ≡ is_step_below p (a, b))
  left_below (Some v) h k = k ∙ ap (is_way_below p) (sym (left_step a b h))
  left_below None h k = tt

-- an upright step is seen the same both ways
pub down_on : (a b : WholePoint) (p : Point) → a.x ≡ b.x → b.y <ℤ a.y → is_on_step p (b, a) ≡ is_on_step p (a, b)
down_on a b p h k = ap (is_on_way p b) (up_step b a (sym h) k) ∙ ap (is_on_way p a) (sym (down_step a b h k))

pub down_below : (a b : WholePoint) (p : Point) → a.x ≡ b.x → b.y <ℤ a.y → is_step_below p (b, a) ≡ is_step_below p (a, b)
down_below a b p h k = ap (is_way_below p) (up_step b a (sym h) k) ∙ ap (is_way_below p) (sym (down_step a b h k))

-- numbers by the code's tests
pub less_read : (x y u v : ℤ) → u ≡ x → v ≡ y → int_lt u v ≡ true → x <ℤ y
less_read x y u v e f t = lt_true x y ((λ i. int_lt (sym e i) (sym f i)) ∙ t)

pub equal_read : (x y u v : ℤ) → u ≡ x → v ≡ y → int_lt u v ≡ false → int_lt v u ≡ false → x ≡ y
equal_read x y u v e f s t =
    let low : y ≤ℤ x = no_less x y ((λ i. int_lt (sym e i) (sym f i)) ∙ s) in
    let high : x ≤ℤ y = no_less y x ((λ i. int_lt (sym f i) (sym e i)) ∙ t) in
    omega (arith, ints, low, high)
