-- What a point sees of segments whose ranges it lies outside of.
use Rattle.std.proofs.Common.{◌≡◌, inl, inr, ℤ, pos, ◌*ℤ◌, ◌<ℤ◌, ◌≤ℤ◌, refl, ap, sym, ◌∙◌, arith, true, false, Bool, ◌&&◌, List, [], ◌∷◌, ◌+◌, ◌%◌, ◌==◌, count_by}
use Rattle.std.proofs.lemmas.Int.{ints, by_lt_z}
use Rattle.std.specs.Prelude.{int_lt, int_le}
use Rattle.std.specs.List.{list_any, AllByRecursion}
use Rattle.overlay_terms.specs.Plane.{Point, Segment, is_below, is_on}
use Rattle.overlay_terms.proofs.Difference.{mul_mono}
use Rattle.overlay_terms.proofs.ClosedRings.{bit, count-cons}
use Rattle.overlay_terms.proofs.InputNumbers.{true_le}
use Rattle.point_looks.specs.Floor.{IsFloor}
use Rattle.point_looks.proofs.LookLemmas.{below_behind, on_behind, below_before, on_before, below_lower, on_lower, below_higher, on_higher, past_floor, up_to_floor}
use Rattle.plane_base.specs.Bounds.{Holds}
use Rattle.plane_base.specs.declared.bounds.Bounds.{Bounds}
use Rattle.point_looks.specs.Outside.{Misses, IsOver, reaches}
use Rattle.exact_point.proofs.Tests.{lt_no, le_no}

-- two tests joined, where one is known
first_fails : (x y : Bool) → x ≡ false → (x && y) ≡ false
first_fails x y e = ap (λ b. b && y) e

second_fails : (x y : Bool) → y ≡ false → (x && y) ≡ false
second_fails true y e = e
second_fails false y e = refl

first_holds : (x y : Bool) → x ≡ true → (x && y) ≡ y
first_holds x y e = ap (λ b. b && y) e

-- by x, a whole number against a point and the greatest whole number that is at most its x
begins : (n x w a : ℤ) → pos 0 <ℤ w → IsFloor n x w → x <ℤ (a *ℤ w) → n <ℤ a
begins n x w a positive h l = by_lt_z n a (λ k. k) (λ k. absurd (omega (arith, ints, up_to_floor n x w a positive h k)))

ends : (n x w a : ℤ) → pos 0 <ℤ w → IsFloor n x w → (a *ℤ w) ≤ℤ x → a ≤ℤ n
ends n x w a positive h l = by_lt_z n a (λ k. absurd (omega (arith, ints, past_floor n x w a positive h k))) (λ k. k)

module _ (b : Bounds) (s : Segment) (p : Point) (positive : pos 0 <ℤ p.w) (held : Holds b s) where
  low_x : (b.low_x *ℤ p.w) ≤ℤ (s.left.x *ℤ p.w)
  low_x = mul_mono b.low_x s.left.x p.w (omega (arith, ints)) held.left_x

  high_x : (s.right.x *ℤ p.w) ≤ℤ (b.high_x *ℤ p.w)
  high_x = mul_mono s.right.x b.high_x p.w (omega (arith, ints)) held.right_x

  low_left : (b.low_y *ℤ p.w) ≤ℤ (s.left.y *ℤ p.w)
  low_left = mul_mono b.low_y s.left.y p.w (omega (arith, ints)) held.left_low

  low_right : (b.low_y *ℤ p.w) ≤ℤ (s.right.y *ℤ p.w)
  low_right = mul_mono b.low_y s.right.y p.w (omega (arith, ints)) held.right_low

  high_left : (s.left.y *ℤ p.w) ≤ℤ (b.high_y *ℤ p.w)
  high_left = mul_mono s.left.y b.high_y p.w (omega (arith, ints)) held.left_high

  high_right : (s.right.y *ℤ p.w) ≤ℤ (b.high_y *ℤ p.w)
  high_right = mul_mono s.right.y b.high_y p.w (omega (arith, ints)) held.right_high

  -- a segment that the point misses
  below_missed : Misses b p → false ≡ is_below s p
  below_missed (inl m) = below_behind s p (omega (arith, ints, m, low_x))
  below_missed (inr (inl m)) = below_before s p (omega (arith, ints, m, high_x))
  below_missed (inr (inr m)) =
      by_lt_z p.x (s.left.x *ℤ p.w) (below_behind s p) (λ after.
      by_lt_z (s.right.x *ℤ p.w) p.x (below_before s p) (λ before.
      below_lower s p positive after before (omega (arith, ints, m, low_left)) (omega (arith, ints, m, low_right))))

  on_missed : Misses b p → false ≡ is_on s p
  on_missed (inl m) = on_behind s p (omega (arith, ints, m, low_x))
  on_missed (inr (inl m)) = on_before s p (omega (arith, ints, m, high_x))
  on_missed (inr (inr m)) =
      by_lt_z p.x (s.left.x *ℤ p.w) (on_behind s p) (λ after.
      by_lt_z (s.right.x *ℤ p.w) p.x (on_before s p) (λ before.
      on_lower s p positive after before (omega (arith, ints, m, low_left)) (omega (arith, ints, m, low_right))))

  -- a segment that lies lower than the point: it is below where it reaches over the point's x, and does not hold it
  below_reached : (n : ℤ) → IsFloor n p.x p.w → IsOver b p → reaches n s ≡ is_below s p
  below_reached n h m =
      by_lt_z p.x (s.left.x *ℤ p.w)
      (λ l. first_fails (int_le s.left.x n) (int_lt n s.right.x) (le_no s.left.x n (begins n p.x p.w s.left.x positive h l)) ∙ below_behind s p l)
      (λ after. by_lt_z (s.right.x *ℤ p.w) p.x
      (λ l. second_fails (int_le s.left.x n) (int_lt n s.right.x) (lt_no n s.right.x (ends n p.x p.w s.right.x positive h (omega (arith, ints, l)))) ∙ below_before s p l)
      (λ before. first_holds (int_le s.left.x n) (int_lt n s.right.x) (true_le s.left.x n (ends n p.x p.w s.left.x positive h after))
      ∙ below_higher s p positive after before n h (omega (arith, ints, m, high_left)) (omega (arith, ints, m, high_right))))

  on_lower_one : IsOver b p → false ≡ is_on s p
  on_lower_one m =
      by_lt_z p.x (s.left.x *ℤ p.w) (on_behind s p) (λ after.
      by_lt_z (s.right.x *ℤ p.w) p.x (on_before s p) (λ before.
      on_higher s p positive after before (omega (arith, ints, m, high_left)) (omega (arith, ints, m, high_right))))

-- the same of all segments within ranges
module _ (b : Bounds) (p : Point) (positive : pos 0 <ℤ p.w) where
  none_below : Misses b p → (xs : List Segment) → AllByRecursion (Holds b) xs → count_by (λ s. is_below s p) xs ≡ 0
  none_below m [] h = refl
  none_below m (x ∷ xs) h = rw (sym (below_missed b x p positive h.0 m)) (none_below m xs h.1)

  pub none_inside : Misses b p → (xs : List Segment) → AllByRecursion (Holds b) xs → false ≡ (count_by (λ s. is_below s p) xs % 2 == 1)
  none_inside m xs h = sym (ap (λ n. n % 2 == 1) (none_below m xs h))

  pub none_on : Misses b p → (xs : List Segment) → AllByRecursion (Holds b) xs → false ≡ list_any (λ s. is_on s p) xs
  none_on m [] h = refl
  none_on m (x ∷ xs) h = rw (sym (on_missed b x p positive h.0 m)) (none_on m xs h.1)

  all_below : (n : ℤ) → IsFloor n p.x p.w → IsOver b p → (xs : List Segment) → AllByRecursion (Holds b) xs → count_by (reaches n) xs ≡ count_by (λ s. is_below s p) xs
  all_below n f m [] h = refl
  all_below n f m (x ∷ xs) h =
      count-cons (reaches n) x xs
      ∙ ap (λ t. bit t + count_by (reaches n) xs) (below_reached b x p positive h.0 n f m)
      ∙ ap (λ k. bit (is_below x p) + k) (all_below n f m xs h.1)
      ∙ sym (count-cons (λ s. is_below s p) x xs)

  pub as_many_inside : (n : ℤ) → IsFloor n p.x p.w → IsOver b p → (xs : List Segment) → AllByRecursion (Holds b) xs → (count_by (reaches n) xs % 2 == 1) ≡ (count_by (λ s. is_below s p) xs % 2 == 1)
  as_many_inside n f m xs h = ap (λ k. k % 2 == 1) (all_below n f m xs h)

  pub none_on_lower : IsOver b p → (xs : List Segment) → AllByRecursion (Holds b) xs → false ≡ list_any (λ s. is_on s p) xs
  none_on_lower m [] h = refl
  none_on_lower m (x ∷ xs) h = rw (sym (on_lower_one b x p positive h.0 m)) (none_on_lower m xs h.1)
