-- Lying on a segment, for points with whole coordinates.
use Rattle.std.specs.Prelude.{◌≡◌, ℤ, pos, ◌-ℤ◌, ◌*ℤ◌, ◌<ℤ◌, ◌≤ℤ◌, ◌&&◌, false, int_le, IsTrue}
use Rattle.std.specs.Ordering.{int_eq}
use Rattle.std.specs.Cmp.{both_ways}
use Rattle.std.proofs.Common.{ap, sym, ◌∙◌, arith, inl, inr}
use Rattle.std.proofs.lemmas.Bool.{and_parts, and_from, false_from_ne_true}
use Rattle.std.proofs.lemmas.Bool.Decides.{Decides-int_eq}
use Rattle.std.proofs.lemmas.Int.{ints, by_lt_z}
use Rattle.std.proofs.Math.IntN.{*ℤ_comm, *ℤ-zero, zero-*ℤ}
use Rattle.overlay_terms.specs.Plane.{Point, Segment, height_over, is_on}
use Rattle.overlay_terms.proofs.Difference.{split, differences, same}
use Rattle.overlay_terms.proofs.InputNumbers.{le_true, true_le}
use Rattle.exact_point.proofs.Lexical.{NotBack}
use Rattle.exact_point.proofs.OnSegment.{reached, is_reached}
use Rattle.exact_point.proofs.Signs.{zero_factor}

-- a whole point by its coordinates
abbrev pub at : ℤ → ℤ → Point
at x y = record { x = x; y = y; w = pos 1 }

-- what lies not back has its x not before
not_back_x : (x y : ℤ) → NotBack x y → pos 0 ≤ℤ x
not_back_x x y (inl l) = omega (arith, ints)
not_back_x x y (inr (e, l)) = omega (arith, ints)

-- nor its y, where both have one x
not_back_y : (x y : ℤ) → x ≡ pos 0 → NotBack x y → pos 0 ≤ℤ y
not_back_y x y e (inl l) = absurd (omega (arith, ints))
not_back_y x y e (inr (f, l)) = l

pub off_left : (s : Segment) (x y : ℤ) → s.right.x <ℤ x → is_on s (at x y) ≡ false
off_left s x y h =
    false_from_ne_true (is_on s (at x y)) (λ t. let back : pos 0 ≤ℤ (s.right.x *ℤ pos 1 -ℤ x) = not_back_x _ _ (reached s (at x y) t).to_right in absurd (omega (arith, ints)))

-- ---- a slanted segment
-- over the left end the height is the width times how far the point lies above that end
left_factor : (w h y l d : ℤ) → d ≡ pos 0 → pos 0 <ℤ w → (w *ℤ (y -ℤ l)) -ℤ (h *ℤ d) ≡ pos 0 → y -ℤ l ≡ pos 0
left_factor w h y l d e up level =
    let none : h *ℤ d ≡ pos 0 = ap (λ z. h *ℤ z) e ∙ *ℤ-zero h in
    let turned : (y -ℤ l) *ℤ w ≡ w *ℤ (y -ℤ l) = *ℤ_comm (y -ℤ l) w in
    zero_factor (y -ℤ l) w up (omega (arith, ints))

right_height : (w y l m : ℤ) → (w *ℤ (y -ℤ l)) -ℤ ((m -ℤ l) *ℤ w) ≡ (y -ℤ m) *ℤ w
right_height w y l m = rw (split w, split y, split l, split m) (simp differences (same _ _ _ _ (omega arith)))

-- over the right end it is the width times how far the point lies above that one
right_factor : (w y l m d : ℤ) → d ≡ w → pos 0 <ℤ w → (w *ℤ (y -ℤ l)) -ℤ ((m -ℤ l) *ℤ d) ≡ pos 0 → y -ℤ m ≡ pos 0
right_factor w y l m d e up level =
    zero_factor (y -ℤ m) w up (sym (right_height w y l m) ∙ ap (λ z. (w *ℤ (y -ℤ l)) -ℤ ((m -ℤ l) *ℤ z)) (sym e) ∙ level)

module _ (s : Segment) (x y : ℤ) (wide : s.left.x <ℤ s.right.x) (low : s.left.x ≤ℤ x) (high : x ≤ℤ s.right.x) (level : height_over s (at x y) ≡ pos 0) where
  up : pos 0 <ℤ (s.right.x -ℤ s.left.x)
  up = omega (arith, ints)

  from : NotBack (x -ℤ s.left.x *ℤ pos 1) (y -ℤ s.left.y *ℤ pos 1)
  from =
      by_lt_z s.left.x x (λ l. inl (omega (arith, ints)))
      (λ l.
      let d : x -ℤ s.left.x *ℤ pos 1 ≡ pos 0 = omega (arith, ints) in
      let z : y -ℤ s.left.y *ℤ pos 1 ≡ pos 0 = left_factor (s.right.x -ℤ s.left.x) (s.right.y -ℤ s.left.y) y (s.left.y *ℤ pos 1) (x -ℤ s.left.x *ℤ pos 1) d up level in
      inr (d, omega (arith, ints)))

  one_l : s.left.y *ℤ pos 1 ≡ s.left.y
  one_l = omega (arith, ints)

  to : NotBack (s.right.x *ℤ pos 1 -ℤ x) (s.right.y *ℤ pos 1 -ℤ y)
  to =
      by_lt_z x s.right.x (λ l. inl (omega (arith, ints)))
      (λ l.
      let d : x -ℤ s.left.x *ℤ pos 1 ≡ s.right.x -ℤ s.left.x = omega (arith, ints) in
      let z : y -ℤ s.right.y ≡ pos 0 = right_factor (s.right.x -ℤ s.left.x) y s.left.y s.right.y (x -ℤ s.left.x *ℤ pos 1) d up
      (ap (λ v. ((s.right.x -ℤ s.left.x) *ℤ (y -ℤ v)) -ℤ ((s.right.y -ℤ s.left.y) *ℤ (x -ℤ s.left.x *ℤ pos 1))) (sym one_l) ∙ level) in
      inr (omega (arith, ints), omega (arith, ints)))

  holds : IsTrue (is_on s (at x y))
  holds = is_reached s (at x y) (record { level = level; from_left = from; to_right = to })

-- between its ends a slanted segment holds the points on its line
pub on_slanted : (s : Segment) (x y : ℤ) → s.left.x <ℤ s.right.x → s.left.x ≤ℤ x → x ≤ℤ s.right.x → is_on s (at x y) ≡ int_eq (height_over s (at x y)) (pos 0)
on_slanted s x y wide low high =
    both_ways (is_on s (at x y)) (int_eq (height_over s (at x y)) (pos 0))
    (λ t. (Decides-int_eq (height_over s (at x y)) (pos 0)).1 (reached s (at x y) t).level)
    (λ t. holds s x y wide low high ((Decides-int_eq (height_over s (at x y)) (pos 0)).0 t))

-- ---- an upright segment
flat : (w h u d : ℤ) → w ≡ pos 0 → d ≡ pos 0 → (w *ℤ u) -ℤ (h *ℤ d) ≡ pos 0
flat w h u d e f =
    let a : w *ℤ u ≡ pos 0 = ap (λ z. z *ℤ u) e ∙ zero-*ℤ u in
    let b : h *ℤ d ≡ pos 0 = ap (λ z. h *ℤ z) f ∙ *ℤ-zero h in
    omega (arith, ints)

-- an upright segment over x holds the points between its ends
pub on_upright : (s : Segment) (x y : ℤ) → s.left.x ≡ s.right.x → x ≡ s.left.x → (int_le s.left.y y && int_le y s.right.y) ≡ is_on s (at x y)
on_upright s x y upright over =
    both_ways (int_le s.left.y y && int_le y s.right.y) (is_on s (at x y))
    (λ t.
    let parts = and_parts (int_le s.left.y y) (int_le y s.right.y) t in
    let low : s.left.y ≤ℤ y = le_true s.left.y y parts.0 in
    let high : y ≤ℤ s.right.y = le_true y s.right.y parts.1 in
    is_reached s (at x y) (record {
      level = flat (s.right.x -ℤ s.left.x) (s.right.y -ℤ s.left.y) (y -ℤ s.left.y *ℤ pos 1) (x -ℤ s.left.x *ℤ pos 1) (omega (arith, ints)) (omega (arith, ints));
      from_left = inr (omega (arith, ints), omega (arith, ints));
      to_right = inr (omega (arith, ints), omega (arith, ints));
    }))
    (λ t.
    let all = reached s (at x y) t in
    let low : pos 0 ≤ℤ (y -ℤ s.left.y *ℤ pos 1) = not_back_y (x -ℤ s.left.x *ℤ pos 1) (y -ℤ s.left.y *ℤ pos 1) (omega (arith, ints)) all.from_left in
    let high : pos 0 ≤ℤ (s.right.y *ℤ pos 1 -ℤ y) = not_back_y (s.right.x *ℤ pos 1 -ℤ x) (s.right.y *ℤ pos 1 -ℤ y) (omega (arith, ints)) all.to_right in
    and_from (int_le s.left.y y) (int_le y s.right.y) (true_le s.left.y y (omega (arith, ints))) (true_le y s.right.y (omega (arith, ints))))
