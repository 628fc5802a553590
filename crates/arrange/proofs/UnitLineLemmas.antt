-- A stretch and the segment that covers it have one line, and the same ends along it.
use Rattle.std.proofs.Common.{◌≡◌, ℤ, pos, ◌*ℤ◌, ◌&&◌, ◌||◌, ◌⊎◌, inl, inr, true, List, refl, ap, ◌∙◌, subst, arith}
use Rattle.std.specs.Prelude.{IsTrue, Contains}
use Rattle.std.specs.Ordering.{int_eq, int_cmp, ordering_then}
use Rattle.std.proofs.lemmas.Int.{ints}
use Rattle.std.proofs.lemmas.Bool.{and_parts, and_from, or_cases, or_left, or_right}
use Rattle.std.proofs.lemmas.List.Folds.{Any-from_list_any, list_any-from_Any}
use Rattle.std.specs.declared.cmp.Ordering.TheVariants.{Less}
use Rattle.overlay_terms.specs.Plane.{WholePoint, Segment, whole, whole_cmp, same_whole, point_cmp, height_over, is_on}
use Rattle.overlay_terms.specs.Layers.{Marked}
use Rattle.overlay_terms.proofs.Lists.{any_from, any_contains}
use Rattle.overlay_terms.proofs.PointOrder.{same_points}
use Rattle.exact_point.specs.Crossing.{turn_of}
use Rattle.exact_point.proofs.OnLine.{parallel_line, on_line, left_on_line, no_turn_back}
use Rattle.exact_point.proofs.PlaceOrder.{one_positive, level_from, level_test}
use Rattle.arrange.specs.Units.{is_collinear, is_end_along}
use Rattle.arrange.proofs.NodeSound.{covering_turn}

-- a whole point is itself
pub same_whole_self : (v : WholePoint) → same_whole v v ≡ true
same_whole_self v = and_from (int_eq v.x v.x) (int_eq v.y v.y) (level_test v.x v.x refl) (level_test v.y v.y refl)

once : (z : ℤ) → z ≡ z *ℤ pos 1
once z = omega (arith, ints)

-- whole points are in the order of points
pub whole_order : (a b : WholePoint) → whole_cmp a b ≡ point_cmp (whole a) (whole b)
whole_order a b =
    ap (λ z. ordering_then (int_cmp z b.x) (int_cmp a.y b.y)) (once a.x)
    ∙ ap (λ z. ordering_then (int_cmp (a.x *ℤ pos 1) z) (int_cmp a.y b.y)) (once b.x)
    ∙ ap (λ z. ordering_then (int_cmp (a.x *ℤ pos 1) (b.x *ℤ pos 1)) (int_cmp z b.y)) (once a.y)
    ∙ ap (λ z. ordering_then (int_cmp (a.x *ℤ pos 1) (b.x *ℤ pos 1)) (int_cmp (a.y *ℤ pos 1) z)) (once b.y)

-- an end of one of the segments
pub record IsEndOf (marked : List Marked) (s : Segment) (v : WholePoint) : Type 0 where
  pub of : Marked
  pub among : Contains marked of
  pub collinear : is_collinear s of.segment ≡ true
  pub is : (v ≡ of.segment.left) ⊎ (v ≡ of.segment.right)

pub end_of : (marked : List Marked) (s : Segment) (v : WholePoint) → IsTrue (is_end_along marked s v) → IsEndOf marked s v
end_of marked s v e =
    let which = Any-from_list_any (λ m. is_collinear s m.segment && (same_whole v m.segment.left || same_whole v m.segment.right)) marked e in
    let tests = and_parts (is_collinear s which.1.segment) (same_whole v which.1.segment.left || same_whole v which.1.segment.right) which.4 in
    record {
      of = which.1;
      among = any_contains (λ m. (is_collinear s m.segment && (same_whole v m.segment.left || same_whole v m.segment.right)) ≡ true) marked which;
      collinear = tests.0;
      is = by which.1.segment (or_cases (same_whole v which.1.segment.left) (same_whole v which.1.segment.right) tests.1);
    }
  where
    by : (t : Segment) → (same_whole v t.left ≡ true) ⊎ (same_whole v t.right ≡ true) → (v ≡ t.left) ⊎ (v ≡ t.right)
    by t (inl l) = inl (same_points v t.left l)
    by t (inr r) = inr (same_points v t.right r)

pub is_end_of : (marked : List Marked) (s : Segment) (v : WholePoint) → IsEndOf marked s v → IsTrue (is_end_along marked s v)
is_end_of marked s v end =
    list_any-from_Any (λ m. is_collinear s m.segment && (same_whole v m.segment.left || same_whole v m.segment.right)) marked
    (any_from (λ m. (is_collinear s m.segment && (same_whole v m.segment.left || same_whole v m.segment.right)) ≡ true) marked end.of end.among
    (and_from (is_collinear s end.of.segment) (same_whole v end.of.segment.left || same_whole v end.of.segment.right) end.collinear (by end.of.segment end.is)))
  where
    by : (t : Segment) → (v ≡ t.left) ⊎ (v ≡ t.right) → (same_whole v t.left || same_whole v t.right) ≡ true
    by t (inl l) = or_left (same_whole v t.left) (same_whole v t.right) (subst (λ (w : WholePoint). same_whole v w ≡ true) l (same_whole_self v))
    by t (inr r) = or_right (same_whole v t.left) (same_whole v t.right) (subst (λ (w : WholePoint). same_whole v w ≡ true) r (same_whole_self v))

-- an end along a line lies on it
pub end_level : (marked : List Marked) (s : Segment) (v : WholePoint) → IsTrue (is_end_along marked s v) → height_over s (whole v) ≡ pos 0
end_level marked s v e = by (end_of marked s v e) where
  by : IsEndOf marked s v → height_over s (whole v) ≡ pos 0
  by end = which end.of.segment (and_parts (int_eq (height_over s (whole end.of.segment.left)) (pos 0)) (int_eq (height_over s (whole end.of.segment.right)) (pos 0)) end.collinear) end.is where
    which : (t : Segment) → (int_eq (height_over s (whole t.left)) (pos 0) ≡ true) × (int_eq (height_over s (whole t.right)) (pos 0) ≡ true) → (v ≡ t.left) ⊎ (v ≡ t.right) → height_over s (whole v) ≡ pos 0
    which t tests (inl l) = ap (λ w. height_over s (whole w)) l ∙ level_from (height_over s (whole t.left)) (pos 0) tests.0
    which t tests (inr r) = ap (λ w. height_over s (whole w)) r ∙ level_from (height_over s (whole t.right)) (pos 0) tests.1

-- what is on one line by two tests is on another
pub both_levels : (s t u : Segment) → ((v : WholePoint) → height_over s (whole v) ≡ pos 0 → height_over t (whole v) ≡ pos 0) → is_collinear s u ≡ true → is_collinear t u ≡ true
both_levels s t u h e =
    let tests = and_parts (int_eq (height_over s (whole u.left)) (pos 0)) (int_eq (height_over s (whole u.right)) (pos 0)) e in
    and_from (int_eq (height_over t (whole u.left)) (pos 0)) (int_eq (height_over t (whole u.right)) (pos 0))
    (level_test (height_over t (whole u.left)) (pos 0) (h u.left (level_from (height_over s (whole u.left)) (pos 0) tests.0)))
    (level_test (height_over t (whole u.right)) (pos 0) (h u.right (level_from (height_over s (whole u.right)) (pos 0) tests.1)))

module _ (t s : Segment) (t_ahead : whole_cmp t.left t.right ≡ Less) (s_ahead : whole_cmp s.left s.right ≡ Less) (on_left : IsTrue (is_on t (whole s.left))) (on_right : IsTrue (is_on t (whole s.right))) where
  turns_not : turn_of t s ≡ pos 0
  turns_not = covering_turn t s on_left on_right

  -- the line of the stretch is that of the segment
  pub cover_level : (v : WholePoint) → height_over s (whole v) ≡ pos 0 → height_over t (whole v) ≡ pos 0
  cover_level v e =
      let back : turn_of s t ≡ pos 0 = no_turn_back t s turns_not in
      parallel_line s t (whole s.left) (whole v) s_ahead back one_positive (left_on_line s) (on_line t (whole s.left) on_left) e

  pub stretch_level : (v : WholePoint) → height_over t (whole v) ≡ pos 0 → height_over s (whole v) ≡ pos 0
  stretch_level v e = parallel_line t s (whole s.left) (whole v) t_ahead turns_not one_positive (on_line t (whole s.left) on_left) (left_on_line s) e

  -- an end along the stretch is one along the segment, and the other way round
  pub along_cover : (marked : List Marked) (v : WholePoint) → IsTrue (is_end_along marked s v) → IsTrue (is_end_along marked t v)
  along_cover marked v e =
      let end = end_of marked s v e in
      is_end_of marked t v (record { of = end.of; among = end.among; collinear = both_levels s t end.of.segment cover_level end.collinear; is = end.is })

  pub along_stretch : (marked : List Marked) (v : WholePoint) → IsTrue (is_end_along marked t v) → IsTrue (is_end_along marked s v)
  along_stretch marked v e =
      let end = end_of marked t v e in
      is_end_of marked s v (record { of = end.of; among = end.among; collinear = both_levels t s end.of.segment stretch_level end.collinear; is = end.is })
