-- Where two units meet: units of one line share an end at most, and units with a place inside one of them are not parallel.
use Rattle.std.proofs.Common.{◌≡◌, pos, ◌<ℤ◌, true, false, List, sym, ◌∙◌, subst}
use Rattle.std.specs.Prelude.{IsTrue}
use Rattle.std.specs.Ordering.{int_eq}
use Rattle.std.proofs.lemmas.Bool.{and_parts, and_from, false_from_ne_true}
use Rattle.std.specs.declared.cmp.Ordering.TheVariants.{Less}
use Rattle.overlay_terms.specs.Plane.{WholePoint, Point, Segment, whole, whole_cmp, same_place, point_cmp, height_over, is_on}
use Rattle.overlay_terms.specs.Layers.{Marked}
use Rattle.overlay_terms.specs.Tiles.{is_parallel}
use Rattle.exact_point.proofs.OnLine.{parallel_line, after_left, before_right, on_line, left_on_line, right_on_line, one_direction, no_turn_back, turn_from_parallel}
use Rattle.exact_point.proofs.PlaceOrder.{one_positive, level_from, level_test, same_turned, not_before_self, less_through, Way, before, at, after, way_of, alike_left, alike_right}
use Rattle.arrange.specs.Units.{is_collinear, is_end_along, IsUnit}
use Rattle.arrange.proofs.UnitLineLemmas.{whole_order, end_of, is_end_of, both_levels}
use Rattle.arrange.proofs.UnitCover.{one_point, Before}

-- segments on one line have the same line
line_too : (s t : Segment) → whole_cmp s.left s.right ≡ Less → whole_cmp t.left t.right ≡ Less → is_collinear s t ≡ true → (p : Point) → height_over s p ≡ pos 0 → height_over t p ≡ pos 0
line_too s t s_ahead t_ahead e p level =
    let tests = and_parts (int_eq (height_over s (whole t.left)) (pos 0)) (int_eq (height_over s (whole t.right)) (pos 0)) e in
    let from = level_from (height_over s (whole t.left)) (pos 0) tests.0 in
    let turn = one_direction s t (whole t.left) (whole t.right) from (level_from (height_over s (whole t.right)) (pos 0) tests.1) (left_on_line t) (right_on_line t) (sym (whole_order t.left t.right) ∙ t_ahead) in
    parallel_line s t (whole t.left) p s_ahead turn one_positive from (left_on_line t) level

pub collinear_back : (s t : Segment) → whole_cmp s.left s.right ≡ Less → whole_cmp t.left t.right ≡ Less → is_collinear s t ≡ true → is_collinear t s ≡ true
collinear_back s t s_ahead t_ahead e =
    and_from (int_eq (height_over t (whole s.left)) (pos 0)) (int_eq (height_over t (whole s.right)) (pos 0))
    (level_test (height_over t (whole s.left)) (pos 0) (line_too s t s_ahead t_ahead e (whole s.left) (left_on_line s)))
    (level_test (height_over t (whole s.right)) (pos 0) (line_too s t s_ahead t_ahead e (whole s.right) (right_on_line s)))

-- an end along the one is one along the other
along_too : (marked : List Marked) (s t : Segment) → whole_cmp s.left s.right ≡ Less → whole_cmp t.left t.right ≡ Less → is_collinear s t ≡ true → (v : WholePoint) → IsTrue (is_end_along marked s v) → IsTrue (is_end_along marked t v)
along_too marked s t s_ahead t_ahead e v end =
    let of = end_of marked s v end in
    is_end_of marked t v (record { of = of.of; among = of.among; collinear = both_levels s t of.of.segment (λ w. line_too s t s_ahead t_ahead e (whole w)) of.collinear; is = of.is })

-- where two units of one line meet: they are one, or the first ends where the second begins
pub data Meeting (s t : Segment) (p : Point) : Type 0 where
  one : s ≡ t → Meeting s t p
  follows : IsTrue (same_place p (whole s.right)) → IsTrue (same_place p (whole t.left)) → Meeting s t p
  leads : IsTrue (same_place p (whole s.left)) → IsTrue (same_place p (whole t.right)) → Meeting s t p

module _ (marked : List Marked) (s t : Segment) (is_s : IsUnit marked s) (is_t : IsUnit marked t) (line : is_collinear s t ≡ true) where
  line_back : is_collinear t s ≡ true
  line_back = collinear_back s t is_s.forward is_t.forward line

  -- no end of the one is strictly between the ends of the other
  not_in_t : (v : WholePoint) → IsTrue (is_end_along marked s v) → Before t.left v → Before v t.right → ⊥
  not_in_t v end low high =
      is_t.none_between v (along_too marked s t is_s.forward is_t.forward line v end) (whole_order t.left v ∙ low) (whole_order v t.right ∙ high)

  not_in_s : (v : WholePoint) → IsTrue (is_end_along marked t v) → Before s.left v → Before v s.right → ⊥
  not_in_s v end low high =
      is_s.none_between v (along_too marked t s is_t.forward is_s.forward line_back v end) (whole_order s.left v ∙ low) (whole_order v s.right ∙ high)

  s_forth : Before s.left s.right
  s_forth = sym (whole_order s.left s.right) ∙ is_s.forward

  t_forth : Before t.left t.right
  t_forth = sym (whole_order t.left t.right) ∙ is_t.forward

  -- units that begin at one place are one
  one_begin : s.left ≡ t.left → s ≡ t
  one_begin e = by (way_of (whole s.right) (whole t.right) one_positive one_positive) where
    by : Way (whole s.right) (whole t.right) → s ≡ t
    by (before f) = absurd (not_in_t s.right is_s.to_end (subst (λ (v : WholePoint). Before v s.right) e s_forth) f)
    by (at f) = λ i. record { left = e i; right = one_point s.right t.right f i }
    by (after f) = absurd (not_in_s t.right is_t.to_end (subst (λ (v : WholePoint). Before v t.right) (sym e) t_forth) f)

  module _ (p : Point) (hp : pos 0 <ℤ p.w) (on_s : IsTrue (is_on s p)) (on_t : IsTrue (is_on t p)) where
    -- what is not before a place and not after it is there
    squeezed : (v w : WholePoint) → (point_cmp (whole v) p ≡ Less → ⊥) → (point_cmp p (whole w) ≡ Less → ⊥) → (point_cmp (whole w) (whole v) ≡ Less → ⊥) → IsTrue (same_place p (whole v)) × IsTrue (same_place p (whole w))
    squeezed v w from to order = by (way_of p (whole v) hp one_positive) (way_of p (whole w) hp one_positive) where
      by : Way p (whole v) → Way p (whole w) → IsTrue (same_place p (whole v)) × IsTrue (same_place p (whole w))
      by (at e) (at f) = (e, f)
      by (after e) f = absurd (from e)
      by e (before f) = absurd (to f)
      by (at e) (after f) = absurd (order (sym (alike_right (whole w) p (whole v) one_positive hp one_positive e) ∙ f))
      by (before e) (at f) = absurd (order (alike_left (whole w) p (whole v) one_positive hp one_positive (same_turned p (whole w) f) ∙ e))
      by (before e) (after f) = absurd (order (less_through (whole w) p (whole v) one_positive hp one_positive f e))

    pub units_meet : Meeting s t p
    units_meet = by (way_of (whole s.left) (whole t.left) one_positive one_positive) where
      by : Way (whole s.left) (whole t.left) → Meeting s t p
      by (at e) = one (one_begin (one_point s.left t.left e))
      by (before e) = let both = squeezed s.right t.left (before_right s p hp on_s) (after_left t p on_t) (not_in_s t.left is_t.from_end e) in follows both.0 both.1
      by (after e) = let both = squeezed t.right s.left (before_right t p hp on_t) (after_left s p on_s) (not_in_t s.left is_s.from_end e) in leads both.1 both.0

-- units through one place that are parallel lie on one line
pub parallel_collinear : (s t : Segment) → whole_cmp s.left s.right ≡ Less → whole_cmp t.left t.right ≡ Less → (p : Point) → pos 0 <ℤ p.w → IsTrue (is_on s p) → IsTrue (is_on t p) → is_parallel s t ≡ true → is_collinear s t ≡ true
parallel_collinear s t s_ahead t_ahead p hp on_s on_t e =
    let back = no_turn_back s t (turn_from_parallel s t e) in
    and_from (int_eq (height_over s (whole t.left)) (pos 0)) (int_eq (height_over s (whole t.right)) (pos 0))
    (level_test (height_over s (whole t.left)) (pos 0) (parallel_line t s p (whole t.left) t_ahead back hp (on_line t p on_t) (on_line s p on_s) (left_on_line t)))
    (level_test (height_over s (whole t.right)) (pos 0) (parallel_line t s p (whole t.right) t_ahead back hp (on_line t p on_t) (on_line s p on_s) (right_on_line t)))

-- two units with a place inside one of them are not parallel
pub not_parallel : (marked : List Marked) (s t : Segment) → IsUnit marked s → IsUnit marked t → (s ≡ t → ⊥) → (p : Point) → pos 0 <ℤ p.w → IsTrue (is_on s p) → IsTrue (is_on t p)
    → point_cmp (whole s.left) p ≡ Less → point_cmp p (whole s.right) ≡ Less → is_parallel s t ≡ false
not_parallel marked s t is_s is_t apart p hp on_s on_t low high = false_from_ne_true (is_parallel s t) (λ e. by (units_meet marked s t is_s is_t (parallel_collinear s t is_s.forward is_t.forward p hp on_s on_t e) p hp on_s on_t)) where
  by : Meeting s t p → ⊥
  by (one e) = apart e
  by (follows e f) = not_before_self p (whole s.right) hp one_positive e high
  by (leads e f) = not_before_self (whole s.left) p one_positive hp (same_turned p (whole s.left) e) low
