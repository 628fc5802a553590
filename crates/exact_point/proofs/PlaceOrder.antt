-- The order of points, for points with positive denominators, and what points at one place share.
use Rattle.std.proofs.Common.{◌≡◌, ℤ, pos, ◌*ℤ◌, ◌<ℤ◌, true, not, refl, ap, sym, ◌∙◌, arith}
use Rattle.std.specs.Prelude.{IsTrue}
use Rattle.std.proofs.lemmas.Int.{ints}
use Rattle.std.proofs.lemmas.Bool.{and_parts, and_from}
use Rattle.std.proofs.lemmas.Bool.Decides.{Decides-int_eq}
use Rattle.std.specs.Ordering.{int_eq, ordering_reverse, is_lt, is_gt}
use Rattle.std.specs.declared.cmp.Ordering.{Ordering}
use Rattle.std.specs.declared.cmp.Ordering.TheVariants.{Less, Equal, Greater}
use Rattle.overlay_terms.specs.Plane.{Point, Segment, point_cmp, same_place, is_on}
use Rattle.overlay_terms.specs.Laws.{OrdersPoints}
use Rattle.overlay_terms.proofs.PointOrder.{order_is_total}
use Rattle.overlay_terms.proofs.PlaceLemmas.{places_alike, on_alike}

-- the denominator of a whole point is positive
pub one_positive : pos 0 <ℤ pos 1
one_positive = omega (arith, ints)

-- an equation of numbers from its test
pub level_from : (a b : ℤ) → int_eq a b ≡ true → a ≡ b
level_from a b e = (Decides-int_eq a b).0 e

-- the test of an equation
pub level_test : (a b : ℤ) → a ≡ b → int_eq a b ≡ true
level_test a b e = (Decides-int_eq a b).1 e

-- points at one place, the other way round
pub same_turned : (p q : Point) → IsTrue (same_place p q) → IsTrue (same_place q p)
same_turned p q e =
    let parts = and_parts (int_eq (p.x *ℤ q.w) (q.x *ℤ p.w)) (int_eq (p.y *ℤ q.w) (q.y *ℤ p.w)) e in
    and_from (int_eq (q.x *ℤ p.w) (p.x *ℤ q.w)) (int_eq (q.y *ℤ p.w) (p.y *ℤ q.w))
    (level_test (q.x *ℤ p.w) (p.x *ℤ q.w) (sym (level_from (p.x *ℤ q.w) (q.x *ℤ p.w) parts.0)))
    (level_test (q.y *ℤ p.w) (p.y *ℤ q.w) (sym (level_from (p.y *ℤ q.w) (q.y *ℤ p.w) parts.1)))

-- a point is at its own place
pub same_self : (p : Point) → IsTrue (same_place p p)
same_self p = and_from _ _ (level_test (p.x *ℤ p.w) (p.x *ℤ p.w) refl) (level_test (p.y *ℤ p.w) (p.y *ℤ p.w) refl)

-- a segment holds both of two points at one place, or neither
pub on_same : (s : Segment) (p q : Point) → pos 0 <ℤ p.w → pos 0 <ℤ q.w → IsTrue (same_place p q) → is_on s p ≡ is_on s q
on_same s p q h k e = on_alike p q (places_alike p q h k e) s e

-- ---- the order
module _ (p q r : Point) (hp : pos 0 <ℤ p.w) (hq : pos 0 <ℤ q.w) (hr : pos 0 <ℤ r.w) where
  -- the laws of three places
  total : OrdersPoints p q r
  total = order_is_total p q r hp hq hr

  -- before a place that is before a third
  pub less_through : point_cmp p q ≡ Less → point_cmp q r ≡ Less → point_cmp p r ≡ Less
  less_through = total.through

  -- points at one place have one order before another point
  pub alike_left : IsTrue (same_place p q) → point_cmp p r ≡ point_cmp q r
  alike_left = total.alike

-- the order, turned round
pub turned : (p q : Point) → pos 0 <ℤ p.w → pos 0 <ℤ q.w → point_cmp q p ≡ ordering_reverse (point_cmp p q)
turned p q h k = (order_is_total p q p h k h).turned

-- points at one place have one order after another point
pub alike_right : (p q r : Point) → pos 0 <ℤ p.w → pos 0 <ℤ q.w → pos 0 <ℤ r.w → IsTrue (same_place q r) → point_cmp p q ≡ point_cmp p r
alike_right p q r hp hq hr e =
    turned q p hq hp ∙ ap ordering_reverse (alike_left q r p hq hr hp e) ∙ sym (turned r p hr hp)

-- equal in the order is the same place
pub same_from_equal : (p q : Point) → pos 0 <ℤ p.w → pos 0 <ℤ q.w → point_cmp p q ≡ Equal → IsTrue (same_place p q)
same_from_equal p q h k e = (order_is_total p q p h k h).same.0 e

-- the same place is equal in the order
pub equal_from_same : (p q : Point) → pos 0 <ℤ p.w → pos 0 <ℤ q.w → IsTrue (same_place p q) → point_cmp p q ≡ Equal
equal_from_same p q h k e = (order_is_total p q p h k h).same.1 e

-- at the place of a point that is at a third's
pub same_through : (p q r : Point) → pos 0 <ℤ p.w → pos 0 <ℤ q.w → pos 0 <ℤ r.w → IsTrue (same_place p q) → IsTrue (same_place q r) → IsTrue (same_place p r)
same_through p q r hp hq hr e f =
    same_from_equal p r hp hr (alike_left p q r hp hq hr e ∙ equal_from_same q r hq hr f)

-- no point is before itself
pub not_before_self : (p q : Point) → pos 0 <ℤ p.w → pos 0 <ℤ q.w → IsTrue (same_place p q) → point_cmp p q ≡ Less → ⊥
not_before_self p q h k e l = differ (sym (equal_from_same p q h k e) ∙ l) where
  differ : Equal ≡ Less → ⊥
  differ e = cc

-- of two points one is before the other, or they are one place
pub data Way (p q : Point) : Type 0 where
  before : point_cmp p q ≡ Less → Way p q
  at : IsTrue (same_place p q) → Way p q
  after : point_cmp q p ≡ Less → Way p q

-- the same, by the comparison
by_way : (p q : Point) → pos 0 <ℤ p.w → pos 0 <ℤ q.w → (o : Ordering) → point_cmp p q ≡ o → Way p q
by_way p q h k Less e = before e
by_way p q h k Equal e = at (same_from_equal p q h k e)
by_way p q h k Greater e = after (turned p q h k ∙ ap ordering_reverse e)

-- which of the three it is
pub way_of : (p q : Point) → pos 0 <ℤ p.w → pos 0 <ℤ q.w → Way p q
way_of p q h k = by_way p q h k (point_cmp p q) refl

-- a test for not Less
not_lt_from : (o : Ordering) → (o ≡ Less → ⊥) → IsTrue (not (is_lt o))
not_lt_from Less h = absurd (h refl)
not_lt_from Equal h = refl
not_lt_from Greater h = refl

-- what it says
not_lt_says : (o : Ordering) → IsTrue (not (is_lt o)) → o ≡ Less → ⊥
not_lt_says Less h e = absurd (cc)
not_lt_says Equal h e = cc
not_lt_says Greater h e = cc

-- not before, as is_on tests it
pub not_before_test : (p q : Point) → (point_cmp p q ≡ Less → ⊥) → IsTrue (not (is_lt (point_cmp p q)))
not_before_test p q = not_lt_from (point_cmp p q)

-- what that test says
pub not_before_says : (p q : Point) → IsTrue (not (is_lt (point_cmp p q))) → point_cmp p q ≡ Less → ⊥
not_before_says p q = not_lt_says (point_cmp p q)

-- a test for not Greater
not_gt_from : (o : Ordering) → (ordering_reverse o ≡ Less → ⊥) → IsTrue (not (is_gt o))
not_gt_from Less h = refl
not_gt_from Equal h = refl
not_gt_from Greater h = absurd (h refl)

-- what it says
not_gt_says : (o : Ordering) → IsTrue (not (is_gt o)) → ordering_reverse o ≡ Less → ⊥
not_gt_says Less h e = cc
not_gt_says Equal h e = cc
not_gt_says Greater h e = absurd (cc)

-- not after, as is_on tests it
pub not_after_test : (p q : Point) → pos 0 <ℤ p.w → pos 0 <ℤ q.w → (point_cmp q p ≡ Less → ⊥) → IsTrue (not (is_gt (point_cmp p q)))
not_after_test p q h k n = not_gt_from (point_cmp p q) (λ e. n (turned p q h k ∙ e))

-- what that test says
pub not_after_says : (p q : Point) → pos 0 <ℤ p.w → pos 0 <ℤ q.w → IsTrue (not (is_gt (point_cmp p q))) → point_cmp q p ≡ Less → ⊥
not_after_says p q h k n e = not_gt_says (point_cmp p q) n (sym (turned p q h k) ∙ e)

-- what is not before a point that is not before a third is not before the third
pub not_before_through : (p q r : Point) → pos 0 <ℤ p.w → pos 0 <ℤ q.w → pos 0 <ℤ r.w → (point_cmp p q ≡ Less → ⊥) → (point_cmp q r ≡ Less → ⊥) → point_cmp p r ≡ Less → ⊥
not_before_through p q r hp hq hr h k l = by (way_of p q hp hq) where
  by : Way p q → ⊥
  by (before e) = h e
  by (at e) = k (sym (alike_left p q r hp hq hr e) ∙ l)
  by (after e) = k (less_through q p r hq hp hr e l)

-- a point before another is not after it
pub not_after_less : (p q : Point) → pos 0 <ℤ p.w → pos 0 <ℤ q.w → point_cmp p q ≡ Less → point_cmp q p ≡ Less → ⊥
not_after_less p q h k e f = not_before_self p p h h (same_self p) (less_through p q p h k h e f)
