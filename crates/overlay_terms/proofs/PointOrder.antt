-- The order of points is total and agrees with sameness.
use Rattle.std.specs.Prelude.{◌≡◌, pos, ◌<ℤ◌, true, ◌&&◌}
use Rattle.std.proofs.Common.{refl, ap}
use Rattle.std.specs.Cmp.{IsTotalOrder}
use Rattle.std.specs.Ordering.{ordering_then, is_eq, int_eq}
use Rattle.std.specs.declared.cmp.Ordering.{Ordering}
use Rattle.std.specs.declared.cmp.Ordering.TheVariants.{Less, Equal, Greater}
use Rattle.std.proofs.lemmas.Cmp.{on_total, then_total, int_cmp_total}
use Rattle.std.proofs.lemmas.Bool.{false≢true, and_parts}
use Rattle.std.proofs.lemmas.Bool.Decides.{Decides-int_eq}
use Rattle.overlay_terms.specs.Plane.{WholePoint, Point, whole_cmp, same_whole, point_cmp}
use Rattle.overlay_terms.specs.Laws.{OrderIsTotal}
use Rattle.overlay_terms.proofs.Ratios.{Ratio, ratio_cmp_total}

-- two comparisons, one after the other, end in Equal where both do
pub is_eq_then : (o r : Ordering) → is_eq (ordering_then o r) ≡ (is_eq o && is_eq r)
is_eq_then Less r = refl
is_eq_then Equal r = refl
is_eq_then Greater r = refl

-- what ends in Equal is two that do
pub both_equal : (o r : Ordering) → ordering_then o r ≡ Equal → (o ≡ Equal) × (r ≡ Equal)
both_equal Less r e = absurd (cc)
both_equal Equal r e = (refl, e)
both_equal Greater r e = absurd (cc)

-- the order of whole points is total
pub whole_cmp_total : IsTotalOrder whole_cmp
whole_cmp_total = then_total (on_total (λ (p : WholePoint). p.x) int_cmp_total) (on_total (λ (p : WholePoint). p.y) int_cmp_total)

-- whole points that pass the test are one
pub same_points : (a b : WholePoint) → same_whole a b ≡ true → a ≡ b
same_points a b e =
    let parts = and_parts (int_eq a.x b.x) (int_eq a.y b.y) e in
    λ i. record { x = (Decides-int_eq a.x b.x).0 parts.0 i; y = (Decides-int_eq a.y b.y).0 parts.1 i }

-- the same, as a test
both_from_then : (o r : Ordering) → ordering_then o r ≡ Equal → (is_eq o && is_eq r) ≡ true
both_from_then Less r e = absurd (cc)
both_from_then Equal r e = ap is_eq e
both_from_then Greater r e = absurd (cc)

-- where both end in Equal, so do the two, one after the other
then_from_both : (o r : Ordering) → (is_eq o && is_eq r) ≡ true → ordering_then o r ≡ Equal
then_from_both Less r e = absurd (false≢true e)
then_from_both Equal Less e = absurd (false≢true e)
then_from_both Equal Equal e = refl
then_from_both Equal Greater e = absurd (false≢true e)
then_from_both Greater r e = absurd (false≢true e)

-- a point whose denominator is positive
record Placed : Type 0 where
  pub point : Point
  pub positive : pos 0 <ℤ point.w

-- its x as a fraction
abbrev x_of : Placed → Ratio
x_of p = record { n = p.point.x; d = p.point.w; positive = p.positive }

-- its y as a fraction
abbrev y_of : Placed → Ratio
y_of p = record { n = p.point.y; d = p.point.w; positive = p.positive }

-- the order of such points
abbrev placed_cmp : Placed → Placed → Ordering
placed_cmp p q = point_cmp p.point q.point

-- such points are in total order
placed_cmp_total : IsTotalOrder placed_cmp
placed_cmp_total = then_total (on_total x_of ratio_cmp_total) (on_total y_of ratio_cmp_total)

-- the order of points is total and agrees with sameness
pub order_is_total : OrderIsTotal
order_is_total p q r p_positive q_positive r_positive =
    let a : Placed = record { point = p; positive = p_positive } in
    let b : Placed = record { point = q; positive = q_positive } in
    let c : Placed = record { point = r; positive = r_positive } in
    record {
      same = (both_from_then _ _, then_from_both _ _);
      turned = placed_cmp_total.antisymm b a;
      through = placed_cmp_total.trans a b c;
      alike = λ e. placed_cmp_total.congr a b c (then_from_both _ _ e);
    }
