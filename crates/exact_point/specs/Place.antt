use Rattle.std.specs.Prelude.{◌≡◌, Bool, refl}
use Rattle.std.proofs.Common.{arith}
use Rattle.std.proofs.lemmas.Int.{ints}
use Rattle.std.specs.Cmp.{IsTotalOrder, IsEquivalence, IsPartialEquivalence, IsPartialOrder}
use Rattle.std.specs.Cmp.{eq_by_cmp_equiv, partial_equiv_from_equiv, partial_order_from_agreeing_total}
use Rattle.std.specs.Ordering.{eq_by_cmp, as_partial_cmp}
use Rattle.std.proofs.lemmas.Cmp.{on_total, then_total}
use Rattle.std.specs.declared.cmp.Ordering.{Ordering}
use Rattle.overlay_terms.specs.Plane.{Point, point_cmp, same_place}
use Rattle.overlay_terms.proofs.Ratios.{Ratio, ratio_cmp_total}
use Rattle.exact_point.specs.declared.point.HPoint.{HPoint}

-- where a point is, without the limits of its type
abbrev pub place : HPoint → Point
place p = record { x = p.x; y = p.y; w = p.w }

-- the order of the points
abbrev pub hpoint_cmp : HPoint → HPoint → Ordering
hpoint_cmp p q = point_cmp (place p) (place q)

x_of : HPoint → Ratio
x_of p = record { n = p.x; d = p.w; positive = omega (arith, ints) }

y_of : HPoint → Ratio
y_of p = record { n = p.y; d = p.w; positive = omega (arith, ints) }

pub hpoint_cmp_total : IsTotalOrder hpoint_cmp
unfolding x_of y_of
hpoint_cmp_total = then_total (on_total x_of ratio_cmp_total) (on_total y_of ratio_cmp_total)

-- the points are equal where neither is before the other in the order
abbrev pub same_hpoint : HPoint → HPoint → Bool
same_hpoint = eq_by_cmp hpoint_cmp

pub same_hpoint_equiv : IsEquivalence same_hpoint
same_hpoint_equiv = eq_by_cmp_equiv hpoint_cmp_total

pub same_hpoint_laws : IsPartialEquivalence same_hpoint
same_hpoint_laws = partial_equiv_from_equiv same_hpoint_equiv

pub hpoint_po : IsPartialOrder same_hpoint (as_partial_cmp hpoint_cmp)
hpoint_po = partial_order_from_agreeing_total hpoint_cmp hpoint_cmp_total (λ p q. refl) (λ p q. refl)

-- the order of points is total, and two points are equal exactly where they are the same place
pub record PointsAreOrdered : Type 0 where
  pub total : IsTotalOrder hpoint_cmp
  pub equal : (p q : HPoint) → same_hpoint p q ≡ same_place (place p) (place q)
