-- Named places with their ranks, in the order of the places.
use Rattle.std.specs.Prelude.{Bool, refl}
use Rattle.std.specs.Cmp.{IsTotalOrder, IsEquivalence, IsPartialEquivalence, IsPartialOrder, eq_by_cmp_equiv, partial_equiv_from_equiv, partial_order_from_agreeing_total}
use Rattle.std.specs.Ordering.{eq_by_cmp, as_partial_cmp}
use Rattle.std.specs.declared.cmp.Ordering.{Ordering}
use Rattle.std.proofs.lemmas.Cmp.{on_total}
use Rattle.exact_point.specs.Place.{hpoint_cmp, hpoint_cmp_total}
use Rattle.exact_point.specs.declared.point.HPoint.{HPoint}
use Rattle.exact_point.specs.declared.point_name.PointName.{PointName}
use Rattle.crossing_sweep.specs.declared.ranked_place.RankedPlace.{RankedPlace}

-- the order of the places
abbrev pub ranked_cmp : RankedPlace → RankedPlace → Ordering
ranked_cmp a b = hpoint_cmp a.at b.at

pub ranked_total : IsTotalOrder ranked_cmp
ranked_total = on_total (λ z. z.at) hpoint_cmp_total

-- the same place, under any names
abbrev pub same_ranked : RankedPlace → RankedPlace → Bool
same_ranked = eq_by_cmp ranked_cmp

pub same_ranked_equiv : IsEquivalence same_ranked
same_ranked_equiv = eq_by_cmp_equiv ranked_total

pub same_ranked_laws : IsPartialEquivalence same_ranked
same_ranked_laws = partial_equiv_from_equiv same_ranked_equiv

pub ranked_po : IsPartialOrder same_ranked (as_partial_cmp ranked_cmp)
ranked_po = partial_order_from_agreeing_total ranked_cmp ranked_total (λ p q. refl) (λ p q. refl)

-- the place and its name, as an entry of those ahead
abbrev pub ranked_entry : RankedPlace → HPoint × PointName
ranked_entry z = (z.at, z.name)
