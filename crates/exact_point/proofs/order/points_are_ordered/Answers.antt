use Rattle.overlay_terms.proofs.PointOrder.{is_eq_then}
use Rattle.exact_point.specs.Place.{hpoint_cmp_total}
use Rattle.exact_point.proofs.order.points_are_ordered.Goals as goal

pub returns : goal.returns
returns c = record { total = hpoint_cmp_total; equal = λ p q. is_eq_then _ _ }
