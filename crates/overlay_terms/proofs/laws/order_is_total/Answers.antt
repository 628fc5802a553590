use Rattle.overlay_terms.proofs.PointOrder.{order_is_total}
use Rattle.overlay_terms.proofs.laws.order_is_total.Goals as goal

pub returns : goal.returns
returns c = order_is_total
