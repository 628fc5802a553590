use Rattle.std.proofs.Common.{ap, length, ◌∙◌}
use Rattle.ring_joining.proofs.OrderLemmas.{order_length}
use Rattle.ring_joining.proofs.following.outline.Goals as goal

pub join-requires : goal.join-requires
join-requires c = record { nexts = ap length c.deref.ensures.value ∙ order_length c.args.pieces.now c.in_ok-nexts.nexts.items c.in_ok-nexts.ensures.order }
