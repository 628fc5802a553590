use Rattle.exact_point.proofs.NearLemmas.{near_crossing}
use Rattle.exact_point.proofs.near_point.near_cross_of.Goals as goal

pub of-requires : goal.of-requires
of-requires c =
    near_crossing c.args.a.now c.args.b.now c.known_ends.ensures.in_range c.known_ends-2.ensures.in_range c.known_ends.ensures.in_order c.known_ends-2.ensures.in_order c.in-Some.at c.in-Some.ensures.value
