use Rattle.map_window.proofs.Clamping.{into_in_range}
use Rattle.map_window.proofs.drawing.placed.Goals as goal

pub seen_from-requires-clause-across : goal.seen_from-requires-clause-across
seen_from-requires-clause-across c = (into_in_range c.args.frame.now c.args.origin c.args.a c.into_frame-at.result c.into_frame-at.ensures c.requires).0

pub seen_from-requires-clause-along : goal.seen_from-requires-clause-along
seen_from-requires-clause-along c = (into_in_range c.args.frame.now c.args.origin c.args.a c.into_frame-at.result c.into_frame-at.ensures c.requires).1
