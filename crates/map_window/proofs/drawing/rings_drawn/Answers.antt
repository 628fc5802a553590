use Rattle.std.proofs.Common.{◌∙◌, ◌++◌, sym, option_to_list}
use Rattle.map_window.specs.Drawn.{ring_drawn}
use Rattle.map_window.proofs.ListLemmas.{filter_map_more}
use Rattle.map_window.proofs.drawing.rings_drawn.Goals as goal

pub loop-ring-preserved : goal.loop-ring-preserved
loop-ring-preserved c =
    let more = filter_map_more (ring_drawn c.box_seen-near.result c.args.frame.now c.args.origin) c.args.rings.now c.loop-ring.ring-index c.ring-item.result c.loop-ring-test.true c.ring-item.is in
    c.in_ok-keep.ensures ∙ (λ i. c.loop-ring.invariant i ++ option_to_list (c.in_ok-made.ensures.ok i)) ∙ sym more
