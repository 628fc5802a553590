use Rattle.std.proofs.Common.{◌≡◌, true, subst, rules}
use Rattle.near_steps.specs.Drawn.{HasDrawn}
use Rattle.feature_windows.proofs.layers.draw_layer.Goals as goal

pub returns : goal.returns
returns c =
    let yes : c.are_rings.result ≡ true = search rules in
    λ whole. record {
      closed = c.are_rings.ensures yes;
      drawn = subst (λ rs. HasDrawn c.args.core.now c.args.number rs c.args.marked.now.items c.draw_feature.new.marked.items) c.lent.ensures (c.in_ok-draw_feature.ensures.drawn whole);
    }
