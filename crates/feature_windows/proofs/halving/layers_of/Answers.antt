use Rattle.near_steps.specs.Cores.{box_of}
use Rattle.feature_windows.specs.Layers.{layer_rings}
use Rattle.feature_windows.proofs.LikeLemmas.{own_more}
use Rattle.feature_windows.proofs.halving.layers_of.Goals as goal

pub loop-layer-preserved : goal.loop-layer-preserved
loop-layer-preserved c =
    own_more (box_of c.args.core.now) (layer_rings c.args.features.now c.args.members.now) c.loop-layer.list.items c.push.new.self.items c.loop-layer.layer c.in_ok-own.own
    c.loop-layer.invariant.0 c.in_ok-own.ensures c.in_ok-push.ensures.items c.loop-layer.invariant.1
