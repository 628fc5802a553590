use Rattle.near_steps.specs.Cores.{box_of}
use Rattle.feature_windows.proofs.LikeLemmas.{layer_near, near_all}
use Rattle.feature_windows.proofs.layers.near.Goals as goal

pub loop-layer-preserved : goal.loop-layer-preserved
loop-layer-preserved c =
    layer_near (box_of c.args.core.now) c.args.layers.now c.loop-layer.list.items c.push.new.self.items c.loop-layer.layer-index c.layer-item.result c.none-own.result c.add_near.new.to
    c.loop-layer.invariant.0 c.loop-layer-test.true c.layer-item.is c.none-own.ensures c.in_ok-add_near.ensures c.in_ok-push.ensures.items c.loop-layer.invariant.1

pub returns : goal.returns
returns c =
    near_all (box_of c.args.core.now) c.args.layers.now c.loop-layer.list.items c.push-2.new.self.items c.loop-layer.layer-index c.in_ok-border.field-0
    c.loop-layer.invariant.0 c.loop-layer.auto.layer-index-end c.loop-layer-test.false c.in_ok-border.ensures c.in_ok-push-2.ensures.items c.loop-layer.invariant.1
