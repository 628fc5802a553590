use Rattle.std.proofs.Common.{subst}
use Rattle.near_steps.specs.Cores.{box_of}
use Rattle.feature_windows.specs.Layers.{AddsLike}
use Rattle.feature_windows.proofs.LikeLemmas.{adds_left, adds_all}
use Rattle.feature_windows.proofs.layers.add_near.Goals as goal

pub loop-count-init : goal.loop-count-init
loop-count-init c = λ new h. subst (λ rs. AddsLike (box_of c.args.core.now) rs c.args.to.now new) c.lent.ensures h

pub loop-count-preserved : goal.loop-count-preserved
loop-count-preserved c =
    adds_left (box_of c.args.core.now) c.lent.result.0.now c.loop-count.count-index c.loop-count.rest.now c.parted.result.0.now c.parted.result.1.now c.loop-count.to c.add_ring.new.to
    c.args.rings.now c.args.to.now c.loop-count-test.true c.parted.ensures.first c.parted.ensures.rest c.in_ok-add_ring.ensures c.loop-count.invariant

pub returns : goal.returns
returns c =
    adds_all (box_of c.args.core.now) c.lent.result.0.now c.loop-count.count-index c.loop-count.rest.now c.loop-count.to c.args.rings.now c.args.to.now c.loop-count-test.false c.loop-count.invariant
