use Rattle.std.proofs.Common.{sym, subst, []}
use Rattle.std.proofs.lemmas.List.{take_all}
use Rattle.near_steps.specs.Cores.{box_of}
use Rattle.feature_windows.specs.Layers.{layer_rings, LookLike}
use Rattle.feature_windows.proofs.LikeLemmas.{like_self, members_more}
use Rattle.feature_windows.proofs.halving.layer_of.Goals as goal

pub loop-one-init : goal.loop-one-init
loop-one-init c = subst (LookLike (box_of c.args.core.now) []) (sym c.none-rings.ensures) (like_self (box_of c.args.core.now) [])

pub loop-one-preserved : goal.loop-one-preserved
loop-one-preserved c =
    members_more (box_of c.args.core.now) c.args.features.now c.args.members.now c.loop-one.one-index _ c.args.layer c.loop-one.rings c.add_member.new.to c.loop-one-test.true c.loop-one.invariant
    c.in_ok-add_member.ensures

pub returns : goal.returns
returns c =
    subst (λ ms. LookLike (box_of c.args.core.now) (layer_rings c.args.features.now ms c.args.layer) c.loop-one.rings) (take_all c.loop-one.one-index c.args.members.now c.loop-one-test.false) c.loop-one.invariant
