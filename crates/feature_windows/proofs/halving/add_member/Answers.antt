use Rattle.std.proofs.Common.{[], sym, subst}
use Rattle.std.specs.Prelude.{OnOk}
use Rattle.near_steps.specs.Cores.{box_of}
use Rattle.feature_windows.specs.Layers.{AddsLike}
use Rattle.feature_windows.proofs.LikeLemmas.{adds_member, adds_none, rings_at_none, rings_at_some, rings_for_is}
use Rattle.feature_windows.proofs.halving.add_member.Goals as goal

pub returns-in_default : goal.returns-in_default
returns-in_default c =
    adds_member (box_of c.args.core.now) c.args.features.now c.args.one.now c.args.layer [] c.args.to.now c.args.to.now c.if-one-layer.false
    (rings_at_none c.args.features.now c.args.one.now.feature c.in_default.ensures.none) (adds_none (box_of c.args.core.now) c.args.to.now)

pub returns : goal.returns
returns c =
    let own = c.in-Some.own.now in
    subst (λ rs. OnOk c.add_near.result (AddsLike (box_of c.args.core.now) rs c.args.to.now c.add_near.new.to))
    (sym (rings_for_is c.args.features.now c.args.one.now c.args.layer own c.if-one-layer.false (rings_at_some c.args.features.now c.args.one.now.feature own c.in-Some.ensures.some)))
    c.add_near.ensures
