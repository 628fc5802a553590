use Rattle.std.proofs.Common.{◌∷◌, ◌+◌, ◌∙◌, sym, ap, subst, drop}
use Rattle.std.proofs.lemmas.List.{drop_more}
use Rattle.near_steps.specs.Cores.{box_of}
use Rattle.near_steps.specs.Thinned.{sides_of}
use Rattle.near_steps.proofs.LoopLemmas.{IsThinning, thins_on}
use Rattle.near_steps.proofs.reducing.thinned.Goals as goal

pub loop-p-preserved : goal.loop-p-preserved
loop-p-preserved c =
    let core = box_of c.args.core.now in
    let rest = c.in-Some-split_first.rest.now in
    let i = c.loop-p.p-index in
    let one = drop_more rest i c.p-item.result c.loop-p-test.true ∙ ap (λ z. z ∷ drop (i + 1) rest) (sym c.p-item.is ∙ sym c.spot_of-next.ensures.at) in
    thins_on core c.loop-p.kept.items c.keep_on.new.kept.items c.args.points.now c.loop-p.last c.keep_on.new.last c.spot_of-next.result (drop (i + 1) rest)
    (subst (IsThinning core c.loop-p.kept.items c.args.points.now c.loop-p.last) one c.loop-p.invariant)
    (c.spot_of-next.ensures.off ∙ ap (sides_of core) (sym c.spot_of-next.ensures.at)) c.in_ok-keep_on.ensures.kept c.in_ok-keep_on.ensures.last
