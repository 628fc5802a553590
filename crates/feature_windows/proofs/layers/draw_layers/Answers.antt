use Rattle.std.proofs.Common.{[], refl, sym, subst, arith, map}
use Rattle.std.proofs.lemmas.List.{take_all}
use Rattle.arrange.specs.Marked.{marked_of}
use Rattle.feature_windows.specs.Shown.{AreShown}
use Rattle.feature_windows.proofs.ShownLemmas.{layers_more, nothing_shown}
use Rattle.feature_windows.proofs.layers.draw_layers.Goals as goal

pub loop-rings-init : goal.loop-rings-init
loop-rings-init c = (refl, subst (λ ms. AreShown c.args.core.now [] (map marked_of ms)) (sym c.new-marked.ensures.items) (nothing_shown c.args.core.now))

pub loop-rings-preserved : goal.loop-rings-preserved
loop-rings-preserved c =
    let same = c.loop-rings.invariant.0 in
    let next = c.in-Some.ensures.1 in (
      omega (arith, same, next),
      layers_more c.args.core.now c.args.layers.now c.loop-rings.rings-index c.loop-rings.number c.rings-item.result c.loop-rings.marked.items c.draw_layer.new.marked.items
          c.loop-rings-test.true c.rings-item.is same c.loop-rings.invariant.1 (c.in_ok-draw_layer.ensures c.in-Whole.is),
    )

pub returns : goal.returns
returns c =
    subst (λ ls. AreShown c.args.core.now ls (map marked_of c.loop-rings.marked.items)) (take_all c.loop-rings.rings-index c.args.layers.now c.loop-rings-test.false)
    c.loop-rings.invariant.1
