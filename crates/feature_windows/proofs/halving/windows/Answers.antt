use Rattle.std.proofs.Common.{[], ◌∷◌, ◌++◌, ◌∙◌, ap, subst, length}
use Rattle.near_steps.specs.Cores.{box_of}
use Rattle.feature_windows.specs.Shown.{rings_at}
use Rattle.feature_windows.specs.Layers.{HasLayers}
use Rattle.feature_windows.proofs.WindowLemmas.{first_window, windows_divided}
use Rattle.feature_windows.proofs.halving.windows.Goals as goal

pub loop-init : goal.loop-init
loop-init c =
    let own = c.in_ok-own.own.items in
    let layers = c.in_ok-layers.layers.items in
    first_window c.args.features.now c.args.members.now c.args.count c.args.core.now own layers c.in_ok-first.first c.new-done.result.items c.push.new.self.items
    c.in_ok-own.ensures.count c.in_ok-own.ensures.each
    (subst (λ ls. HasLayers (box_of c.args.core.now) (length ls) (λ k. rings_at k ls) layers) c.deref.ensures.value c.in_ok-layers.ensures)
    c.in_ok-first.ensures.core c.in_ok-first.ensures.layers c.new-done.ensures.items (c.in_ok-push.ensures.items ∙ ap (λ ws. ws ++ c.in_ok-first.first ∷ []) c.new-left.ensures.items)

pub loop-preserved : goal.loop-preserved
loop-preserved c =
    windows_divided c.args.features.now c.args.members.now c.args.count c.args.core.now c.in-Some.part c.loop.done.items c.loop.left.items c.pop.new.self.items
    c.divide.new.done.items c.divide.new.left.items c.in-Some.ensures.items c.in_ok-divide.ensures c.loop.invariant
