use Rattle.std.proofs.Common.{◌∷◌, []}
use Rattle.near_steps.specs.Cores.{box_of}
use Rattle.feature_windows.proofs.LikeLemmas.{adds_as, adds_nothing}
use Rattle.feature_windows.proofs.layers.add_left.Goals as goal

pub returns-then-lie_off : goal.returns-then-lie_off
returns-then-lie_off c =
    let left = c.args.left.now in
    adds_as (box_of c.args.core.now) (c.args.points.now ∷ []) (left ∷ []) c.args.to.now c.args.to.now c.requires
    (adds_nothing (box_of c.args.core.now) left c.args.to.now (c.lie_off.ensures c.if-lie_off.true) (c.is_open.ensures c.if-is_open.false))
