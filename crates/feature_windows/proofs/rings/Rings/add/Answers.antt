use Rattle.std.proofs.Common.{◌≡◌, ◌++◌, ◌∷◌, [], ◌∙◌, ap, length, rules}
use Rattle.block_reading.specs.Block.{dealt}
use Rattle.feature_windows.proofs.DealtLemmas.{dealt-push}
use Rattle.feature_windows.proofs.rings.Rings.add.Goals as goal

pub returns : goal.returns
returns c =
    let own = c.self.inside in
    let count : c.in-Ok.count ≡ length c.args.points.now = search rules in
    (λ i. dealt (c.in_ok-push.ensures.items i) (c.in_default-extend_from_slice.ensures.items i))
    ∙ dealt-push own.counts.items own.points.items c.in-Ok.count c.args.points.now c.self.invariant count ∙ ap (λ rs. rs ++ c.args.points.now ∷ []) c.self.view_is
