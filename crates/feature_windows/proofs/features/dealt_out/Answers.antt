use Rattle.std.proofs.Common.{[], ◌∷◌, ◌++◌, ◌+◌, ◌∙◌, ap, drop}
use Rattle.block_reading.specs.Block.{dealt}
use Rattle.feature_windows.proofs.DealtLemmas.{feature_more, features_all}
use Rattle.feature_windows.proofs.features.dealt_out.Goals as goal

pub loop-count-preserved : goal.loop-count-preserved
loop-count-preserved c =
    let i = c.loop-count.count-index in
    let parts = c.counts_parted in
    let points = c.split_points in
    ap (λ ms. ms ++ dealt (drop (i + 1) c.args.ring_counts.now) (dealt parts.result.1.now points.result.1.now)) (c.in_ok-push.ensures.items ∙ ap (λ rs. c.loop-count.list.items ++ rs ∷ []) c.in_ok-rings.ensures)
    ∙ feature_more c.args.ring_counts.now i c.loop-count.list.items c.loop-count.counts.now parts.result.0.now parts.result.1.now c.loop-count.rest.now points.result.0.now
    points.result.1.now _ c.loop-count-test.true parts.ensures.first parts.ensures.rest points.ensures.first points.ensures.rest c.loop-count.invariant

pub returns : goal.returns
returns c = features_all c.args.ring_counts.now c.loop-count.count-index c.loop-count.list.items (dealt c.loop-count.counts.now c.loop-count.rest.now) _ c.loop-count-test.false c.loop-count.invariant
