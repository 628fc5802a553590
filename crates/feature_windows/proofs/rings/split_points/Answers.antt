use Rattle.std.proofs.Common.{◌∙◌}
use Rattle.feature_windows.proofs.DealtLemmas.{counted_more, counted_all, split_front, split_rest, in_all}
use Rattle.feature_windows.proofs.rings.split_points.Goals as goal

pub loop-count-preserved : goal.loop-count-preserved
loop-count-preserved c =
    counted_more c.args.counts.now c.loop-count.count-index _ c.loop-count.rest.now c.parted.result.1.now c.loop-count-test.true c.parted.ensures.rest c.loop-count.invariant

pub returns-clause-first : goal.returns-clause-first
returns-clause-first c =
    let left = counted_all c.args.counts.now c.loop-count.count-index _ c.loop-count.rest.now c.loop-count-test.false c.loop-count.invariant in
    c.split_at.ensures.front ∙ split_front (in_all c.args.counts.now) c.args.points.now c.loop-count.rest.now left

pub returns-clause-rest : goal.returns-clause-rest
returns-clause-rest c =
    let left = counted_all c.args.counts.now c.loop-count.count-index _ c.loop-count.rest.now c.loop-count-test.false c.loop-count.invariant in
    c.split_at.ensures.back ∙ split_rest (in_all c.args.counts.now) c.args.points.now c.loop-count.rest.now left
