use Rattle.std.proofs.Common.{◌++◌, ◌+◌, ◌∙◌, ap, drop}
use Rattle.block_reading.specs.Block.{dealt}
use Rattle.feature_windows.proofs.DealtLemmas.{ring_more, rings_all}
use Rattle.feature_windows.proofs.rings.Rings.of.Goals as goal

pub loop-count-preserved : goal.loop-count-preserved
loop-count-preserved c =
    let i = c.loop-count.count-index in
    ap (λ ms. ms ++ dealt (drop (i + 1) c.args.counts.now) c.parted.result.1.now) c.in_ok-add.ensures
    ∙ ring_more c.args.counts.now i c.loop-count.rings c.loop-count.rest.now c.parted.result.0.now c.parted.result.1.now _ c.loop-count-test.true c.parted.ensures.first c.parted.ensures.rest c.loop-count.invariant

pub returns : goal.returns
returns c = rings_all c.args.counts.now c.loop-count.count-index c.loop-count.rings c.loop-count.rest.now _ c.loop-count-test.false c.loop-count.invariant
