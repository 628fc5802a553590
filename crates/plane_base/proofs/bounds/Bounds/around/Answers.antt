use Rattle.plane_base.proofs.BlockLemmas.{held_more}
use Rattle.plane_base.proofs.bounds.Bounds.around.Goals as goal

pub loop-seg-preserved : goal.loop-seg-preserved
loop-seg-preserved c =
    held_more c.loop-seg.bounds c.with-bounds.result c.args.segs.now c.loop-seg.seg-index c.seg-item.result c.loop-seg-test.true c.seg-item.is c.with-bounds.ensures.kept c.with-bounds.ensures.added c.loop-seg.invariant
