use Rattle.std.proofs.Common.{◌∙◌, refl}
use Rattle.overlay_grid.proofs.ManySegments.{turned_none, marked_none_of, turned_more, edges_more}
use Rattle.overlay_grid.proofs.columns.mark_layer.Goals as goal

pub loop-seg-init : goal.loop-seg-init
loop-seg-init c = record {
  turns_len = refl;
  edges_len = refl;
  turned = turned_none c.args.layer c.args.rise c.args.turns.now;
  marked = marked_none_of c.args.rise c.args.edges.now;
}

pub loop-seg-preserved : goal.loop-seg-preserved
loop-seg-preserved c =
    let was = c.loop-seg.invariant in
    let done = c.mark_segment.ensures in
    record {
      turns_len = done.turns_len ∙ was.turns_len;
      edges_len = done.edges_len ∙ was.edges_len;
      turned = turned_more c.args.layer c.args.rise c.args.segs.now c.loop-seg.seg-index c.seg-item.result c.args.turns.now c.loop-seg.turns _ c.loop-seg-test.true c.seg-item.is was.turns_len was.turned done.turns;
      marked = edges_more c.args.rise c.args.segs.now c.loop-seg.seg-index c.seg-item.result c.args.edges.now c.loop-seg.edges _ c.loop-seg-test.true c.seg-item.is was.edges_len was.marked done.edges;
    }
