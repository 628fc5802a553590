use Rattle.std.proofs.Common.{List, subst, arith}
use Rattle.overlay_terms.specs.Laws.{is_on_any}
use Rattle.overlay_terms.specs.Plane.{Segment, is_inside}
use Rattle.overlay_grid.specs.Turning.{AreMarked, AreTurned}
use Rattle.overlay_grid.proofs.ManySegments.{done_none, done_more, done_all}
use Rattle.overlay_grid.proofs.columns.mark_bases.Goals as goal

pub loop-k-init : goal.loop-k-init
loop-k-init c = done_none c.args.rise c.args.bases.now c.args.turns.now c.args.edges.now

pub loop-k-preserved : goal.loop-k-preserved
loop-k-preserved c =
    let done = c.mark_layer.ensures in
    done_more c.args.rise c.args.bases.now c.args.turns.now c.loop-k.turns c.mark_layer.new.turns c.args.edges.now c.loop-k.edges c.mark_layer.new.edges c.loop-k.k c.index-bases-k.result
    c.loop-k-test.true c.index-bases-k.is c.loop-k.invariant done.turns_len done.edges_len
    (subst (λ (ss : List Segment). AreTurned (is_inside ss) c.loop-k.k c.args.rise c.loop-k.turns c.mark_layer.new.turns) c.segs.ensures.value done.turns)
    (subst (λ (ss : List Segment). AreMarked (is_on_any ss) c.args.rise c.loop-k.edges c.mark_layer.new.edges) c.segs.ensures.value done.edges)

pub returns-clause-turns : goal.returns-clause-turns
returns-clause-turns c = (done_all c.args.rise c.args.bases.now c.args.turns.now c.loop-k.turns c.args.edges.now c.loop-k.edges c.loop-k.k (omega arith) c.loop-k.invariant).0
