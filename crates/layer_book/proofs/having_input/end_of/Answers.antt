use Rattle.std.proofs.Common.{◌∙◌, sym}
use Rattle.layer_book.proofs.HavingLemmas.{past_skipped, past_more, past_other, past_short, past_all}
use Rattle.layer_book.proofs.having_input.end_of.Goals as goal
use Rattle.layer_book.proofs.having_input.end_of.Goals.{then-next-marked-via-then-next-marked, then-next-marked-via-else-next-marked+then-not-is_marked, then-touches+else-next-marked+else-not-is_marked, else-touches}

pub returns-then-next-marked : goal.returns-then-next-marked
returns-then-next-marked c =
    let touching = sym c.touches.ensures.value ∙ c.if-touches.true in
    elim c.then-next-marked.branch [
      | then-next-marked-via-then-next-marked w ↦
          past_short c.args.column c.args.number c.args.segs.now c.args.marked.now _ c.loop-seg.seg-index c.loop-seg.next c.loop-seg.invariant c.first_marked-next.result c.first_marked-next.ensures.same c.first_marked-next.ensures.there
          c.seg-item.result c.loop-seg-test.true c.seg-item.is touching w.if-next-marked.true
      | then-next-marked-via-else-next-marked+then-not-is_marked w ↦
          past_other c.args.column c.args.number c.args.segs.now c.args.marked.now _ c.loop-seg.seg-index c.loop-seg.next c.loop-seg.invariant c.first_marked-next.result c.first_marked-next.ensures.same c.first_marked-next.ensures.there
          c.seg-item.result w.index-marked-next.result w.is_marked.result c.loop-seg-test.true c.seg-item.is touching w.if-next-marked.false w.index-marked-next.is w.is_marked.ensures w.if-not-is_marked.true
    ]

pub loop-seg-preserved : goal.loop-seg-preserved
loop-seg-preserved c =
    elim c.if-touches.branch [
      | then-touches+else-next-marked+else-not-is_marked w ↦
          rw w.next-is
          (past_more c.args.column c.args.number c.args.segs.now c.args.marked.now _ c.loop-seg.seg-index c.loop-seg.next c.loop-seg.invariant w.first_marked-next.result w.first_marked-next.ensures.same w.first_marked-next.ensures.there
          c.seg-item.result w.index-marked-next.result w.is_marked.result c.loop-seg-test.true c.seg-item.is (sym c.touches.ensures.value ∙ w.if-touches.true) w.if-next-marked.false w.index-marked-next.is w.is_marked.ensures w.if-not-is_marked.false)
      | else-touches w ↦
          rw w.next-is
          (past_skipped c.args.column c.args.number c.args.segs.now c.args.marked.now _ c.loop-seg.seg-index c.loop-seg.next c.loop-seg.invariant c.seg-item.result c.loop-seg-test.true c.seg-item.is (sym c.touches.ensures.value ∙ w.if-touches.false))
    ]

pub returns : goal.returns
returns c = past_all c.args.column c.args.number c.args.segs.now c.args.marked.now _ c.loop-seg.seg-index c.loop-seg.next c.loop-seg.invariant c.loop-seg-test.false
