use Rattle.std.proofs.Common.{sym, ◌∙◌, arith}
use Rattle.layer_book.proofs.SameMarks.{told_skipped, told_more, told_other, told_short, told_all}
use Rattle.layer_book.proofs.comparing.is_same_in.Goals as goal
use Rattle.layer_book.proofs.comparing.is_same_in.Goals.{then-next-old-via-then-next-old, then-next-old-via-else-next-old+then-not-is_same, then-touches+else-next-old+else-not-is_same, else-touches}

pub returns-then-next-old : goal.returns-then-next-old
returns-then-next-old c =
    let touching = sym c.touches.ensures.value ∙ c.if-touches.true in
    elim c.then-next-old.branch [
      | then-next-old-via-then-next-old w ↦
          told_short c.args.column c.args.new.now c.args.old.now _ c.loop-seg.seg-index c.loop-seg.next c.loop-seg.invariant.told c.first_in-next.result c.first_in-next.ensures.same c.first_in-next.ensures.there
          c.seg-item.result c.loop-seg-test.true c.seg-item.is touching w.if-next-old.true
      | then-next-old-via-else-next-old+then-not-is_same w ↦
          told_other c.args.column c.args.new.now c.args.old.now _ c.loop-seg.seg-index c.loop-seg.next c.loop-seg.invariant.told c.first_in-next.result c.first_in-next.ensures.same c.first_in-next.ensures.there
          c.seg-item.result w.index-old-next.result w.is_same.result c.loop-seg-test.true c.seg-item.is touching w.if-next-old.false w.index-old-next.is w.is_same.ensures w.if-not-is_same.true
    ]

pub loop-seg-preserved : goal.loop-seg-preserved
loop-seg-preserved c =
    elim c.if-touches.branch [
      | then-touches+else-next-old+else-not-is_same w ↦
          rw w.next-is
          (record {
            within = omega (arith, w.if-next-old.false);
            told = told_more c.args.column c.args.new.now c.args.old.now _ c.loop-seg.seg-index c.loop-seg.next c.loop-seg.invariant.told w.first_in-next.result w.first_in-next.ensures.same w.first_in-next.ensures.there
                c.seg-item.result w.index-old-next.result w.is_same.result c.loop-seg-test.true c.seg-item.is (sym c.touches.ensures.value ∙ w.if-touches.true) w.if-next-old.false w.index-old-next.is w.is_same.ensures w.if-not-is_same.false;
          })
      | else-touches w ↦
          rw w.next-is
          (record {
            within = c.loop-seg.invariant.within;
            told = told_skipped c.args.column c.args.new.now c.args.old.now _ c.loop-seg.seg-index c.loop-seg.next c.loop-seg.invariant.told c.seg-item.result c.loop-seg-test.true c.seg-item.is (sym c.touches.ensures.value ∙ w.if-touches.false);
          })
    ]

pub returns : goal.returns
returns c =
    told_all c.args.column c.args.new.now c.args.old.now _ c.loop-seg.seg-index c.loop-seg.next c.loop-seg.invariant.told c.first_in.result c.first_in.ensures.same c.first_in.ensures.there c.loop-seg-test.false
