use Rattle.std.proofs.Common.{sym, ◌∙◌, arith}
use Rattle.overlay_terms.specs.SameInput.{same_segment-Decides}
use Rattle.layer_book.proofs.CommonEnds.{end_more}
use Rattle.layer_book.proofs.comparing.common_end.Goals as goal

pub loop-end-preserved : goal.loop-end-preserved
loop-end-preserved c =
    let s = c.index-new-new.result in
    let t = c.index-old-old.result in
    let same = (same_segment-Decides s t).0 (sym c.is_same.ensures ∙ c.if-not-is_same.false) in
    end_more c.loop-end.end c.args.new.now c.args.old.now s t
    (omega (arith, c.loop-end-test.true)) (omega (arith, c.loop-end-test.true))
    c.index-new-new.is c.index-old-old.is same c.loop-end.invariant
