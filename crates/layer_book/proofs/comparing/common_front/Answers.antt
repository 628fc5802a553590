use Rattle.std.proofs.Common.{sym, ◌∙◌, arith}
use Rattle.overlay_terms.specs.SameInput.{same_segment-Decides}
use Rattle.layer_book.proofs.CommonEnds.{front_more}
use Rattle.layer_book.proofs.comparing.common_front.Goals as goal

pub loop-front-preserved : goal.loop-front-preserved
loop-front-preserved c =
    let s = c.index-new-front.result in
    let t = c.index-old-front.result in
    let same = (same_segment-Decides s t).0 (sym c.is_same.ensures ∙ c.if-not-is_same.false) in
    front_more c.loop-front.front c.args.new.now c.args.old.now s t
    (omega (arith, c.loop-front-test.true)) (omega (arith, c.loop-front-test.true))
    c.index-new-front.is c.index-old-front.is same c.loop-front.invariant
