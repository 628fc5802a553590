use Rattle.std.proofs.Common.{◌∷◌, ◌+◌, ◌∙◌, sym, ap, subst, drop}
use Rattle.std.proofs.lemmas.List.{drop_all, drop_more}
use Rattle.block_reading.specs.Block.{dealt}
use Rattle.near_steps.proofs.LoopLemmas.{AreUnderWay, rings_end, rings_go, rings_stop}
use Rattle.near_steps.proofs.drawing_rings.draw_feature.Goals as goal

pub returns-in_default-clause-answer : goal.returns-in_default-clause-answer
returns-in_default-clause-answer c =
    let core = c.args.core.now in
    let i = c.loop-count.count-index in
    let one =
    ap (λ ns. dealt ns c.loop-count.rest.now) (drop_more c.args.counts.now i 0 c.loop-count-test.true)
    ∙ (λ k. sym c.parted.ensures.first k ∷ dealt (drop (i + 1) c.args.counts.now) (sym c.parted.ensures.rest k)) in
    rings_stop core c.args.layer c.args.marked.now.items c.loop-count.marked.items (dealt c.args.counts.now c.args.points.now) _ _
    (subst (AreUnderWay core c.args.layer c.args.marked.now.items c.loop-count.marked.items (dealt c.args.counts.now c.args.points.now)) one c.loop-count.invariant)
    (sym c.in_default.is ∙ c.in_ok-draw_line.ensures.answer)

pub loop-count-preserved : goal.loop-count-preserved
loop-count-preserved c =
    let core = c.args.core.now in
    let i = c.loop-count.count-index in
    let one =
    ap (λ ns. dealt ns c.loop-count.rest.now) (drop_more c.args.counts.now i 0 c.loop-count-test.true)
    ∙ (λ k. sym c.parted.ensures.first k ∷ dealt (drop (i + 1) c.args.counts.now) (sym c.parted.ensures.rest k)) in
    rings_go core c.args.layer c.args.marked.now.items c.loop-count.marked.items c.draw_line.new.marked.items (dealt c.args.counts.now c.args.points.now) _ _
    (subst (AreUnderWay core c.args.layer c.args.marked.now.items c.loop-count.marked.items (dealt c.args.counts.now c.args.points.now)) one c.loop-count.invariant)
    (sym c.in-Whole.is ∙ c.in_ok-draw_line.ensures.answer) (c.in_ok-draw_line.ensures.drawn c.in-Whole.is) c.draw_line.ensures.kept

pub returns-clause-drawn : goal.returns-clause-drawn
returns-clause-drawn c =
    λ whole. rings_end c.args.core.now c.args.layer c.args.marked.now.items c.loop-count.marked.items (dealt c.args.counts.now c.args.points.now) _ c.known.ensures c.loop-count.invariant
    (ap (λ ns. dealt ns c.loop-count.rest.now) (drop_all c.loop-count.count-index c.args.counts.now c.loop-count-test.false))
