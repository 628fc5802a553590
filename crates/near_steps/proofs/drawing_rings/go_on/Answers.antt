use Rattle.std.proofs.Common.{◌∙◌, sym, refl}
use Rattle.near_steps.proofs.LoopLemmas.{common_is, goes_drawn, goes_spared}
use Rattle.near_steps.proofs.drawing_rings.go_on.Goals as goal

pub returns-then-have_common-clause-goes_on : goal.returns-then-have_common-clause-goes_on
returns-then-have_common-clause-goes_on c =
    let last = c.args.last.now in
    goes_spared c.args.core.now c.args.layer c.args.marked.now.items c.args.marked.now.items last _ c.args.next.at
    (sym (common_is c.args.core.now last.from.at last.to.at c.args.next.at last.from.off last.to.off c.args.next.off c.requires.last.from c.requires.last.to c.requires.next)
    ∙ sym c.have_common.ensures ∙ c.if-have_common.true)
    refl refl refl

pub returns-clause-goes_on : goal.returns-clause-goes_on
returns-clause-goes_on c =
    let last = c.args.last.now in
    goes_drawn c.args.core.now c.args.layer c.args.marked.now.items c.draw_step.new.marked.items last _ c.args.next.at c.in_ok-drawing.drawing
    (sym (common_is c.args.core.now last.from.at last.to.at c.args.next.at last.from.off last.to.off c.args.next.off c.requires.last.from c.requires.last.to c.requires.next)
    ∙ sym c.have_common.ensures ∙ c.if-have_common.false)
    refl refl c.in_ok-drawing.ensures.answer c.in_ok-drawing.ensures.drawn
