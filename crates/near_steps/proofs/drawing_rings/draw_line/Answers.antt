use Rattle.std.proofs.Common.{◌≡◌, ◌∷◌, ◌+◌, ◌∙◌, sym, ap, subst, drop}
use Rattle.std.proofs.lemmas.List.{drop_all, drop_more}
use Rattle.std.proofs.lemmas.Result.{IfOk-weaker}
use Rattle.map_window.specs.Drawn.{are_short, is_short}
use Rattle.near_steps.specs.Cores.{plane_of}
use Rattle.near_steps.specs.Drawn.{drawing_of, GoesOn}
use Rattle.near_steps.proofs.LoopLemmas.{IsUnderWay, ends_told, goes}
use Rattle.near_steps.proofs.drawing_rings.draw_line.Goals as goal

pub loop-p-preserved : goal.loop-p-preserved
loop-p-preserved c =
    let core = c.args.core.now in
    let rest = c.in-Some-split_first.rest.now in
    let i = c.loop-p.p-index in
    let p = c.p-item.result in
    let one = drop_more rest i p c.loop-p-test.true ∙ ap (λ z. z ∷ drop (i + 1) rest) (sym c.p-item.is) in
    let next = subst (λ z. GoesOn core c.args.layer c.loop-p.marked.items c.go_on.new.marked.items c.loop-p.last c.go_on.new.last z c.in_ok-go_on.field-0) c.spot-next.ensures.at c.in_ok-go_on.ensures.goes_on in
    goes core c.args.layer c.args.marked.now.items c.loop-p.marked.items c.go_on.new.marked.items c.args.points.now c.loop-p.last c.go_on.new.last p (drop (i + 1) rest)
    (subst (IsUnderWay core c.args.layer c.args.marked.now.items c.loop-p.marked.items c.args.points.now c.loop-p.last) one c.loop-p.invariant)
    (subst (GoesOn core c.args.layer c.loop-p.marked.items c.go_on.new.marked.items c.loop-p.last c.go_on.new.last p) c.in-Whole.is next)
    c.in_ok-go_on.ensures.sided c.go_on.ensures.kept

pub returns-clause-answer : goal.returns-clause-answer
returns-clause-answer c =
    let core = c.args.core.now in
    IfOk-weaker c.draw_step.result (λ drawing. drawing ≡ drawing_of (is_short core (plane_of core) c.loop-p.last.from.at c.loop-p.last.to.at))
    (λ drawing. drawing ≡ drawing_of (are_short core (plane_of core) c.args.points.now))
    (λ drawing told. ends_told core c.args.layer c.args.marked.now.items c.loop-p.marked.items c.args.points.now c.loop-p.last (drop c.loop-p.p-index c.in-Some-split_first.rest.now) drawing
    c.loop-p.invariant (drop_all c.loop-p.p-index c.in-Some-split_first.rest.now c.loop-p-test.false) told)
    c.draw_step.ensures.answer
