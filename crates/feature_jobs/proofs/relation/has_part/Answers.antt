use Rattle.std.proofs.Common.{◌≡◌, true, [], ◌∙◌, sym, rules}
use Rattle.feature_jobs.proofs.PairLemmas.{none_more, none_in_all}
use Rattle.feature_jobs.proofs.relation.has_part.Goals as goal

pub loop-window-preserved : goal.loop-window-preserved
loop-window-preserved c =
    let found : c.are_none.result ≡ true = search rules in
    let none : c.in_ok-pieces.pieces.items ≡ [] = sym c.deref.ensures.value ∙ c.are_none.ensures found in
    none_more c.args.list.now c.args.steps.now c.loop-window.window-index c.window-item.result c.loop-window-test.true c.window-item.is c.loop-window.invariant
    (rw none at c.in_ok-pieces.ensures)

pub returns : goal.returns
returns c = λ _. none_in_all c.args.list.now c.args.steps.now c.loop-window.window-index c.loop-window-test.false c.loop-window.invariant
