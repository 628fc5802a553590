use Rattle.std.proofs.lemmas.Result.{err_from_is_err_and}
use Rattle.server_session.proofs.AnswerLemmas.{answers_remove, remove_refused}
use Rattle.server_session.proofs.answering.answer_remove.Goals as goal

pub returns-in_err-change : goal.returns-in_err-change
returns-in_err-change g c =
    let p = err_from_is_err_and c.from_residual.result c.from_residual.ensures.1 in
    rw (p.1, p.2) (remove_refused _ c.args.me.now c.args.name.now _ c.in_err-change.ensures.refused)

pub returns : goal.returns
returns g c = answers_remove _ c.args.me.now c.submit.new.me c.args.name.now _ _ c.in_ok-change.ensures.ok c.submit.ensures

pub submit-requires-clause-asked : goal.submit-requires-clause-asked
submit-requires-clause-asked g c = c.requires.asked _ c.in_ok-change.ensures.ok
