use Rattle.std.proofs.lemmas.Result.{err_from_is_err_and}
use Rattle.server_session.proofs.TileAnswers.{wait_unnamed, wait_refused, wait_reported}
use Rattle.server_session.proofs.answering.answer_wait.Goals as goal

pub returns-in_err-name : goal.returns-in_err-name
returns-in_err-name g c =
    let p = err_from_is_err_and c.from_residual.result c.from_residual.ensures.1 in
    rw (p.1, p.2) (wait_unnamed _ c.args.me.now c.args.name.now _ c.in_err-name.ensures.refused)

pub returns-in-Ok : goal.returns-in-Ok
returns-in-Ok g c =
    let named = c.in_ok-name.ensures.ok in
    let e = c.wait_built.ensures in
    wait_reported _ c.args.me.now c.wait_built.new.me c.args.name.now _ c.in-Ok.number e.goes_on e.same named.0 named.1 c.in-Ok.ensures.ok

pub returns-in-Err : goal.returns-in-Err
returns-in-Err g c =
    let named = c.in_ok-name.ensures.ok in
    let e = c.wait_built.ensures in
    wait_refused _ c.args.me.now c.wait_built.new.me c.args.name.now _ c.in-Err.fault e.goes_on e.same named.0 named.1 c.in-Err.ensures.refused _ c.command_fault.ensures
