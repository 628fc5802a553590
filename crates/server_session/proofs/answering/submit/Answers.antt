use Rattle.server_session.proofs.AnswerLemmas.{submits_accepted, submits_refused}
use Rattle.server_session.proofs.answering.submit.Goals as goal

pub returns-in-Ok : goal.returns-in-Ok
returns-in-Ok g c =
    let e = c.submit.ensures in
    let done = c.in-Ok.ensures in
    submits_accepted c.args.me.now c.submit.new.me _ c.in-Ok.number e.goes_on e.same done.ok done.made

pub returns-in-Err : goal.returns-in-Err
returns-in-Err g c =
    let e = c.submit.ensures in
    let refused = c.in-Err.ensures in
    submits_refused c.args.me.now c.submit.new.me _ c.in-Err.fault e.goes_on e.same refused.err refused.refused _ c.command_fault.ensures
