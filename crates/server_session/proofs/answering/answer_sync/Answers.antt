use Rattle.std.proofs.Common.{refl}
use Rattle.server_session.proofs.TileAnswers.{may_report_fault, sync_refused, sync_reported}
use Rattle.server_session.proofs.answering.answer_sync.Goals as goal

pub returns-in-Ok : goal.returns-in-Ok
returns-in-Ok g c =
    let e = c.wait_durable.ensures in
    sync_reported _ c.args.me.now c.wait_durable.new.me _ c.in-Ok.number c.in-Ok.is e.goes_on e.same e.without c.in-Ok.ensures.ok (c.wait_durable.new.me.log, refl, c.in-Ok.ensures.reported)

pub returns-in-Err : goal.returns-in-Err
returns-in-Err g c =
    let e = c.wait_durable.ensures in
    sync_refused _ c.args.me.now c.wait_durable.new.me _ c.in-Err.fault c.in-Err.is e.goes_on e.same c.in-Err.ensures.refused
    (may_report_fault g.J.BookName.stored g.J.BookName.failed c.wait_durable.new.me c.in-Err.fault c.in-Err.ensures.failed) e.only_without e.without _ c.command_fault.ensures
