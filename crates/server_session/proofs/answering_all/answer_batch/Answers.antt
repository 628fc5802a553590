use Rattle.server_session.proofs.AnswerLemmas.{answers_all, answers_unread}
use Rattle.server_session.proofs.Replies.{batch_right, unread_right}
use Rattle.server_session.proofs.answering_all.answer_batch.Goals as goal

pub returns-in-Ok-clause-answers : goal.returns-in-Ok-clause-answers
returns-in-Ok-clause-answers g c = rw c.in-Ok.is (answers_all c.args.me.now c.submit_all.new.me _ _ c.submit_all.ensures)

pub returns-in-Ok-clause-right : goal.returns-in-Ok-clause-right
returns-in-Ok-clause-right g c = batch_right _ c.args.me.now c.submit_all.new.me _ _ c.submit_all.ensures

pub returns-in-Err-clause-answers : goal.returns-in-Err-clause-answers
returns-in-Err-clause-answers g c = rw c.in-Err.is (answers_unread c.args.me.now _ _ c.unread.ensures)

pub returns-in-Err-clause-right : goal.returns-in-Err-clause-right
returns-in-Err-clause-right g c = unread_right _ c.args.me.now _ _ c.unread.ensures
