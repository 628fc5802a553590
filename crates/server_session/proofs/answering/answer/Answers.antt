use Rattle.server_session.proofs.AnswerLemmas.{ends_alone, ends_none, ends_whole, takes_waiting, takes_alone, takes_whole}
use Rattle.server_session.proofs.Asked.{asks_alone, asks_whole}
use Rattle.server_session.proofs.Replies.{answer_right}
use Rattle.server_session.proofs.answering.answer.Goals as goal

pub returns-in-Waits-clause-takes : goal.returns-in-Waits-clause-takes
returns-in-Waits-clause-takes g c = takes_waiting _ c.args.me.now _ _ _ c.in-Waits.ensures

pub returns-in-Waits-clause-ends : goal.returns-in-Waits-clause-ends
returns-in-Waits-clause-ends g c = ends_none c.args.me.now _ _ c.args.line.now c.in-Waits.ensures

pub returns-in-Alone-clause-takes : goal.returns-in-Alone-clause-takes
returns-in-Alone-clause-takes g c = takes_alone _ c.args.me.now c.answer_alone.new.me _ _ _ _ _ c.in-Alone.ensures c.answer_alone.ensures

pub returns-in-Alone-clause-ends : goal.returns-in-Alone-clause-ends
returns-in-Alone-clause-ends g c = ends_alone c.args.me.now c.answer_alone.new.me _ _ c.args.line.now _ c.answer_alone.result c.in-Alone.ensures

pub returns-in-Alone-clause-right : goal.returns-in-Alone-clause-right
returns-in-Alone-clause-right g c = answer_right _ c.args.me.now c.answer_alone.new.me _ _ c.answer_alone.ensures

pub returns-in-Whole-clause-takes : goal.returns-in-Whole-clause-takes
returns-in-Whole-clause-takes g c = takes_whole _ c.args.me.now c.answer_batch.new.me _ _ _ _ _ c.in-Whole.ensures c.answer_batch.ensures.answers

pub returns-in-Whole-clause-ends : goal.returns-in-Whole-clause-ends
returns-in-Whole-clause-ends g c = ends_whole c.args.me.now c.answer_batch.new.me _ _ c.args.line.now _ c.answer_batch.result c.in-Whole.ensures

pub answer_alone-requires-clause-asked : goal.answer_alone-requires-clause-asked
answer_alone-requires-clause-asked g c κs within = asks_alone (g.J.BookName.asked c.args.me.now.session) _ _ c.args.line.now _ c.in-Alone.ensures c.requires.asked

pub answer_batch-requires-clause-asked : goal.answer_batch-requires-clause-asked
answer_batch-requires-clause-asked g c = asks_whole (g.J.BookName.asked c.args.me.now.session) _ _ c.args.line.now _ c.in-Whole.ensures c.requires.asked
