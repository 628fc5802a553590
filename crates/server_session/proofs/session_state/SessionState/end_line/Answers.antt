use Rattle.std.proofs.Common.{refl}
use Rattle.server_session.proofs.Asked.{asks_fed}
use Rattle.server_session.proofs.Left.{at_line, line_away, ok_then, some_then}
use Rattle.server_session.proofs.Steps.{answers_line, stops_line, takes_line}
use Rattle.server_session.proofs.session_state.SessionState.end_line.Goals as goal

pub answer_line-reported-requires-clause-own : goal.answer_line-reported-requires-clause-own
answer_line-reported-requires-clause-own g c κs within =
    some_then _ (at_line c.args.self.now c.args.bytes.now _ c.requires.no_feed c.push_all.ensures c.take-waiting.result _ c.take-waiting.ensures.value c.without_cr-line.ensures) c.requires.own

pub returns-clause-takes : goal.returns-clause-takes
returns-clause-takes g c =
    takes_line _ c.args.self.now c.args.bytes.now _ c.requires.no_feed c.push_all.ensures _ _ c.take-waiting.result _ _ c.take-waiting.ensures.value c.without_cr-line.ensures _ _ c.answer_line-reported.result _ c.clear.ensures
    refl c.answer_line-reported.ensures.answers

pub returns-clause-answers : goal.returns-clause-answers
returns-clause-answers g c =
    answers_line _ c.args.self.now c.args.bytes.now _ c.requires.no_feed c.push_all.ensures _ _ c.take-waiting.result _ _ c.take-waiting.ensures.value c.without_cr-line.ensures _ _ c.answer_line-reported.result
    c.answer_line-reported.ensures.answers

pub returns-clause-stops : goal.returns-clause-stops
returns-clause-stops g c =
    stops_line _ c.args.self.now c.args.bytes.now _ c.requires.no_feed c.push_all.ensures _ _ c.take-waiting.result _ _ c.take-waiting.ensures.value c.without_cr-line.ensures _ _ c.answer_line-reported.result
    c.answer_line-reported.ensures.answers

pub returns-clause-left : goal.returns-clause-left
returns-clause-left g c =
    ok_then c.answer_line-reported.result
    (line_away c.args.self.now c.args.bytes.now _ c.requires.no_feed c.push_all.ensures c.take-waiting.result _ c.take-waiting.ensures.value c.without_cr-line.ensures
    (g.W.ReplyWriter.left c.args.writer.now) (g.W.ReplyWriter.left c.answer_line-reported.new.writer)) c.answer_line-reported.ensures.left

pub answer_line-reported-requires-clause-asked : goal.answer_line-reported-requires-clause-asked
answer_line-reported-requires-clause-asked g c κs within =
    asks_fed (g.J.BookName.asked c.args.me.now.session) c.args.self.now c.args.bytes.now _ c.requires.no_feed c.push_all.ensures c.take-waiting.result _ c.take-waiting.ensures.value c.without_cr-line.ensures c.requires.asked
