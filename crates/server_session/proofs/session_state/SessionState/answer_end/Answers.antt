use Rattle.std.proofs.Common.{length, ap, sym, arith}
use Rattle.std.proofs.lemmas.Bool.{eqb-true, eqb-false}
use Rattle.version_book.specs.Store.{has_store}
use Rattle.server_session.proofs.Asked.{asks_last}
use Rattle.server_session.proofs.Left.{at_last_feed, at_last_line, behind_last, some_then}
use Rattle.server_session.proofs.Steps.{answers_empty, stops_empty, answers_last, stops_last, stops_at_last, at_err}
use Rattle.server_session.proofs.session_state.SessionState.answer_end.Goals as goal

pub returns-then-is_empty-clause-answers : goal.returns-then-is_empty-clause-answers
returns-then-is_empty-clause-answers g c =
    let same = ap length c.bytes-line.ensures in
    let none = eqb-true (length c.bytes-line.result.now) 0 (sym c.if-is_empty.ensures) in
    answers_empty _ c.args.self.now _ _ _ _ c.take-waiting.ensures.value (omega arith) c.end_batch.result (c.end_batch.ensures.ends _)

pub returns-then-is_empty-clause-stops : goal.returns-then-is_empty-clause-stops
returns-then-is_empty-clause-stops g c =
    let same = ap length c.bytes-line.ensures in
    let none = eqb-true (length c.bytes-line.result.now) 0 (sym c.if-is_empty.ensures) in
    stops_empty _ c.args.self.now _ _ _ _ c.take-waiting.ensures.value (omega arith) c.end_batch.result (c.end_batch.ensures.ends _)

pub returns-in_err-answer_line-clause-stops : goal.returns-in_err-answer_line-clause-stops
returns-in_err-answer_line-clause-stops g c =
    let same = ap length c.bytes-line.ensures in
    let some = eqb-false (length c.bytes-line.result.now) 0 (sym c.if-is_empty.ensures) in
    at_err _ _ _ c.from_residual.ensures.0
    (stops_at_last _ c.args.self.now _ _ _ _ _ _ _ c.take-waiting.ensures.value c.bytes-line.ensures (omega arith) c.in_err-answer_line.ensures.answers)

pub returns-clause-answers : goal.returns-clause-answers
returns-clause-answers g c =
    let same = ap length c.bytes-line.ensures in
    let some = eqb-false (length c.bytes-line.result.now) 0 (sym c.if-is_empty.ensures) in
    answers_last c.end_batch-2.result _ c.args.self.now _ _ _ _ _ _ _ _ c.take-waiting.ensures.value c.bytes-line.ensures (omega arith) c.in_ok-answer_line.ensures.answers (c.end_batch-2.ensures.ends _)

pub returns-clause-stops : goal.returns-clause-stops
returns-clause-stops g c =
    let same = ap length c.bytes-line.ensures in
    let some = eqb-false (length c.bytes-line.result.now) 0 (sym c.if-is_empty.ensures) in
    stops_last c.end_batch-2.result _ c.args.self.now _ _ _ _ _ _ _ _ c.take-waiting.ensures.value c.bytes-line.ensures (omega arith) c.in_ok-answer_line.ensures.answers (c.end_batch-2.ensures.ends _)

pub end_batch-requires : goal.end_batch-requires
end_batch-requires g c =
    let same = ap length c.bytes-line.ensures in
    let none = eqb-true (length c.bytes-line.result.now) 0 (sym c.if-is_empty.ensures) in
    record {
      from = (has_store c.args.shared.now, c.requires.from);
      own = some_then _ (at_last_feed c.args.self.now _ c.take-waiting.ensures.value (omega arith)) c.requires.own;
    }

pub answer_line-requires-clause-own : goal.answer_line-requires-clause-own
answer_line-requires-clause-own g c κs within =
    let same = ap length c.bytes-line.ensures in
    let some = eqb-false (length c.bytes-line.result.now) 0 (sym c.if-is_empty.ensures) in
    some_then _ (at_last_line c.args.self.now _ c.take-waiting.ensures.value _ c.bytes-line.ensures (omega arith)) c.requires.own

pub end_batch-requires-2 : goal.end_batch-requires-2
end_batch-requires-2 g c =
    let same = ap length c.bytes-line.ensures in
    let some = eqb-false (length c.bytes-line.result.now) 0 (sym c.if-is_empty.ensures) in
    record {
      from = (has_store c.args.shared.now, c.in_ok-answer_line.ensures.from);
      own = behind_last c.args.self.now _ c.take-waiting.ensures.value _ c.bytes-line.ensures (omega arith) c.args.me.now c.answer_line.new.me c.answer_line.new.waiting _ _ c.in_ok-answer_line.ensures.answers
          (g.W.ReplyWriter.left c.args.writer.now) (g.W.ReplyWriter.left c.answer_line.new.writer) c.in_ok-answer_line.ensures.left c.requires.own;
    }

pub answer_line-requires-clause-asked : goal.answer_line-requires-clause-asked
answer_line-requires-clause-asked g c κs within =
    let same = ap length c.bytes-line.ensures in
    let some = eqb-false (length c.bytes-line.result.now) 0 (sym c.if-is_empty.ensures) in
    asks_last (g.J.BookName.asked c.args.me.now.session) c.args.self.now _ c.take-waiting.ensures.value _ c.bytes-line.ensures (omega arith) c.requires.asked
