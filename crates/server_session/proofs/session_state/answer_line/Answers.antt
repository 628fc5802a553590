use Rattle.std.proofs.Common.{[], subst, sym}
use Rattle.std.proofs.KnownBytes.{Appends-nil}
use Rattle.book_history.specs.Known.{seen}
use Rattle.version_book.specs.Store.{has_store}
use Rattle.server_session.specs.Stores.{MayBeReportedAt}
use Rattle.server_session.proofs.Left.{next_reply, none_ended, ok_then, reply_ended, some_then}
use Rattle.server_session.proofs.Weaker.{reply_since}
use Rattle.server_session.proofs.session_state.answer_line.Goals as goal

pub reply-requires : goal.reply-requires
reply-requires g c =
    let was = c.in-Some.ensures in
    let there = has_store c.args.shared.now in
    let stored = g.J.BookName.stored in
    let failed = g.J.BookName.failed in
    let may = g.W.ReplyWriter.may_report in
    record {
      right =
          some_then _ (next_reply (g.W.ReplyWriter.from c.args.writer.now) stored failed there may c.args.me.now c.answer.new.me c.args.waiting.now c.answer.new.waiting c.args.line.now c.in-Some.reply
          c.requires.from c.requires.reported was.takes was.ends) c.requires.own;
      reported = (
        there,
        c.args.me.now,
        c.requires.from,
        was.takes.stays,
        reply_since (MayBeReportedAt stored failed) may there (seen c.args.me.now) c.requires.reported c.args.me.now c.answer.new.me _ was.takes.stays.goes_on was.right,
      );
    }

pub returns-in-Some-clause-from : goal.returns-in-Some-clause-from
returns-in-Some-clause-from g c = ok_then c.reply.result (λ goes_on. goes_on (has_store c.args.shared.now) c.args.me.now c.requires.from) c.reply.ensures.from

pub returns-in-Some-clause-left : goal.returns-in-Some-clause-left
returns-in-Some-clause-left g c =
    ok_then c.reply.result (reply_ended c.args.me.now c.answer.new.me c.args.waiting.now c.args.line.now c.in-Some.reply c.in-Some.ensures.ends
    (g.W.ReplyWriter.left c.args.writer.now) (g.W.ReplyWriter.left c.reply.new.self)) c.reply.ensures.left

pub returns-in-None-clause-answers : goal.returns-in-None-clause-answers
returns-in-None-clause-answers g c = ([], c.in-None.ensures.takes, Appends-nil (g.W.ReplyWriter.contents c.args.writer.now))

pub returns-in-None-clause-from : goal.returns-in-None-clause-from
returns-in-None-clause-from g c = subst (g.W.ReplyWriter.from c.args.writer.now (has_store c.args.shared.now)) (sym c.in-None.ensures.ends.0) c.requires.from

pub returns-in-None-clause-left : goal.returns-in-None-clause-left
returns-in-None-clause-left g c = none_ended c.args.me.now c.answer.new.me c.args.waiting.now c.args.line.now c.in-None.ensures.ends (g.W.ReplyWriter.left c.args.writer.now)
