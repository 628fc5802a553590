use Rattle.server_session.specs.Stores.{store_of}
use Rattle.server_session.proofs.Left.{cut_off_some, some_then}
use Rattle.server_session.proofs.Replies.{cut_off_right}
use Rattle.server_session.proofs.Steps.{ends_alone, ends_refused}
use Rattle.server_session.proofs.Turns.{stays_self}
use Rattle.server_session.proofs.session_state.end_batch.Goals as goal

pub reply-requires : goal.reply-requires
reply-requires g c =
    let me = c.args.me.now in
    record {
      right = some_then _ (cut_off_some (g.W.ReplyWriter.from c.args.writer.now) c.requires.from.0 g.W.ReplyWriter.may_report me _ c.if-is_none.ensures c.requires.from.1) c.requires.own;
      reported = (c.requires.from.0, me, c.requires.from.1, stays_self me, cut_off_right _ me);
    }

pub returns-then-is_none-clause-ends : goal.returns-then-is_none-clause-ends
returns-then-is_none-clause-ends g c there = ends_alone _ _ c.if-is_none.ensures (store_of g.J.BookName.stored g.J.BookName.failed there)

pub returns-clause-ends : goal.returns-clause-ends
returns-clause-ends g c there = ends_refused _ _ _ _ c.if-is_none.ensures c.reply.ensures.writes (store_of g.J.BookName.stored g.J.BookName.failed there)
