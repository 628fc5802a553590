use Rattle.std.proofs.Common.{◌≡◌, ◌+◌, ◌-◌, ◌≤◌, IfSome, false, length}
use Rattle.version_book.specs.Store.{has_store}
use Rattle.server_session.specs.Replying.{IsPastMost}
use Rattle.server_session.specs.Session.{Stays}
use Rattle.server_session.specs.Stores.{store_of}
use Rattle.server_session.specs.SessionState.{has_ended}
use Rattle.server_session.proofs.Endings.{IsUnderWay}
use Rattle.server_session.proofs.Left.{IsReading}
use Rattle.server_session.proofs.session.run.Given as goal

-- so many bytes are taken of the script, and the turns are answered that those within the limit end; the writer goes on from
-- what the session knows, and has the other turns left
-- and, where the script is longer than it may be, can be reported so
abbrev pub invariant-loop-taken : goal.invariant-loop-taken
invariant-loop-taken g l = record {
  limited : l.taken ≤ l.most + 1;
  room : length l.chunk ≡ length l.initial.chunk;
  going : has_ended l.state ≡ false;
  stays : Stays l.initial.me l.me;
  from : g.W.ReplyWriter.from l.writer (has_store l.shared) l.me;
  limit : IsPastMost l.most (g.R.Read.remaining l.initial.reader) → g.W.ReplyWriter.may_pass_limit l.writer;
  own : IfSome (g.W.ReplyWriter.left l.writer) (IsReading l.most l.taken (g.R.Read.remaining l.reader) l.state);
  way : IsUnderWay l.most (store_of g.J.BookName.stored g.J.BookName.failed (has_store l.shared)) l.initial.me (g.R.Read.remaining l.initial.reader) (g.R.Read.remaining l.reader) (g.W.ReplyWriter.contents l.initial.writer) (g.W.ReplyWriter.contents l.writer) l.taken l.state l.me;
}

abbrev pub decreases-loop-taken : goal.decreases-loop-taken
decreases-loop-taken g l = l.most + 1 - l.taken
