-- The bytes before those that rest are taken, and the turns that they end are answered.
use Rattle.std.proofs.Common.{◌≡◌, ℕ, false, List, ◌++◌, length}
use Rattle.version_book.specs.Store.{has_store}
use Rattle.server_session.specs.Session.{Stays}
use Rattle.server_session.specs.Stores.{store_of}
use Rattle.server_session.specs.SessionState.{has_ended, HasTaken, turns_ended, AnswersTurns}
use Rattle.server_session.proofs.Left.{TakesAway}
use Rattle.server_session.proofs.session_state.SessionState.answer_bytes.Given as goal

abbrev pub invariant-loop-at : goal.invariant-loop-at
invariant-loop-at g l = record {
  past : List ℕ;
  parts : past ++ l.rest ≡ l.bytes;
  takes : (taken : List ℕ) → HasTaken l.initial.self taken → HasTaken l.self (taken ++ past);
  answers : (taken : List ℕ) → HasTaken l.initial.self taken
      → AnswersTurns (store_of g.J.BookName.stored g.J.BookName.failed (has_store l.shared)) l.initial.me (turns_ended taken past) l.me (g.W.ReplyWriter.contents l.initial.writer) (g.W.ReplyWriter.contents l.writer);
  going : has_ended l.self ≡ false;
  stays : Stays l.initial.me l.me;
  from : g.W.ReplyWriter.from l.writer (has_store l.shared) l.me;
  limit : g.W.ReplyWriter.may_pass_limit l.initial.writer → g.W.ReplyWriter.may_pass_limit l.writer;
  left : TakesAway l.initial.self past (g.W.ReplyWriter.left l.initial.writer) (g.W.ReplyWriter.left l.writer);
}

abbrev pub decreases-loop-at : goal.decreases-loop-at
decreases-loop-at g l = length l.rest
