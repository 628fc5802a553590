use Rattle.std.proofs.Common.{◌≡◌, ◌++◌, ◌≤◌, length, MatchResult}
use Rattle.std.specs.Vec.{vec_len, vec_capacity}
use Rattle.std.specs.Vec.Iter.{into_iter_items, into_iter_len}
use Rattle.server_session.specs.Stores.{store_of}
use Rattle.session_threads.specs.Running.{IsRunOf}
use Rattle.session_threads.specs.Seats.{Leave}
use Rattle.session_threads.proofs.running.join_sessions.Given as goal

-- each thread that was taken in has kept its promise, what came back is as it came, and there is room for what the others leave
abbrev pub invariant-loop-begun : goal.invariant-loop-begun
invariant-loop-begun g l = record {
  all : l.yielded ++ into_iter_items l.begun-iterator ≡ into_iter_items l.initial.begun-iterator;
  left : into_iter_len l.begun-iterator ≡ length (into_iter_items l.begun-iterator);
  sessions_grown : vec_len l.sessions ≡ length l.yielded;
  sessions_room : length (into_iter_items l.initial.begun-iterator) ≤ vec_capacity l.sessions;
  finished_grown : vec_len l.finished ≡ length l.yielded;
  finished_room : length (into_iter_items l.initial.begun-iterator) ≤ vec_capacity l.finished;
  leave : Leave (λ begun ended. MatchResult begun
      (λ h. IsRunOf g.J.BookName.book (store_of g.J.BookName.stored g.J.BookName.failed h.promise.stored) g.R.Read.remaining g.W.ReplyWriter.contents h.promise.begun.value ended)
      (λ back. ended ≡ back)) l.yielded l.sessions.items l.finished.items;
}
