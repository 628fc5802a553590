use Rattle.std.proofs.Common.{◌≡◌, ◌++◌, ◌≤◌, length, MatchResult}
use Rattle.std.specs.List.{AllZip}
use Rattle.std.specs.Vec.{vec_len, vec_capacity}
use Rattle.std.specs.Vec.Iter.{into_iter_items, into_iter_len}
use Rattle.version_book.specs.Store.{has_store}
use Rattle.server_session.specs.Stores.{store_of}
use Rattle.session_threads.specs.Running.{IsRunOf}
use Rattle.session_threads.proofs.running.run_sessions.Given as goal

-- each script so far has its thread, or has come back, and there is room for those of the others
abbrev pub invariant-loop-script : goal.invariant-loop-script
invariant-loop-script g l = record {
  all : l.yielded ++ into_iter_items l.script-iterator ≡ into_iter_items l.initial.script-iterator;
  left : into_iter_len l.script-iterator ≡ length (into_iter_items l.script-iterator);
  grown : vec_len l.running ≡ length l.yielded;
  room : length (into_iter_items l.initial.script-iterator) ≤ vec_capacity l.running;
  begun : AllZip (λ script begun. MatchResult begun
      (λ h. (h.promise.begun.value ≡ script) × (h.promise.stored ≡ has_store l.shared))
      (λ back. IsRunOf g.J.BookName.book (store_of g.J.BookName.stored g.J.BookName.failed (has_store l.shared)) g.R.Read.remaining g.W.ReplyWriter.contents script back)) l.yielded l.running.items;
}
