use Rattle.std.specs.Prelude.{◌≡◌, take}
use Rattle.book_history.specs.Logs.{newest_in}
use Rattle.book_lock.specs.Steps.{AreFinishedIn}
use Rattle.book_lock.proofs.locked_log.LockedLog.add_tiles.Given as goal

-- the tiles before a place are finished
abbrev pub invariant-loop-built : goal.invariant-loop-built
invariant-loop-built g l = record {
  count : l.count ≡ l.built-index;
  last : l.version ≡ newest_in l.seen_log.log;
  book : l.seen_log.book ≡ g.J.BookName.book;
  finished : AreFinishedIn l.fn.seen_log.log l.name (take l.built-index l.tiles) l.seen_log.log;
}
