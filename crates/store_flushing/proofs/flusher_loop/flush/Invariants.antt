use Rattle.std.proofs.Common.{◌≡◌}
use Rattle.book_history.specs.Logs.{history_of}
use Rattle.kept_store.specs.Storing.{IsStoreOf, Flushes}
use Rattle.store_flushing.specs.ReportNote.{KeepsNotes}
use Rattle.store_flushing.proofs.flusher_loop.flush.Given as goal

-- a run so far
abbrev pub invariant-rounds : goal.invariant-rounds
invariant-rounds g l =
    (l.keeper.reporter.book ≡ l.initial.keeper.reporter.book)
    × (IsStoreOf g.D.Disk (history_of l.initial.keeper.reporter.log) l.initial.keeper.held.flusher
    → Flushes g.D.Disk (history_of l.initial.keeper.reporter.log) l.initial.keeper.held.flusher (history_of l.keeper.reporter.log) l.keeper.held.flusher)
    × KeepsNotes g.D.Disk l.initial.keeper l.keeper
    × (l.keeper.held.flusher.commit.name ≡ l.initial.keeper.held.flusher.commit.name)
