use Rattle.std.proofs.Common.{subst, sym}
use Rattle.flush_core.specs.declared.flusher.Flusher.{Flusher}
use Rattle.book_history.specs.Logs.{history_of}
use Rattle.book_lock.specs.Heard.{Heard}
use Rattle.kept_store.specs.Failing.{HoldsOfFailed}
use Rattle.kept_store.specs.Storing.{HoldsOfStored}
use Rattle.kept_store.specs.declared.held_store.HeldStore.{HeldStore}
use Rattle.store_flushing.proofs.keeper.flushing.flusher_loop.Goals as goal

pub flush-requires-clause-stored : goal.flush-requires-clause-stored
flush-requires-clause-stored g c =
    let e = c.of-keeper.ensures in
    subst (λ (r : Heard). HoldsOfStored g.D.Disk g.J.BookName.stored (history_of r.log) c.of-keeper.result.held.flusher) (sym e.reporter)
    (subst (λ (h : HeldStore g.row.D.Denot g.D.Disk). HoldsOfStored g.D.Disk g.J.BookName.stored (history_of c.args.reporter.log) h.flusher) (sym e.held)
    (subst (λ (f : Flusher g.row.D.Denot g.D.Disk). HoldsOfStored g.D.Disk g.J.BookName.stored (history_of c.args.reporter.log) f) (sym c.of-held.ensures.flusher) c.requires.stored))

pub flush-requires-clause-failed : goal.flush-requires-clause-failed
flush-requires-clause-failed g c =
    let e = c.of-keeper.ensures in
    subst (λ (r : Heard). HoldsOfFailed g.D.Disk g.J.BookName.failed (history_of r.log) c.of-keeper.result.held.flusher) (sym e.reporter)
    (subst (λ (h : HeldStore g.row.D.Denot g.D.Disk). HoldsOfFailed g.D.Disk g.J.BookName.failed (history_of c.args.reporter.log) h.flusher) (sym e.held)
    (subst (λ (f : Flusher g.row.D.Denot g.D.Disk). HoldsOfFailed g.D.Disk g.J.BookName.failed (history_of c.args.reporter.log) f) (sym c.of-held.ensures.flusher) c.requires.failed))
