-- A book's store with its keeper, or its reporter alone.
use Rattle.std.specs.Prelude.{List, [], Option, Some, None}
use Rattle.disk_model.specs.declared.disk.Disk.{Ghosts}
use Rattle.flush_core.specs.declared.flusher.Flusher.{Flusher}
use Rattle.book_lock.specs.Heard.{Heard}
use Rattle.store_flushing.specs.ReportNote.{notes_in}
use Rattle.store_flushing.specs.declared.keeper.store.Store.{Store}
use Rattle.store_flushing.specs.declared.keeper.store.Store.TheVariants.{Kept, Alone}
use Rattle.store_flushing.specs.declared.keeper.report_log.ReportNote.{ReportNote}

module _ {D : Type 0} {g : Ghosts D} where
  -- the one reporter
  abbrev pub reporter_of : Store D g → Heard
  reporter_of (Kept keeper) = keeper.reporter
  reporter_of (Alone reporter) = reporter

  -- the store, where there is one
  abbrev pub flusher_in : Store D g → Option (Flusher D g)
  flusher_in (Kept keeper) = Some keeper.held.flusher
  flusher_in (Alone reporter) = None

  -- what was reported durable
  abbrev pub notes_by : Store D g → List ReportNote
  notes_by (Kept keeper) = notes_in keeper.notes
  notes_by (Alone reporter) = []
