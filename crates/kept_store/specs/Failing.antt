-- For which faults a store fails.
use Rattle.std.specs.Prelude.{◌≡◌, ◌≤◌, List}
use Rattle.disk_model.specs.declared.disk.Disk.{Ghosts}
use Rattle.disk_model.specs.Disk as device
use Rattle.overlay_terms.specs.Histories.{Version, Entry, History}
use Rattle.store_terms.specs.Roots.{sequence_max}
use Rattle.root_store.specs.declared.phase.Phase.TheVariants as phases
use Rattle.root_store.specs.Running.{FailsByDevice}
use Rattle.flush_core.specs.Stored.{HasNoRoomFor}
use Rattle.flush_core.specs.declared.flusher.Flusher.{Flusher}
use Rattle.book_history.specs.Logs.{history_of, newest_in}
use Rattle.book_history.specs.declared.fault.ReportedFault.{ReportedFault}
use Rattle.book_history.specs.declared.fault.ReportedFault.TheVariants.{Device, Full, Failed, SequenceLimit, OutOfMemory}
use Rattle.kept_store.specs.Storing.{IsFollowed, IsStoreOf, KeepsLimit}

-- why a store does not write a version: a device call failed since it was `old`; it begins no commit, as there is no room
-- for the version's new records, or the device failed before, or there is no number for it; or memory ran out
abbrev pub FailsToWrite : {D : Type 0} {g : Ghosts D} → Flusher D g → Flusher D g → Version → ReportedFault → Type 0
FailsToWrite {g = g} old now version Device = device.Failed (g.faults old.commit.disk) (g.faults now.commit.disk)
FailsToWrite old now version Full = (now.commit.phase ≡ phases.Idle) × HasNoRoomFor now.commit version
FailsToWrite old now version Failed = now.commit.phase ≡ phases.Failed
FailsToWrite old now version SequenceLimit = (now.commit.phase ≡ phases.Idle) × (sequence_max ≤ now.commit.root.sequence)
FailsToWrite old now version OutOfMemory = Unit {0}

-- a store failed for a fault, of a log: a store to which the first one was followed by that log, whose file may have as many
-- blocks, does not write its newest version for it
pub record FailedAt {D : Type 0} (g : Ghosts D) (was : History) (old : Flusher D g) (log : List Entry) (fault : ReportedFault) : Type 0 where
  pub store : Flusher D g
  pub followed : IsFollowed g was old (history_of log) store
  pub by_device : FailsByDevice g old.commit store.commit
  pub blocks : KeepsLimit old store
  pub fails : FailsToWrite old store (newest_in log) fault

-- a predicate holds of each fault for which a store fails, where a store of a history was followed to that log
abbrev pub HoldsOfFailed : {D : Type 0} (g : Ghosts D) → (List Entry → ReportedFault → Type 0) → History → Flusher D g → Type 0
HoldsOfFailed g failed was old =
    (log : List Entry) (fault : ReportedFault) → (IsStoreOf g was old → FailedAt g was old log fault) → failed log fault
