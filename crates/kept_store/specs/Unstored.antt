-- Why a store does not hold the newest version of a book that has ended.
use Rattle.std.specs.Prelude.{◌≡◌, ◌<◌, Option, Some, IfSome}
use Rattle.overlay_terms.specs.Histories.{Version}
use Rattle.disk_model.specs.declared.disk.Disk.{Ghosts}
use Rattle.root_store.specs.Beginning.{IsReason}
use Rattle.root_store.specs.declared.phase.Phase.TheVariants as phases
use Rattle.commit_plan.specs.declared.fault.StoreFault.{StoreFault}
use Rattle.commit_plan.specs.declared.fault.StoreFault.TheVariants as faults
use Rattle.flush_core.specs.Stored.{HasNoRoomFor}
use Rattle.flush_core.specs.declared.flusher.Flusher.{Flusher}

-- a store holds an older version, and refuses to begin the commit of this one for a fault
pub record IsUnstoredFor {D : Type 0} {g : Ghosts D} (fault : StoreFault) (store : Flusher D g) (version : Version) : Type 0 where
  pub older : store.commit.root.version < version.number
  pub reason : IsReason store.commit.phase store.commit.root (HasNoRoomFor store.commit version) fault

-- the reason that is given for it, if one is: the store refuses the version for that; and where its device failed, it is given
pub record IsReasonGiven {D : Type 0} {g : Ghosts D} (given : Option StoreFault) (store : Flusher D g) (version : Version) : Type 0 where
  pub fault : IfSome given (λ (fault : StoreFault). IsUnstoredFor fault store version)
  pub failed : store.commit.phase ≡ phases.Failed → store.commit.root.version < version.number → given ≡ Some faults.Failed
