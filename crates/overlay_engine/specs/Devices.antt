-- The device step of an engine.
use Rattle.std.specs.Prelude.{◌≡◌, ◌⊎◌, ◌+◌, ◌<◌, ◌≤◌, true, false}
use Rattle.disk_model.specs.declared.disk.Disk.{Ghosts}
use Rattle.disk_model.specs.Disk as disks
use Rattle.store_terms.specs.Roots.{sequence_max}
use Rattle.commit_plan.specs.declared.fault.StoreFault.{StoreFault}
use Rattle.commit_plan.specs.declared.fault.StoreFault.TheVariants as fault
use Rattle.root_store.specs.declared.phase.Phase.TheVariants.{Idle, Close, Failed}
use Rattle.root_store.specs.declared.phase.Progress.TheVariants as progress
use Rattle.root_store.specs.Beginning.{IsReason}
use Rattle.flush_core.specs.Stored.{HasRoomFor, HasNoRoomFor, calls_of}
use Rattle.commit_plan.specs.Fault.{code_of}
use Rattle.root_store.specs.Running.{Counts, Turns, KeepsRoots, calls_left, is_busy}
use Rattle.overlay_engine.specs.declared.engine.Engine.{Engine}
use Rattle.overlay_engine.specs.declared.step.Reply.{Reply}
use Rattle.overlay_engine.specs.declared.step.Reply.TheVariants.{Refused, Going, Done}

module _ {D : Type 0} {g : Ghosts D} where
  -- a commit of the newest version begins, where none is under way, the device did not fail, there is a number for it, and there is room: nothing changes but that it is under way, to a root with the version's number, with so many calls left
  pub record Begins (old mid : Engine D g) : Type 0 where
    pub idle : old.flusher.commit.phase ≡ Idle
    pub below : old.flusher.commit.root.sequence < sequence_max
    pub began : mid.flusher.commit.phase ≡ Close
    pub number : mid.flusher.commit.next_root.version ≡ old.version.number
    pub room : HasRoomFor old.flusher.commit old.version
    pub calls : calls_left mid.flusher.commit ≡ calls_of old.flusher.commit old.version
    pub stored : mid.flusher.commit.root.version ≡ old.flusher.commit.root.version
    pub disk : mid.flusher.commit.disk ≡ old.flusher.commit.disk
    pub rest : mid ≡ record old { flusher = mid.flusher }

  -- a commit can't begin, for the first reason: the device failed before, there is no number for it, no room, or no memory; and nothing changes
  pub record BeginsNothing (old : Engine D g) (reply : Reply) (new : Engine D g) : Type 0 where
    pub why : StoreFault
    pub reason : IsReason old.flusher.commit.phase old.flusher.commit.root (HasNoRoomFor old.flusher.commit old.version) why
    pub failed : old.flusher.commit.phase ≡ Failed → why ≡ fault.Failed
    pub limit : old.flusher.commit.phase ≡ Idle → sequence_max ≤ old.flusher.commit.root.sequence → why ≡ fault.SequenceLimit
    pub says : reply ≡ Refused (code_of why)
    pub same : new ≡ old

module _ {D : Type 0} (g : Ghosts D) where
  -- the device failed from one engine to the next
  abbrev pub DeviceFailed : Engine D g → Engine D g → Type 0
  DeviceFailed old new =
      g.is_honest old.flusher.commit.disk → disks.Failed (g.faults old.flusher.commit.disk) (g.faults new.flusher.commit.disk)

  -- the disk was called once, without a fault
  abbrev pub CallsOnce : Engine D g → Engine D g → Type 0
  CallsOnce old new = g.is_honest old.flusher.commit.disk
      → g.is_honest new.flusher.commit.disk × (g.calls new.flusher.commit.disk ≡ g.calls old.flusher.commit.disk + 1)

  -- or once, and it failed
  abbrev pub FailsOnce : Engine D g → Engine D g → Type 0
  FailsOnce old new = g.is_honest old.flusher.commit.disk
      → g.is_honest new.flusher.commit.disk × disks.FailedCall (g.calls old.flusher.commit.disk) (g.calls new.flusher.commit.disk)

  -- one device call of the commit under way: a call fewer is left; or it was the last, and what is stored is the root that the commit leads to, with the number that is answered; or the device failed in it, and no commit is under way any more
  abbrev pub Calls : Engine D g → Reply → Engine D g → Type 0
  Calls old Going new =
      Counts progress.Going (calls_left old.flusher.commit) (calls_left new.flusher.commit) × KeepsRoots old.flusher.commit new.flusher.commit × (new ≡ record old { flusher = new.flusher }) × CallsOnce old new
  Calls old (Done number) new =
      Counts (progress.Done number) (calls_left old.flusher.commit) (calls_left new.flusher.commit) × Turns (progress.Done number) old.flusher.commit new.flusher.commit × (new ≡ record old { flusher = new.flusher }) × CallsOnce old new
  Calls old (Refused code) new =
      (code ≡ 30) × DeviceFailed old new × (new.flusher.commit.phase ≡ Failed) × KeepsRoots old.flusher.commit new.flusher.commit × (new ≡ record old { flusher = new.flusher }) × FailsOnce old new
  Calls old reply new = ⊥

  -- where a commit is under way, one call of it; else the first call of the commit of the newest version, or a refusal of that
  abbrev pub Devices : Engine D g → Reply → Engine D g → Type 0
  Devices old reply new =
      ((is_busy old.flusher.commit.phase ≡ true) × Calls old reply new)
      ⊎ ((is_busy old.flusher.commit.phase ≡ false) × (mid : Engine D g) × Begins old mid × Calls mid reply new)
      ⊎ ((is_busy old.flusher.commit.phase ≡ false) × BeginsNothing old reply new)
