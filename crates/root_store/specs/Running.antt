-- What is known of a store between the calls of its disk.
use Rattle.std.specs.Prelude.{◌≡◌, ◌⊎◌, ℕ, ◌+◌, ◌-◌, ◌<◌, ◌≤◌, Bool, true, false, length, drop, Result, IfOk, OnErr}
use Rattle.disk_model.specs.declared.disk.Disk.{Ghosts}
use Rattle.disk_model.specs.Disk as device
use Rattle.disk_model.specs.Moments.{Leaves, LeavesOnly}
use Rattle.extent_map.specs.Taken.{limit_of}
use Rattle.commit_plan.specs.declared.fault.StoreFault.{StoreFault}
use Rattle.commit_plan.specs.declared.fault.StoreFault.TheVariants as faults
use Rattle.root_store.specs.declared.phase.Phase.{Phase}
use Rattle.root_store.specs.declared.phase.Phase.TheVariants.{Idle, Close, Settle, Put, Open, Finish, Failed}
use Rattle.root_store.specs.declared.phase.Progress.{Progress}
use Rattle.root_store.specs.declared.phase.Progress.TheVariants as progress
use Rattle.root_store.specs.declared.commit.Commit.{Commit}
use Rattle.commit_plan.specs.Kept.{Kept, Either}
use Rattle.store_terms.specs.Image.{Held}
use Rattle.root_store.specs.Content.{content_of, IsAtRest, IsBefore, IsUnderWay}

module _ {D : Type 0} (g : Ghosts D) where
  -- the store is at rest, and its file holds x
  abbrev pub StoreStandsFor : Commit D g → Kept → Type 0
  StoreStandsFor s x = IsAtRest g s.disk s.phase s.root s.live x

  -- what is known before the call that a phase is named for
  abbrev pub Before : Phase → Commit D g → Kept → Kept → Type 0
  Before phase s x y = IsBefore g phase s.disk (drop s.next s.plan.items) x y

  -- a commit from x to y is under way
  abbrev pub RunsFrom : Commit D g → Kept → Kept → Type 0
  RunsFrom s x y = IsUnderWay g s.disk s.phase s.root s.next_root s.next_live (drop s.next s.plan.items) x y

  -- the commit that is under way goes from the content of the live root that was, to one that holds this
  abbrev pub LeadsTo : Commit D g → Commit D g → Held → Type 0
  LeadsTo old new held =
      ((content_of new.next_root new.next_live).held ≡ held)
      × RunsFrom new (content_of old.root old.live) (content_of new.next_root new.next_live)

  -- what a step answers, and where it leaves the store
  abbrev pub Outcome : Commit D g → Progress → Kept → Kept → Type 0
  Outcome new progress.Idle x y = ⊥
  Outcome new progress.Going x y = RunsFrom new x y
  Outcome new (progress.Done number) x y = StoreStandsFor new y × (number ≡ y.root.version)

  -- a step of a commit from x to y: a stop at any moment of it leaves x or y
  pub record Stepped (old new : Commit D g) (result : Result Progress StoreFault) (x y : Kept) : Type 0 where
    pub moments : LeavesOnly g old.disk new.disk (Either x y)
    pub ok : IfOk result (λ p. Outcome new p x y)
    -- open the disk again
    pub err : OnErr result (Leaves g new.disk (Either x y) × (new.phase ≡ Failed))

  -- a store fails by its device alone: the count of failed calls never sinks, and it rose where the store failed
  pub record FailsByDevice (old new : Commit D g) : Type 0 where
    pub no_less : g.faults old.disk ≤ g.faults new.disk
    pub failed : new.phase ≡ Failed → (old.phase ≡ Failed) ⊎ device.Failed (g.faults old.disk) (g.faults new.disk)

-- the live root and the next one stay as they are
abbrev pub KeepsRoots : {D : Type 0} {g : Ghosts D} → Commit D g → Commit D g → Type 0
KeepsRoots old new = (new.root ≡ old.root) × (new.next_root ≡ old.next_root)

-- what a step makes of the roots: Done reports the number of the root that the commit leads to, which is live from then
-- on; any other answer leaves both
abbrev pub Turns : {D : Type 0} {g : Ghosts D} → Progress → Commit D g → Commit D g → Type 0
Turns progress.Idle old new = KeepsRoots old new
Turns progress.Going old new = KeepsRoots old new
Turns (progress.Done number) old new =
    (number ≡ old.next_root.version) × (new.root ≡ old.next_root) × (new.next_root ≡ old.next_root)

-- what the live root and the next one hold stays as it is
abbrev pub KeepsRecords : {D : Type 0} {g : Ghosts D} → Commit D g → Commit D g → Type 0
KeepsRecords old new = (new.live ≡ old.live) × (new.next_live ≡ old.next_live)

-- what a step makes of that: what the next root holds, the live one holds from Done on; any other answer leaves both
abbrev pub TurnsRecords : {D : Type 0} {g : Ghosts D} → Progress → Commit D g → Commit D g → Type 0
TurnsRecords progress.Idle old new = KeepsRecords old new
TurnsRecords progress.Going old new = KeepsRecords old new
TurnsRecords (progress.Done number) old new = new.live ≡ old.next_live

-- the file may have at most so many blocks: that is the limit of the live root's room, and of the room after a commit
abbrev pub KeepsTo : {D : Type 0} {g : Ghosts D} → ℕ → Commit D g → Type 0
KeepsTo limit s = (limit_of s.live.room.map ≡ limit) × (limit_of s.next_live.room.map ≡ limit)

-- whether a commit is under way
abbrev pub is_busy : Phase → Bool
is_busy Idle = false
is_busy Failed = false
is_busy phase = true

-- the fault that a step answers: that of an earlier call, or the device's
abbrev pub fault_in : Phase → StoreFault
fault_in Idle = faults.Device
fault_in Close = faults.Device
fault_in Settle = faults.Device
fault_in Put = faults.Device
fault_in Open = faults.Device
fault_in Finish = faults.Device
fault_in Failed = faults.Failed

-- the device calls that are left until Done
abbrev pub calls_in : Phase → ℕ → ℕ → ℕ
calls_in Idle n i = 0
calls_in Close n i = (n - i) + 5
calls_in Settle n i = (n - i) + 4
calls_in Put n i = (n - i) + 3
calls_in Open n i = 2
calls_in Finish n i = 1
calls_in Failed n i = 0

-- how many device calls a store has left until its commit is done
abbrev pub calls_left : {D : Type 0} {g : Ghosts D} → Commit D g → ℕ
calls_left s = calls_in s.phase (length s.plan.items) s.next

-- a step leaves one call fewer, and Done is the answer of the last
abbrev pub Counts : Progress → ℕ → ℕ → Type 0
Counts progress.Idle old new = (old ≡ 0) × (new ≡ 0)
Counts progress.Going old new = (old ≡ new + 1) × (0 < new)
Counts (progress.Done number) old new = (old ≡ 1) × (new ≡ 0)

-- what a store on an honest disk holds is the content of its live root
abbrev pub StoresStand : {D : Type 0} → Ghosts D → Type 0
StoresStand {D = D} g =
    (s : Commit D g) → g.is_honest s.disk → s.phase ≡ Idle → StoreStandsFor g s (content_of s.root s.live)

-- a commit that is under way on an honest disk goes from the content of the live root to that of the next root
abbrev pub CommitsRun : {D : Type 0} → Ghosts D → Type 0
CommitsRun {D = D} g =
    (s : Commit D g) → g.is_honest s.disk → is_busy s.phase ≡ true
    → RunsFrom g s (content_of s.root s.live) (content_of s.next_root s.next_live)
