-- What opening makes of a disk.
use Rattle.std.specs.Prelude.{◌≡◌, ◌≢◌, ◌⊎◌, ◌+◌, ◌<◌, Bool, List, ℕ, ◌≤◌, Result, Ok, Err, IfOk, OnErr}
use Rattle.disk_model.specs.declared.disk.Disk.{Ghosts}
use Rattle.disk_model.specs.Disk.{Only, Failed, FailedCall, Fewer, Torn}
use Rattle.disk_model.specs.Moments.{Leaves, LeavesOnly}
use Rattle.extent_map.specs.Taken.{taken_of}
use Rattle.store_terms.specs.Image.{Held, listing_of}
use Rattle.store_terms.specs.StandsFor.{root_of, reading, gate, open_gate, body_at}
use Rattle.store_terms.specs.declared.root.Root.{Root}
use Rattle.store_terms.specs.Roots.{body_size, sequence_max}
use Rattle.store_terms.specs.declared.damage.Damage.{Damage}
use Rattle.commit_plan.specs.declared.fault.StoreFault.{StoreFault}
use Rattle.commit_plan.specs.declared.fault.StoreFault.TheVariants as stores
use Rattle.root_reading.specs.declared.load_fault.LoadFault.{LoadFault}
use Rattle.commit_plan.specs.declared.loaded.Loaded.{Loaded}
use Rattle.commit_plan.specs.Kept.{extents_in, other, Calm}
use Rattle.commit_plan.specs.Loaded.{held_in, kept_in}
use Rattle.root_reading.specs.RootRuns.{IsMapOf}
use Rattle.root_reading.specs.Looking.{Gives}
use Rattle.root_store.specs.Finding.{has_shut_gate}
use Rattle.root_store.specs.Healing.{HoldsTwin}

-- after the first sync, all is read: a crash leaves the bytes that were seen, and nothing else
pub record IsRead {D : Type 0} (g : Ghosts D) (old new : D) (x : Loaded) (is_shut : Bool) : Type 0 where
  pub only : Only (g.seen old) (g.may_leave new)
  pub root : root_of (g.seen old) ≡ Ok x.root
  pub listing : listing_of (g.seen old) x.root ≡ Ok (kept_in x).listing
  pub shut_gate : is_shut ≡ has_shut_gate (g.seen old)
  pub room : IsMapOf (extents_in (kept_in x)) (taken_of x.live.room.map)

-- what a crash may leave while a file is opened: what it might have left before, or a file that holds the same
abbrev pub Opened : {D : Type 0} → Ghosts D → D → List ℕ → Type 0
Opened g old file = g.may_leave old file ⊎ (reading file ≡ reading (g.seen old))

-- a file is opened: what it holds is read, and in the end a crash leaves what holds that, as between commits
pub record Loads {D : Type 0} (g : Ghosts D) (old new : D) (result : Result Loaded LoadFault) : Type 0 where
  pub honest : g.is_honest new
  pub gives : Gives held_in result (reading (g.seen old))
  pub run : LeavesOnly g old new (Opened g old)
  pub ok : IfOk result
      (λ x. IsMapOf (extents_in (kept_in x)) (taken_of x.live.room.map) × Leaves g new (Calm (kept_in x)))
  pub err : OnErr result (Leaves g new (Opened g old))

-- a file is not touched: it is seen as before, and a crash leaves nothing that it might not have left before, in the
-- end and at each moment until then
pub record Untouched {D : Type 0} (g : Ghosts D) (old new : D) : Type 0 where
  pub seen : g.seen new ≡ g.seen old
  pub fewer : Fewer (g.may_leave old) (g.may_leave new)
  pub run : LeavesOnly g old new (g.may_leave old)

-- only the body of the slot that the root is not in is written, whole or in part, behind a gate that is shut
pub record WritesBody (old new : List ℕ) : Type 0 where
  pub root : Root
  pub is : root_of old ≡ Ok root
  pub shut : gate old (other root) ≢ open_gate
  pub below : root.sequence < sequence_max
  pub torn : Torn (body_at (other root)) body_size old new

-- what opening writes of a file: nothing but that body, if anything
abbrev pub OpeningWrites : List ℕ → List ℕ → Type 0
OpeningWrites old new = (new ≡ old) ⊎ WritesBody old new

-- the file holds what it held, and nothing but that body is written
abbrev pub StandsStill : List ℕ → List ℕ → Type 0
StandsStill old new = (reading new ≡ reading old) × OpeningWrites old new

-- a file is only read after its first sync, which is the first call: until it has succeeded, a crash leaves what it
-- might have left before; from then on, what was seen, and that alone. How many calls these reads are is free, and a
-- further sync among them does to a disk nothing that a read might not do, so that no clause keeps it apart from one
pub record IsSettled {D : Type 0} (g : Ghosts D) (old new : D) : Type 0 where
  -- the disk as that sync left it
  pub synced : D
  pub first : g.calls synced ≡ g.calls old + 1
  pub before : LeavesOnly g old synced (g.may_leave old)
  pub only : Only (g.seen old) (g.may_leave synced)
  pub seen : g.seen new ≡ g.seen old
  pub after : LeavesOnly g synced new (λ file. file ≡ g.seen old)

-- a file is opened in two phases: until the first sync has succeeded, a crash leaves what it might have left before;
-- from then on, a file that holds the same, and differs from the one seen in that body alone. After the reads there are
-- two calls at most
pub record InPhases {D : Type 0} (g : Ghosts D) (old new : D) : Type 0 where
  -- the disk as the reads left it
  pub read : D
  pub settled : IsSettled g old read
  pub last : g.calls new ≤ g.calls read + 2
  pub after : LeavesOnly g settled.synced new (StandsStill (g.seen old))

-- opening ends early: that sync failed, and no other call was made, or it ends in the second phase
abbrev pub Stops : {D : Type 0} → Ghosts D → D → Type 0 → D → Type 0
Stops g old failed new =
    (failed × FailedCall (g.calls old) (g.calls new) × LeavesOnly g old new (g.may_leave old)) ⊎ InPhases g old new

-- the gate of the slot that the root is not in is shut, and a number is left
pub record IsIncomplete (file : List ℕ) : Type 0 where
  pub root : Root
  pub is : root_of file ≡ Ok root
  pub shut : gate file (other root) ≢ open_gate
  pub below : root.sequence < sequence_max

-- a file is only read until two calls before the end: the completing write and its sync, and no other after the reads
pub record EndsInTwo {D : Type 0} (g : Ghosts D) (old new : D) : Type 0 where
  -- the disk as the reads left it
  pub read : D
  pub settled : IsSettled g old read
  pub two : g.calls new ≡ g.calls read + 2

-- so it is where there is something to complete
abbrev pub Completes : {D : Type 0} → Ghosts D → D → D → Type 0
Completes g old new = IsIncomplete (g.seen old) → EndsInTwo g old new

-- where the gate of the slot that the root is not in was shut, and a number is left, that slot has the body of the
-- root's twin
pub record IsCompleted (old new : List ℕ) : Type 0 where
  pub root : Root
  pub is : root_of old ≡ Ok root
  pub twin : (gate old (other root) ≡ open_gate) ⊎ (sequence_max ≤ root.sequence) ⊎ HoldsTwin root new

-- a file whose slots name a root
abbrev pub HasRoot : List ℕ → Type 0
HasRoot file = (r : Root) × (root_of file ≡ Ok r)

-- a store is not opened: for what is wrong with its file, unless the device or memory failed
abbrev pub Tells : StoreFault → Result Held Damage → Type 0
Tells stores.Device read = Unit {0}
Tells stores.Full read = ⊥
Tells (stores.Damaged damage) read = read ≡ Err damage
Tells stores.NotEmpty read = ⊥
Tells stores.Failed read = ⊥
Tells stores.SequenceLimit read = ⊥
Tells stores.OutOfMemory read = Unit {0}

-- the device failed where it is said to be at fault, and nowhere else
abbrev pub FailedBy : StoreFault → ℕ → ℕ → Type 0
FailedBy stores.Device old new = Failed old new × (old ≤ new)
FailedBy stores.Full old new = new ≡ old
FailedBy (stores.Damaged damage) old new = new ≡ old
FailedBy stores.NotEmpty old new = new ≡ old
FailedBy stores.Failed old new = new ≡ old
FailedBy stores.SequenceLimit old new = new ≡ old
FailedBy stores.OutOfMemory old new = new ≡ old
