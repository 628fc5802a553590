-- What calls that only look at a disk answer, and what they leave of it.
use Rattle.std.specs.Prelude.{◌≡◌, ◌↔◌, ℕ, ◌≤◌, Result, Ok, Err}
use Rattle.disk_model.specs.declared.disk.Disk.{Ghosts}
use Rattle.disk_model.specs.Disk.{Fewer, Failed}
use Rattle.disk_model.specs.Moments.{LeavesOnly}
use Rattle.store_terms.specs.declared.damage.Damage.{Damage}
use Rattle.record_reading.specs.declared.fault.RecordFault.{RecordFault}
use Rattle.record_reading.specs.declared.fault.RecordFault.TheVariants as record_faults
use Rattle.root_reading.specs.declared.load_fault.LoadFault.{LoadFault}
use Rattle.root_reading.specs.declared.load_fault.LoadFault.TheVariants.{Device, Damaged, OutOfMemory}

-- a fault of reading a record, as one of opening
abbrev pub reported_as : RecordFault → LoadFault
reported_as (record_faults.Damaged damage) = Damaged damage
reported_as record_faults.OutOfMemory = OutOfMemory

-- the fault is the damage that reading reports, unless the device or memory failed
abbrev pub Refuses : {Y : Type 0} → LoadFault → Result Y Damage → Type 0
Refuses Device read = Unit {0}
Refuses OutOfMemory read = Unit {0}
Refuses (Damaged damage) read = read ≡ Err damage

-- the value that reading gives, or the damage that it reports, unless the device or memory failed
abbrev pub Gives : {X Y : Type 0} → (X → Y) → Result X LoadFault → Result Y Damage → Type 0
Gives view (Ok x) read = read ≡ Ok (view x)
Gives view (Err fault) read = Refuses fault read

-- calls that only look: the disk has the same bytes, and a crash leaves nothing that it might not have left before
pub record Looks {D : Type 0} (g : Ghosts D) (old new : D) : Type 0 where
  pub honest : g.is_honest new
  pub seen : g.seen new ≡ g.seen old
  pub fewer : Fewer (g.may_leave old) (g.may_leave new)
  pub run : LeavesOnly g old new (g.may_leave old)

-- the device failed where it is said to be at fault, and nowhere else
abbrev pub Causes : {X : Type 0} → Result X LoadFault → ℕ → ℕ → Type 0
Causes (Ok x) old new = new ≡ old
Causes (Err Device) old new = Failed old new × (old ≤ new)
Causes (Err OutOfMemory) old new = new ≡ old
Causes (Err (Damaged damage)) old new = new ≡ old

-- a call that only looks at a disk, if that is honest, and tells the device's failures apart
pub record OnlyLooks {D X : Type 0} (g : Ghosts D) (result : Result X LoadFault) (old new : D) : Type 0 where
  pub honest : g.is_honest new ↔ g.is_honest old
  pub looks : g.is_honest old → Looks g old new
  pub cause : g.is_honest old → Causes result (g.faults old) (g.faults new)
