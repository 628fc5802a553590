-- What a disk is made of that passes calls on by a plan.
use Rattle.std.specs.Prelude.{◌≡◌, ℕ, ◌+◌, true, false, Result, IsErr}
use Rattle.disk_model.specs.declared.disk.Disk.{Ghosts}
use Rattle.disk_model.specs.Disk.{Fewer, Elapses, CountsFailure, CountsCall}
use Rattle.test_disks.specs.declared.plan.Plan as plans
use Rattle.test_disks.specs.declared.planned_disk.PlannedDisk.{PlannedDisk}

-- the disk below
abbrev pub below_of : {D P : Type 0} → PlannedDisk D P → D
below_of d = d.disk

-- which calls are passed on
abbrev pub plan_of : {D P : Type 0} → PlannedDisk D P → P
plan_of d = d.plan

-- how many calls it has refused, up to the top of a u64
abbrev pub refused_of : {D P : Type 0} → PlannedDisk D P → ℕ
refused_of d = d.refused

-- how often the disk below has failed, and how many calls were refused
abbrev pub faults_of : {D P : Type 0} → Ghosts D → PlannedDisk D P → ℕ
faults_of g d = g.faults d.disk + d.refused

-- how many calls the disk below has had, and how many were refused
abbrev pub calls_of : {D P : Type 0} → Ghosts D → PlannedDisk D P → ℕ
calls_of g d = g.calls d.disk + d.refused

-- a call is refused, and the disk below stays as it was, or it is passed on, and fails where the disk below does
pub record GoesByPlan {D P T E : Type 0} (g : Ghosts D) (p : plans.Ghosts P) (result : Result T E)
    (old new : PlannedDisk D P) : Type 0 where
  pub failed : p.passes (plan_of old) ≡ false → IsErr result
  pub untouched : p.passes (plan_of old) ≡ false → below_of new ≡ below_of old
  pub passed : g.is_honest (below_of old) → p.passes (plan_of old) ≡ true
      → CountsFailure result (g.faults (below_of old)) (g.faults (below_of new))
  pub plan : plan_of new ≡ p.next (plan_of old)

-- a call of an honest disk: time goes on, and the call is counted, as a failure too where it is one
pub record IsCallCounted {D P T E : Type 0} (g : Ghosts D) (result : Result T E)
    (old new : PlannedDisk D P) : Type 0 where
  pub time : Elapses (g.moment (below_of old)) (g.moment (below_of new)) (g.left_since (below_of old))
      (g.left_since (below_of new)) (g.may_leave (below_of new))
  pub cause : CountsFailure result (faults_of g old) (faults_of g new)
  pub calls : CountsCall result (calls_of g old) (calls_of g new)

-- a read gives the same bytes, and a crash leaves nothing that it might not have left before
pub record StaysAsItWas {D : Type 0} (g : Ghosts D) (old new : D) : Type 0 where
  pub seen : g.seen new ≡ g.seen old
  pub crash : Fewer (g.may_leave old) (g.may_leave new)
