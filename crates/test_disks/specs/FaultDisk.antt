-- A disk of which one call fails: which calls it passes on.
use Rattle.std.specs.Prelude.{ℕ, zero, suc, Option, Some, None, Bool, true, false}
use Rattle.test_disks.specs.declared.planned_disk.PlannedDisk.{PlannedDisk}
use Rattle.test_disks.specs.declared.fault_disk.FaultPlan.{FaultPlan}

-- how many calls come before the one that fails, if that is still to come
abbrev pub before_of : {D : Type 0} → PlannedDisk D FaultPlan → Option ℕ
before_of d = d.plan.before

-- each call is passed on but the one that has none before it
abbrev pub passes : Option ℕ → Bool
passes None = true
passes (Some zero) = false
passes (Some (suc n)) = true

-- the same number after one call more
abbrev pub after_call : Option ℕ → Option ℕ
after_call None = None
after_call (Some zero) = None
after_call (Some (suc n)) = Some n

-- the plan after it
abbrev pub next : FaultPlan → FaultPlan
next plan = record { before = after_call plan.before }
