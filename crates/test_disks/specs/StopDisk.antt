-- A disk that stops: which calls it passes on.
use Rattle.std.specs.Prelude.{ℕ, zero, suc, ◌-◌, Bool, true, false}
use Rattle.test_disks.specs.declared.planned_disk.PlannedDisk.{PlannedDisk}
use Rattle.test_disks.specs.declared.stop_disk.StopPlan.{StopPlan}

-- how many calls it passes on before it stops
abbrev pub left_of : {D : Type 0} → PlannedDisk D StopPlan → ℕ
left_of d = d.plan.left

-- where some are left the next call is passed on
abbrev pub passes : ℕ → Bool
passes zero = false
passes (suc n) = true

-- one fewer is left after each
abbrev pub next : StopPlan → StopPlan
next plan = record { left = plan.left - 1 }
