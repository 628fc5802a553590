-- The number that is stored, after a step.
use Rattle.std.proofs.Common.{◌≡◌, Result, Ok, Err, sym, ◌∙◌, ap}
use Rattle.std.specs.Prelude.{IfOk, OnErr}
use Rattle.disk_model.specs.declared.disk.Disk.{Ghosts}
use Rattle.store_terms.specs.declared.root.Root.{Root}
use Rattle.commit_plan.specs.declared.fault.StoreFault.{StoreFault}
use Rattle.root_store.specs.declared.commit.Commit.{Commit}
use Rattle.root_store.specs.declared.phase.Progress.{Progress}
use Rattle.root_store.specs.declared.phase.Progress.TheVariants.{Idle, Going, Done}
use Rattle.root_store.specs.Running.{Turns, KeepsRoots}
use Rattle.flush_core.specs.Stored.{stored_after}

pub stored_is : {D : Type 0} {g : Ghosts D} (old new : Commit D g) (result : Result Progress StoreFault) → IfOk result (λ p. Turns p old new)
    → OnErr result (KeepsRoots old new) → new.root.version ≡ stored_after result old.root.version
stored_is old new (Ok Idle) turns keeps = ap (λ (r : Root). r.version) turns.0
stored_is old new (Ok Going) turns keeps = ap (λ (r : Root). r.version) turns.0
stored_is old new (Ok (Done number)) turns keeps = ap (λ (r : Root). r.version) turns.1 ∙ sym turns.0
stored_is old new (Err fault) turns keeps = ap (λ (r : Root). r.version) keeps.0
