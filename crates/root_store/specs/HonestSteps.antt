-- What the steps of making and opening a store promise, where the disk is honest.
use Rattle.std.specs.Prelude.{◌≡◌, ◌≢◌, ℕ, ◌+◌, ◌≤◌}
use Rattle.std.specs.Prelude.{Bool, List, length, None, Result, IfOk, IfErr, OnOk, IsErrOf, MatchResult}
use Rattle.disk_model.specs.declared.disk.Disk.{Ghosts}
use Rattle.disk_model.specs.declared.fault.DiskFault.{DiskFault}
use Rattle.disk_model.specs.Disk.{Torn, Only, Fewer, Elapses, Failed, CountsFailure}
use Rattle.disk_model.specs.Moments.{Leaves, LeavesOnly}
use Rattle.store_terms.specs.Roots.{body_size}
use Rattle.store_terms.specs.StandsFor.{reading, body_at}
use Rattle.store_terms.specs.declared.root.Root.{Root}
use Rattle.root_reading.specs.declared.load_fault.LoadFault.{LoadFault}
use Rattle.root_reading.specs.declared.load_fault.LoadFault.TheVariants as load_faults
use Rattle.root_reading.specs.Looking.{Gives, Causes}
use Rattle.commit_plan.specs.declared.fault.StoreFault.{StoreFault}
use Rattle.commit_plan.specs.declared.fault.StoreFault.TheVariants as stores
use Rattle.commit_plan.specs.declared.loaded.Loaded.{Loaded}
use Rattle.commit_plan.specs.Kept.{Kept, other, Rest, Shut}
use Rattle.commit_plan.specs.Loaded.{held_in}
use Rattle.root_store.specs.Healing.{Heals}
use Rattle.root_store.specs.Opening.{IsRead, Loads, Untouched, OpeningWrites, HasRoot}
use Rattle.root_store.specs.Opening.{IsSettled, InPhases, Stops, IsCompleted, Completes}
use Rattle.root_store.specs.Creating.{nothing_kept, IsNewFile, MadeInPhases, refusal_of_new, HasReason, CallsAfter}

module _ {D : Type 0} (g : Ghosts D) where
  -- the completing write of an opening
  pub record HealsHonestly (root : Root) (old new : D) (result : Result (Unit {0}) LoadFault) : Type 0 where
    pub heals : (x : Kept) → x.root ≡ root → Leaves g old (Shut x) → Heals g old new result x
    -- one write and one sync
    pub calls : MatchResult result (λ _. g.calls new ≡ g.calls old + 2) (λ _. g.calls new ≤ g.calls old + 2)
    -- nothing else is written, at no moment of the call
    pub torn : Torn (body_at (other root)) body_size (g.seen old) (g.seen new)
    pub elsewhere : (file : List ℕ) → Only file (g.may_leave old)
        → LeavesOnly g old new (Torn (body_at (other root)) body_size file)
    pub cause : Causes result (g.faults old) (g.faults new)

  -- a file is read after a first sync
  pub record ReadsHonestly (old new : D) (result : Result (Loaded × Bool) LoadFault) : Type 0 where
    pub gives : Gives (λ x. held_in x.0) result (reading (g.seen old))
    pub read : IfOk result (λ x. IsRead g old new x.0 x.1)
    pub settled : OnOk result (IsSettled g old new)
    pub stops : IfErr result (λ fault. Stops g old (fault ≡ load_faults.Device) new)
    pub memory : IfErr result (λ fault. fault ≡ load_faults.OutOfMemory → HasRoot (g.seen old))

  -- a file is read, and the body behind a shut gate is made whole
  pub record LoadsHonestly (old new : D) (result : Result Loaded LoadFault) : Type 0 where
    pub loads : Loads g old new result
    pub phases : OnOk result (InPhases g old new)
    pub stops : IfErr result (λ fault. Stops g old (fault ≡ load_faults.Device) new)
    pub writes : OpeningWrites (g.seen old) (g.seen new)
    pub completed : OnOk result (Leaves g new (IsCompleted (g.seen old)))
    pub completes : OnOk result (Completes g old new)
    pub untouched : IfErr result (λ fault. fault ≢ load_faults.Device → Untouched g old new)
    pub memory : IfErr result (λ fault. fault ≡ load_faults.OutOfMemory → HasRoot (g.seen old))
    pub cause : Causes result (g.faults old) (g.faults new)

  -- what is refused is looked at, and no more
  pub record ChecksHonestly (max_blocks : ℕ) (old new : D) (result : Result (Unit {0}) StoreFault) : Type 0 where
    pub answer : MatchResult result (λ _. refusal_of_new (g.seen old) max_blocks ≡ None)
        (λ fault. HasReason fault (refusal_of_new (g.seen old) max_blocks))
    pub seen : g.seen new ≡ g.seen old
    pub crash : Fewer (g.may_leave old) (g.may_leave new)
    pub time : Elapses (g.moment old) (g.moment new) (g.left_since old) (g.left_since new) (g.may_leave new)
    pub cause : IsErrOf result stores.Device → Failed (g.faults old) (g.faults new)
    pub count : OnOk result (g.faults new ≡ g.faults old)
    pub calls : MatchResult result (λ _. g.calls new ≡ g.calls old + 1)
        (λ fault. CallsAfter fault (g.calls old) (g.calls new))

  -- a new store is written
  pub record IsMade (old new : D) : Type 0 where
    pub ready : Leaves g new (Rest nothing_kept)
    pub file : Leaves g new IsNewFile
    pub phases : MadeInPhases g old new

  -- into an empty file
  pub record FormatsHonestly (old new : D) (result : Result (Unit {0}) DiskFault) : Type 0 where
    pub made : length (g.seen old) ≡ 0 → OnOk result (IsMade old new)
    pub cause : CountsFailure result (g.faults old) (g.faults new)
    pub calls : MatchResult result (λ _. g.calls new ≡ g.calls old + 4) (λ _. g.calls new ≤ g.calls old + 4)

  -- once its memory is there
  pub record PreparesHonestly {T : Type 0} (max_blocks : ℕ) (old new : D) (result : Result T StoreFault) : Type 0 where
    pub made : OnOk result (IsMade old new)
    pub answer : MatchResult result (λ _. refusal_of_new (g.seen old) max_blocks ≡ None)
        (λ fault. HasReason fault (refusal_of_new (g.seen old) max_blocks))
    pub unchanged : refusal_of_new (g.seen old) max_blocks ≢ None
        → (g.seen new ≡ g.seen old) × Fewer (g.may_leave old) (g.may_leave new)
    pub cause : IsErrOf result stores.Device → Failed (g.faults old) (g.faults new)
    pub calls : MatchResult result (λ _. g.calls new ≡ g.calls old + 5)
        (λ fault. CallsAfter fault (g.calls old) (g.calls new))
