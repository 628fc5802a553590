-- What the calls that make and open a store promise, where the disk is honest.
use Rattle.std.specs.Prelude.{◌≡◌, ◌≢◌, ℕ, ◌+◌, None, Result, Ok, IfOk, IfErr, MatchResult}
use Rattle.disk_model.specs.declared.disk.Disk.{Ghosts}
use Rattle.disk_model.specs.Disk.{Fewer, Failed}
use Rattle.disk_model.specs.Moments.{Leaves, LeavesOnly}
use Rattle.store_terms.specs.StandsFor.{reading}
use Rattle.commit_plan.specs.ImageHeld.{image_held}
use Rattle.commit_plan.specs.declared.image.Image.{Image}
use Rattle.commit_plan.specs.declared.fault.StoreFault.TheVariants as stores
use Rattle.commit_plan.specs.Kept.{Kept}
use Rattle.root_store.specs.declared.commit.Commit.{Commit}
use Rattle.root_store.specs.declared.open_fault.OpenFault.{OpenFault}
use Rattle.root_store.specs.Running.{StoreStandsFor}
use Rattle.root_store.specs.Opening.{Opened, Untouched, OpeningWrites, HasRoot, Tells}
use Rattle.root_store.specs.Opening.{FailedBy, InPhases, Stops, IsCompleted, Completes}
use Rattle.root_store.specs.Creating.{nothing_kept, IsNewFile, MadeInPhases, refusal_of_new, HasReason, CallsAfter}

module _ {D : Type 0} (g : Ghosts D) where
  -- a file is opened
  pub record OpensHonestly (disk : D) (result : Result (Commit D g × Image) (OpenFault D)) : Type 0 where
    -- what the file holds, or what is wrong with it
    pub gives : MatchResult result (λ x. reading (g.seen disk) ≡ Ok (image_held x.1))
        (λ refused. Tells refused.fault (reading (g.seen disk)))
    -- the store holds just that, and a crash at any moment of the call leaves what it might have left before, or
    -- a file that holds the same
    pub ok : IfOk result
        (λ x. (k : Kept) × (k.held ≡ image_held x.1) × StoreStandsFor g x.0 k
        × LeavesOnly g disk x.0.disk (Opened g disk))
    -- so it does where the file is refused, and after the call
    pub err : IfErr result
        (λ refused. g.is_honest refused.disk × Leaves g refused.disk (Opened g disk)
        × LeavesOnly g disk refused.disk (Opened g disk))
    -- what might have been left before is left until the first sync has succeeded, and no longer; from then on the file
    -- as it was seen, but for the body behind a shut gate; that sync is the first call, and after the reads there are
    -- two at most
    pub phases : IfOk result (λ x. InPhases g disk x.0.disk)
    pub stops : IfErr result (λ refused. Stops g disk (refused.fault ≡ stores.Device) refused.disk)
    -- nothing is written but the body behind a shut gate
    pub writes : MatchResult result (λ x. OpeningWrites (g.seen disk) (g.seen x.0.disk))
        (λ refused. OpeningWrites (g.seen disk) (g.seen refused.disk))
    -- where that gate was shut and a number is left, the body is the root's own under the next number, and synced
    pub completed : IfOk result (λ x. Leaves g x.0.disk (IsCompleted (g.seen disk)))
    -- that is done by the last two calls, a write and a sync, and no other after the reads
    pub completes : IfOk result (λ x. Completes g disk x.0.disk)
    -- nothing at all is written of a file that is refused
    pub untouched : IfErr result (λ refused. refused.fault ≢ stores.Device → Untouched g disk refused.disk)
    -- memory is asked for only where the slots name a root: what is wrong with them is reported as such
    pub memory : IfErr result (λ refused. refused.fault ≡ stores.OutOfMemory → HasRoot (g.seen disk))
    -- the device failed where it is said to be at fault, and nowhere else
    pub cause : MatchResult result (λ x. g.faults x.0.disk ≡ g.faults disk)
        (λ refused. FailedBy refused.fault (g.faults disk) (g.faults refused.disk))

  -- a store is made of a file only where there is no reason against it, and the fault says the reason
  abbrev pub TellsReason : {T : Type 0} → ℕ → D → Result T (OpenFault D) → Type 0
  TellsReason max_blocks disk result =
      MatchResult result (λ _. refusal_of_new (g.seen disk) max_blocks ≡ None)
      (λ refused. HasReason refused.fault (refusal_of_new (g.seen disk) max_blocks))

  -- a file that is refused stays as it is
  abbrev pub KeepsRefused : {T : Type 0} → ℕ → D → Result T (OpenFault D) → Type 0
  KeepsRefused max_blocks disk result =
      refusal_of_new (g.seen disk) max_blocks ≢ None
      → IfErr result
      (λ refused. (g.seen refused.disk ≡ g.seen disk) × Fewer (g.may_leave disk) (g.may_leave refused.disk))

  -- a store is made
  pub record CreatesHonestly (max_blocks : ℕ) (disk : D) (result : Result (Commit D g) (OpenFault D)) : Type 0 where
    pub ok : IfOk result (λ store. StoreStandsFor g store nothing_kept)
    -- three blocks that are zero but for the bodies, each of which is whole, the catalog and the first gate, which
    -- alone is open
    pub file : IfOk result (λ store. Leaves g store.disk IsNewFile)
    -- what is written first has both gates shut, and is synced before the first gate opens: from then on a crash leaves
    -- those three blocks, whatever that gate
    pub phases : IfOk result (λ store. MadeInPhases g disk store.disk)
    -- it is refused that a file is not empty, and that there is no block for the catalog
    pub answer : TellsReason max_blocks disk result
    pub unchanged : KeepsRefused max_blocks disk result
    pub cause : IfErr result
        (λ refused. refused.fault ≡ stores.Device → Failed (g.faults disk) (g.faults refused.disk))
    -- five device calls are made; of a file that is refused, or without memory, the length alone is asked for
    pub calls : MatchResult result (λ store. g.calls store.disk ≡ g.calls disk + 5)
        (λ refused. CallsAfter refused.fault (g.calls disk) (g.calls refused.disk))
