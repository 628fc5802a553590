-- What the calls that make and recover an engine promise, where the disk is honest.
use Rattle.std.specs.Prelude.{◌≡◌, ◌+◌, ℕ, List, [], ◌++◌, Result, Ok, IfOk, IfErr, MatchResult}
use Rattle.disk_model.specs.declared.disk.Disk.{Ghosts}
use Rattle.disk_model.specs.Disk.{Failed}
use Rattle.disk_model.specs.Moments.{Leaves}
use Rattle.overlay_terms.specs.Batches.{Batch}
use Rattle.overlay_terms.specs.Layers.{Layer}
use Rattle.store_terms.specs.Image.{Held}
use Rattle.store_terms.specs.StandsFor.{reading}
use Rattle.store_terms.specs.declared.damage.Damage.{Damage}
use Rattle.commit_plan.specs.declared.fault.StoreFault.TheVariants.{Device, Damaged, OutOfMemory}
use Rattle.root_store.specs.Creating.{IsNewFile, MadeInPhases, CallsAfter}
use Rattle.root_store.specs.Opening.{Tells, FailedBy, Untouched, OpeningWrites, HasRoot, IsCompleted, Completes}
use Rattle.root_store.specs.declared.open_fault.OpenFault.{OpenFault}
use Rattle.root_store.specs.HonestStore.{TellsReason, KeepsRefused}
use Rattle.overlay_engine.specs.declared.engine.Engine.{Engine}
use Rattle.overlay_engine.specs.Start.{Start, from_nothing}
use Rattle.overlay_engine.specs.Covers.{version_of, Covered, Covers}
use Rattle.overlay_engine.specs.NewEngine.{IsNewEngine}
use Rattle.overlay_engine.specs.OldFile.{IsOldFile, start_at, OldRecovered}
use Rattle.overlay_engine.specs.Recovery.{Recovered, Refused}
use Rattle.overlay_engine.specs.Runs.{Made, EachSurvives, CrashesIn, accepted_in_run}

module _ {D : Type 0} (g : Ghosts D) where
  -- an engine is made over a new store
  pub record MakesHonestly (max_blocks : ℕ) (disk : D) (result : Result (Engine D g) (OpenFault D)) : Type 0 where
    pub covers : IfOk result (λ e. Covers g from_nothing e.flusher e.version [])
    -- the store holds just the version, and no commit is under way
    pub rests : IfOk result (λ e. IsNewEngine g e)
    -- the file has three blocks that are zero but for the bodies, the catalog and the first gate, which alone is open
    pub file : IfOk result (λ e. Leaves g e.flusher.commit.disk IsNewFile)
    -- what is written first has both gates shut, and is synced before the first gate opens
    pub phases : IfOk result (λ e. MadeInPhases g disk e.flusher.commit.disk)
    pub answer : TellsReason g max_blocks disk result
    pub unchanged : KeepsRefused g max_blocks disk result
    pub cause : IfErr result (λ refused. refused.fault ≡ Device → Failed (g.faults disk) (g.faults refused.disk))
    -- five device calls are made; of a file that is refused, or without memory, the length alone is asked for
    pub calls : MatchResult result (λ e. g.calls e.flusher.commit.disk ≡ g.calls disk + 5)
        (λ refused. CallsAfter refused.fault (g.calls disk) (g.calls refused.disk))

  -- an engine is recovered from what a crash has left
  pub record RecoversHonestly (disk : D) (result : Result (Engine D g) (OpenFault D)) : Type 0 where
    -- of a file that a crash may have left of an engine, the version is the one after the first so many batches
    pub ok : IfOk result
        (λ e. (start : Start) (least : ℕ) (batches : List Batch)
        → Leaves g disk (Covered start least batches) → Recovered g start disk e least batches)
    -- such a file is refused as `Device` or `OutOfMemory` alone, and is left such a file
    pub err : IfErr result
        (λ refused. (start : Start) (least : ℕ) (batches : List Batch)
        → Leaves g disk (Covered start least batches) → Refused g start disk refused least batches)
    -- the same after a crash in a step of a run: `least` is what was durable as the step began; after the last step take `CoveredStays`, then `ok`
    pub crashed : (start : Start) (batches : List Batch) (run : List (Made D g)) → EachSurvives g start batches run
        → (crash : CrashesIn g run disk)
        → MatchResult result
        (λ e. Recovered g start disk e crash.made.old.version.durable (batches ++ accepted_in_run crash.before))
        (λ refused. Refused g start disk refused crash.made.old.version.durable (batches ++ accepted_in_run crash.before))
    -- of a file of the old format the version is what it holds, with no finished tile, and the engine covers it
    -- from there on; it is refused only for the device or for memory, and what is left recovers as well
    pub old : (number : ℕ) (layers : List Layer) → Leaves g disk (IsOldFile number layers)
        → MatchResult result (λ e. OldRecovered g number layers disk e)
        (λ refused. Refused g (start_at number layers) disk refused number [])
    -- of any file the version is what it holds, or the fault is what is wrong with it
    pub gives : MatchResult result
        (λ e. (x : Held) × (reading (g.seen disk) ≡ Ok x) × (e.version ≡ version_of x))
        (λ refused. Tells refused.fault (reading (g.seen disk)))
    -- the store holds just the version, with its very tiles, and no commit is under way
    pub rests : IfOk result (λ e. IsNewEngine g e)
    -- the device failed where it is said to be at fault, and nowhere else
    pub cause : MatchResult result (λ e. g.faults e.flusher.commit.disk ≡ g.faults disk)
        (λ refused. FailedBy refused.fault (g.faults disk) (g.faults refused.disk))
    -- nothing is written but the body, while its gate is shut
    pub writes : MatchResult result (λ e. OpeningWrites (g.seen disk) (g.seen e.flusher.commit.disk))
        (λ refused. OpeningWrites (g.seen disk) (g.seen refused.disk))
    -- where that gate was shut and a number is left, the body is the root's own under the next number, and synced
    pub completed : IfOk result (λ e. Leaves g e.flusher.commit.disk (IsCompleted (g.seen disk)))
    -- that is done by the last two device calls, a write and a sync, and no other after the reads
    pub completes : IfOk result (λ e. Completes g disk e.flusher.commit.disk)
    -- nothing at all is written of a file that is damaged or no store
    pub untouched : IfErr result
        (λ refused. (damage : Damage) → refused.fault ≡ Damaged damage → Untouched g disk refused.disk)
    -- memory is asked for only where the slots name a root: what is wrong with them is reported as such
    pub memory : IfErr result (λ refused. refused.fault ≡ OutOfMemory → HasRoot (g.seen disk))
