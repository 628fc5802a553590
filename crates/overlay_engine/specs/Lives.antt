-- Lives of an engine: steps, crashes within them, and recoveries of what they left.
use Rattle.std.specs.Prelude.{◌≡◌, ◌⊎◌, ℕ, ◌≤◌, List, [], ◌∷◌, ◌++◌}
use Rattle.std.specs.List.{AllByRecursion}
use Rattle.disk_model.specs.declared.disk.Disk.{Ghosts}
use Rattle.disk_model.specs.Moments.{Leaves, LeavesOnly}
use Rattle.overlay_terms.specs.Batches.{Batch}
use Rattle.overlay_engine.specs.declared.engine.Engine.{Engine}
use Rattle.overlay_engine.specs.declared.step.Step.{Step}
use Rattle.overlay_engine.specs.declared.step.Reply.{Reply}
use Rattle.overlay_engine.specs.Start.{Start, up_to}
use Rattle.overlay_engine.specs.Covers.{Covered, Covers}
use Rattle.overlay_engine.specs.Acts.{Acts, Survives, accepted_by}
use Rattle.overlay_engine.specs.Recovery.{Recovered}

-- an engine, and the batches that it has accepted since the start
pub record Stage (D : Type 0) (g : Ghosts D) : Type 0 where
  pub engine : Engine D g
  pub batches : List Batch

module _ {D : Type 0} (g : Ghosts D) (start : Start) where
  -- the store of a stage covers its version, which is the one after its batches
  abbrev pub IsCovered : Stage D g → Type 0
  IsCovered stage = Covers g start stage.engine.flusher stage.engine.version stage.batches

  -- a step is made: what `Engine::drive` says of it
  pub record StepsTo (old new : Stage D g) : Type 0 where
    pub step : Step
    pub reply : Reply
    pub acts : Acts g step old.engine reply new.engine
    pub survives : IsCovered old → Survives g start old.batches step old.engine reply new.engine
    pub batches : new.batches ≡ old.batches ++ accepted_by step reply

  -- a recovery of `disk` is cut by a crash, or refused, and leaves `next` (`end`: the disk as if it had returned)
  pub record Tries (disk next : D) : Type 0 where
    pub end : D
    pub moments : (least : ℕ) (batches : List Batch) → Leaves g disk (Covered start least batches) → LeavesOnly g disk end (Covered start least batches)
    pub leaves : (c : List ℕ) → g.may_leave next c → g.left_since end (g.moment disk) c

  -- one such recovery after the other
  abbrev pub TriesTo : D → List D → D → Type 0
  TriesTo disk [] last = last ≡ disk
  TriesTo disk (next ∷ more) last = Tries disk next × TriesTo next more last

  -- the machine crashes before or within a step (`end`: as if it had returned); what that leaves is recovered, after tries that were stopped
  pub record CrashesTo (old new : Stage D g) : Type 0 where
    pub step : Step
    pub reply : Reply
    pub end : Engine D g
    pub survives : IsCovered old → Survives g start old.batches step old.engine reply end
    pub disk : D
    pub leaves : (c : List ℕ) → g.may_leave disk c → g.left_since end.flusher.commit.disk (g.moment old.engine.flusher.commit.disk) c
    pub tried : List D
    pub last : D
    pub tries : TriesTo disk tried last
    pub recovered : (least : ℕ) (batches : List Batch) → Leaves g last (Covered start least batches) → Recovered g start last new.engine least batches
    pub batches : new.batches ≡ up_to start new.engine.version.number old.batches

  -- each stage is had from the one before it, by a step or over a crash
  abbrev pub Lives : Stage D g → List (Stage D g) → Type 0
  Lives stage [] = Unit {0}
  Lives stage (next ∷ more) = (StepsTo stage next ⊎ CrashesTo stage next) × Lives next more

  -- what was durable at one stage is so at a later one: its version is that of batches which begin with those durable at the first
  pub record StillStands (old new : Stage D g) : Type 0 where
    pub covered : IsCovered new
    pub durable : old.engine.version.durable ≤ new.engine.version.durable
    pub same : up_to start old.engine.version.durable new.batches ≡ up_to start old.engine.version.durable old.batches

  -- through any steps, crashes and recoveries nothing is lost that was durable at the first
  abbrev pub NothingIsLost : Type 0
  NothingIsLost = (stage : Stage D g) (later : List (Stage D g)) → IsCovered stage → Lives stage later → AllByRecursion (StillStands stage) later
