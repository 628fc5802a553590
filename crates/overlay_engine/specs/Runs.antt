-- Runs of an engine: steps, one after the other.
use Rattle.std.specs.Prelude.{◌≡◌, ℕ, List, [], ◌∷◌, ◌++◌, map, flat_map}
use Rattle.std.specs.List.{AllByRecursion}
use Rattle.disk_model.specs.declared.disk.Disk.{Ghosts}
use Rattle.overlay_terms.specs.Batches.{Batch}
use Rattle.overlay_engine.specs.declared.engine.Engine.{Engine}
use Rattle.overlay_engine.specs.declared.step.Step.{Step}
use Rattle.overlay_engine.specs.declared.step.Reply.{Reply}
use Rattle.overlay_engine.specs.Start.{Start}
use Rattle.overlay_engine.specs.Covers.{Covers}
use Rattle.overlay_engine.specs.Committing.{CommitsJust}
use Rattle.overlay_engine.specs.Acts.{Acts, Survives, accepted_by}

-- a step that was made: what was asked, of which engine, what was answered, and which engine it left
pub record Made (D : Type 0) (g : Ghosts D) : Type 0 where
  pub step : Step
  pub old : Engine D g
  pub reply : Reply
  pub new : Engine D g

-- the batches that were accepted in a run
abbrev pub accepted_in_run : {D : Type 0} {g : Ghosts D} → List (Made D g) → List Batch
accepted_in_run {D = D} {g = g} run = flat_map (λ (made : Made D g). accepted_by made.step made.reply) run

module _ {D : Type 0} (g : Ghosts D) where
  -- each step is made of the engine that the one before it left
  abbrev pub EachFollows : Engine D g → List (Made D g) → Engine D g → Type 0
  EachFollows old [] new = new ≡ old
  EachFollows old (made ∷ run) new = (made.old ≡ old) × Acts g made.step made.old made.reply made.new × EachFollows made.new run new

  -- a run of these steps, with these answers
  pub record IsRun (steps : List Step) (old : Engine D g) (replies : List Reply) (new : Engine D g) (run : List (Made D g)) : Type 0 where
    pub asked : map (λ (made : Made D g). made.step) run ≡ steps
    pub answered : map (λ (made : Made D g). made.reply) run ≡ replies
    pub leads : EachFollows old run new

  -- a crash within any step of a run leaves a version of the batches that were accepted before the step, no older than what was durable as the step began
  abbrev pub EachSurvives : Start → List Batch → List (Made D g) → Type 0
  EachSurvives start batches [] = Unit {0}
  EachSurvives start batches (made ∷ run) =
      Survives g start batches made.step made.old made.reply made.new × EachSurvives start (batches ++ accepted_by made.step made.reply) run

  -- each step of a run commits just what it is to commit
  abbrev pub EachCommits : List (Made D g) → Type 0
  EachCommits run = AllByRecursion (λ (made : Made D g). CommitsJust g made.old made.reply made.new) run

  -- steps are made one after the other, by a run of which each step commits just what it is to commit, and survives a crash within it; in the end the store covers the batches, with those that were accepted
  pub record Drives (steps : List Step) (old : Engine D g) (replies : List Reply) (new : Engine D g) : Type 0 where
    pub run : List (Made D g)
    pub is : IsRun steps old replies new run
    pub commits : EachCommits run
    pub survives : (start : Start) (batches : List Batch) → Covers g start old.flusher old.version batches
        → EachSurvives start batches run × Covers g start new.flusher new.version (batches ++ accepted_in_run run)

  -- a machine, or the program, stops within a step, taken as if it had returned. `disk` is the one opened then: it may leave only what a crash in that step might
  pub record CrashesIn (run : List (Made D g)) (disk : D) : Type 0 where
    pub before : List (Made D g)
    pub made : Made D g
    pub after : List (Made D g)
    pub among : run ≡ before ++ made ∷ after
    pub leaves : (c : List ℕ) → g.may_leave disk c → g.left_since made.new.flusher.commit.disk (g.moment made.old.flusher.commit.disk) c
