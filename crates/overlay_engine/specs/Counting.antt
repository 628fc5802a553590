-- What the answers to device steps say: how many calls a commit makes, which version it leaves,
-- and whether the device failed.
use Rattle.std.specs.Prelude.{◌≡◌, ℕ, ◌+◌, false, List, [], ◌∷◌, ◌++◌}
use Rattle.std.specs.List.{AllByRecursion}
use Rattle.disk_model.specs.declared.disk.Disk.{Ghosts}
use Rattle.disk_model.specs.Moments.{Leaves}
use Rattle.commit_plan.specs.Kept.{Kept}
use Rattle.root_store.specs.Running.{StoreStandsFor, is_busy}
use Rattle.flush_core.specs.Stored.{calls_of}
use Rattle.overlay_engine.specs.declared.engine.Engine.{Engine}
use Rattle.overlay_engine.specs.declared.step.Step.{Step}
use Rattle.overlay_engine.specs.declared.step.Step.TheVariants.{Submit, SubmitAll, Take, Finish, Device, Report}
use Rattle.overlay_engine.specs.declared.step.Reply.TheVariants.{Refused, Going, Done}
use Rattle.overlay_engine.specs.Acts.{Acts}
use Rattle.overlay_engine.specs.Committing.{IsFileOf, RestsWith}
use Rattle.overlay_engine.specs.Devices.{DeviceFailed}
use Rattle.overlay_engine.specs.Runs.{Made, EachFollows, EachCommits}

-- how many device calls are asked for by a step
abbrev pub calls_asked : Step → ℕ
calls_asked (Submit change) = 0
calls_asked (SubmitAll batch) = 0
calls_asked (Take name column) = 0
calls_asked (Finish number) = 0
calls_asked Device = 1
calls_asked Report = 0

-- how many by the steps of a run
abbrev pub calls_asked_in : {D : Type 0} {g : Ghosts D} → List (Made D g) → ℕ
calls_asked_in [] = 0
calls_asked_in (made ∷ run) = calls_asked made.step + calls_asked_in run

module _ {D : Type 0} (g : Ghosts D) where
  -- a refusal by 30 is that of a device step in which the device failed
  abbrev pub DeviceRefusals : Type 0
  DeviceRefusals =
      (step : Step) (old new : Engine D g) → Acts g step old (Refused 30) new → (step ≡ Device) × DeviceFailed g old new

  -- a commit from its begin to its end: the first step begins it, each device step among the others goes on with it,
  -- and the last one ends it
  pub record IsWholeCommit (old : Engine D g) (run : List (Made D g)) (new : Engine D g) : Type 0 where
    pub first : Made D g
    pub between : List (Made D g)
    pub last : Made D g
    pub number : ℕ
    pub parts : run ≡ first ∷ between ++ last ∷ []
    pub leads : EachFollows g old (first ∷ between ++ last ∷ []) new
    pub idle : is_busy old.flusher.commit.phase ≡ false
    pub begins : (first.step ≡ Device) × (first.reply ≡ Going)
    pub goes_on : AllByRecursion (λ (made : Made D g). made.step ≡ Device → made.reply ≡ Going) between
    pub ends : (last.step ≡ Device) × (last.reply ≡ Done number)

  -- it makes as many calls as are counted for the version and of the store that it began with
  abbrev pub CommitCounts : Type 0
  CommitCounts =
      (old : Engine D g) (run : List (Made D g)) (new : Engine D g) → IsWholeCommit old run new
      → calls_asked_in run ≡ calls_of old.flusher.commit old.version

  -- and just as often the disk is called, where it is honest
  abbrev pub CommitCalls : Type 0
  CommitCalls =
      (old : Engine D g) (run : List (Made D g)) (new : Engine D g) → IsWholeCommit old run new
      → g.is_honest old.flusher.commit.disk
      → g.calls new.flusher.commit.disk ≡ g.calls old.flusher.commit.disk + calls_of old.flusher.commit old.version

  -- and it gives the number of that version, whatever the disk does
  abbrev pub CommitTells : Type 0
  CommitTells =
      (old : Engine D g) (run : List (Made D g)) (new : Engine D g) (whole : IsWholeCommit old run new)
      → whole.number ≡ old.version.number

  -- and, where the store held something before it, it leaves that version, whichever tiles that has: the store rests
  -- with it, and every file that a crash may leave then holds its number, its layers and its finished tiles
  abbrev pub CommitLeaves : Type 0
  CommitLeaves =
      (old : Engine D g) (run : List (Made D g)) (new : Engine D g) (x : Kept) → StoreStandsFor g old.flusher.commit x
      → EachCommits g run → IsWholeCommit old run new
      → RestsWith g new.flusher old.version × Leaves g new.flusher.commit.disk (IsFileOf old.version)
