-- What the replies of a run say: the numbers of jobs, and what is durable.
use Rattle.std.specs.Prelude.{◌≡◌, ℕ, ◌+◌, List, [], ◌∷◌}
use Rattle.disk_model.specs.declared.disk.Disk.{Ghosts}
use Rattle.overlay_engine.specs.declared.engine.Engine.{Engine}
use Rattle.overlay_engine.specs.declared.step.Reply.{Reply}
use Rattle.overlay_engine.specs.declared.step.Reply.TheVariants.{Taken, Durable}
use Rattle.overlay_engine.specs.Runs.{Made, EachFollows, CrashesIn}

-- a job that is handed out has this number
abbrev pub HasNumber : ℕ → Reply → Type 0
HasNumber next (Taken number) = number ≡ next
HasNumber next reply = Unit {0}

-- the number of the next job
abbrev pub next_after : ℕ → Reply → ℕ
next_after next (Taken number) = number + 1
next_after next reply = next

-- the jobs that a run hands out have the numbers from this one on, each of them once
abbrev pub Numbered : {D : Type 0} {g : Ghosts D} → ℕ → List (Made D g) → Type 0
Numbered next [] = Unit {0}
Numbered next (made ∷ run) = HasNumber next made.reply × Numbered (next_after next made.reply) run

-- the durable number that is reported last, by one reply and by those of a run; where none is, the one before
abbrev pub reported_after : ℕ → Reply → ℕ
reported_after number (Durable reported) = reported
reported_after number reply = number

abbrev pub last_reported : {D : Type 0} {g : Ghosts D} → ℕ → List (Made D g) → ℕ
last_reported number [] = number
last_reported number (made ∷ run) = last_reported (reported_after number made.reply) run

module _ {D : Type 0} (g : Ghosts D) where
  -- no job number is used twice
  abbrev pub JobsAreNumbered : Type 0
  JobsAreNumbered =
      (old : Engine D g) (run : List (Made D g)) (new : Engine D g) → EachFollows g old run new
      → Numbered old.next_job run

  -- the durable number that was reported last is the version's, in the end and as a crash comes
  abbrev pub DurableIsLastReported : Type 0
  DurableIsLastReported =
      (old : Engine D g) (run : List (Made D g)) (new : Engine D g) → EachFollows g old run new
      → new.version.durable ≡ last_reported old.version.durable run

  abbrev pub CrashKeepsReported : Type 0
  CrashKeepsReported = (old : Engine D g) (run : List (Made D g)) (new : Engine D g) (disk : D) → EachFollows g old run new
      → (crash : CrashesIn g run disk) → crash.made.old.version.durable ≡ last_reported old.version.durable crash.before
