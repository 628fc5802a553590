-- The steps of an engine: what each answers, and what it makes of the engine.
use Rattle.std.specs.Prelude.{◌≡◌, ◌⊎◌, ℕ, ◌+◌, ◌-◌, ◌^◌, ◌==◌, [], ◌∷◌, ◌++◌}
use Rattle.std.specs.Prelude.{List, Option, Some, None, is_some, IsTrue, slice_get}
use Rattle.std.specs.List.{position, remove}
use Rattle.std.specs.Option.{option_map}
use Rattle.overlay_terms.specs.Layers.{Name}
use Rattle.overlay_terms.specs.Tiles.{input_of}
use Rattle.overlay_terms.specs.Commands.{Command, refusal_at}
use Rattle.overlay_terms.specs.Batches.{Batch, batch_refusal_at}
use Rattle.overlay_terms.specs.Histories.{Version, Tile, tile_at, FollowsCommand, FollowsBatch, FollowsTile, IsReported}
use Rattle.overlay_terms.specs.Column.{column_numbered}
use Rattle.disk_model.specs.declared.disk.Disk.{Ghosts}
use Rattle.layer_book.specs.declared.fault.LayerFault.{LayerFault}
use Rattle.layer_book.specs.Fault.{code_of, fault_of}
use Rattle.layer_book.specs.BatchFault.{RefusedAllBy}
use Rattle.layer_book.specs.declared.batch_fault.BatchFault.TheVariants.{At, Whole}
use Rattle.layer_book.specs.TileRefusal.{tile_refusal}
use Rattle.versions.specs.Finish.{IsAwaited}
use Rattle.versions.specs.declared.finishing.Finish.{Finish}
use Rattle.versions.specs.declared.finishing.Finish.TheVariants as finish
use Rattle.overlay_engine.specs.declared.engine.Engine.{Engine}
use Rattle.overlay_engine.specs.declared.engine.HeldJob.{HeldJob}
use Rattle.overlay_engine.specs.declared.step.Reply.{Reply}
use Rattle.overlay_engine.specs.declared.step.Reply.TheVariants.{Accepted, Refused, RefusedAt, Taken}
use Rattle.overlay_engine.specs.declared.step.Reply.TheVariants.{NoJob, Kept, Stale, Done, Durable}

-- the number of a refusal: that of the first reason; where there is none, 40, that of want of memory
abbrev pub RefusedAs : Option LayerFault → ℕ → Type 0
RefusedAs (Some fault) code = code ≡ code_of fault
RefusedAs None code = code ≡ 40

-- a fact for the number of a reply that says that a commit is done
abbrev pub IfDone : Reply → (ℕ → Type 0) → Type 0
IfDone (Done number) P = P number
IfDone reply P = Unit {0}

-- the number that no job has
abbrev pub jobs_max : ℕ
jobs_max = 2 ^ 32 - 1

-- where the job of a number is among some
abbrev pub job_at : ℕ → List HeldJob → Option ℕ
job_at number jobs = position (λ job. job.number == number) jobs

-- what becomes of the tile of a job: it is kept where the job's input is awaited, and else stale
abbrev pub IsResult : Version → HeldJob → Finish → Type 0
IsResult version job (finish.Kept next) =
    IsAwaited version job.name job.input × (tile : Tile) × FollowsTile version job.name job.input.column tile next
IsResult version job finish.Stale = ¬ (IsAwaited version job.name job.input)

module _ {D : Type 0} {g : Ghosts D} where
  -- nothing changes but where the jobs lie in memory
  pub record StaysEqual (old new : Engine D g) : Type 0 where
    pub version : new.version ≡ old.version
    pub flusher : new.flusher ≡ old.flusher
    pub jobs : new.jobs.items ≡ old.jobs.items
    pub next_job : new.next_job ≡ old.next_job

  -- an engine makes a command: it is accepted, and the version follows; or it is refused by the first reason, or by 40 where there is none
  abbrev pub Submits : Command → Engine D g → Reply → Engine D g → Type 0
  Submits command old (Accepted number) new =
      FollowsCommand old.version command new.version × (number ≡ new.version.number) × (new ≡ record old { version = new.version })
  Submits command old (Refused code) new =
      RefusedAs (option_map fault_of (refusal_at old.version.number old.version.layers command)) code × (new ≡ old)
  Submits command old reply new = ⊥

  -- an engine makes a batch: it is accepted as one version; or it is refused for the first reason, with the place of
  -- the command where it is one's; or memory runs out
  abbrev pub SubmitsBatch : Batch → Engine D g → Reply → Engine D g → Type 0
  SubmitsBatch batch old (Accepted number) new =
      FollowsBatch old.version batch new.version × (number ≡ new.version.number) × (new ≡ record old { version = new.version })
  SubmitsBatch batch old (RefusedAt place code) new =
      RefusedAllBy (batch_refusal_at old.version.number old.version.layers batch) (At place code) × (new ≡ old)
  SubmitsBatch batch old (Refused code) new =
      RefusedAllBy (batch_refusal_at old.version.number old.version.layers batch) (Whole code) × (new ≡ old)
  SubmitsBatch batch old reply new = ⊥

  -- a job more is held, under the next number: of the present input of a tile
  pub record HoldsJob (name : Name) (column : ℕ) (old : Engine D g) (number : ℕ) (new : Engine D g) : Type 0 where
    pub next : number ≡ old.next_job
    pub risen : new.next_job ≡ number + 1
    pub jobs : new.jobs.items ≡ old.jobs.items ++ record { number = number; name = name; input = input_of old.version.layers name column } ∷ []
    pub version : new.version ≡ old.version
    pub flusher : new.flusher ≡ old.flusher

  -- no job can be had of a tile: it is finished, or all numbers are used
  abbrev pub HasNoJob : Name → ℕ → Engine D g → Type 0
  HasNoJob name column e = IsTrue (is_some (tile_at e.version.tiles name column)) ⊎ (e.next_job ≡ jobs_max)

  -- an engine hands out the input of a tile: it is pending, and its job is held; or no job can be had of it; or there is no such tile, or memory runs out, and nothing changes but where the jobs lie in memory
  abbrev pub Takes : Name → ℕ → Engine D g → Reply → Engine D g → Type 0
  Takes name column old (Taken number) new =
      (tile_refusal old.version.layers name (column_numbered column) ≡ None) × ¬ (HasNoJob name column old) × HoldsJob name column old number new
  Takes name column old NoJob new =
      (tile_refusal old.version.layers name (column_numbered column) ≡ None) × HasNoJob name column old × (new ≡ old)
  Takes name column old (Refused code) new =
      RefusedAs (tile_refusal old.version.layers name (column_numbered column)) code × (code ≡ 40 → ¬ (HasNoJob name column old)) × StaysEqual old new
  Takes name column old reply new = ⊥

  -- a job that is held is given up; the store, the other jobs and the next one's number stay
  pub record GivesUp (number : ℕ) (old : Engine D g) (job : HeldJob) (new : Engine D g) : Type 0 where
    pub index : ℕ
    pub there : job_at number old.jobs.items ≡ Some index
    pub held : slice_get old.jobs.items index ≡ Some job
    pub jobs : new.jobs.items ≡ remove old.jobs.items index
    pub next_job : new.next_job ≡ old.next_job
    pub flusher : new.flusher ≡ old.flusher

  -- an engine builds the tile of a job: none has the number; or the job is given up, and its tile is kept or stale; or memory runs out, and the job is held on
  abbrev pub Finishes : ℕ → Engine D g → Reply → Engine D g → Type 0
  Finishes number old Kept new = (job : HeldJob) × GivesUp number old job new × IsResult old.version job (finish.Kept new.version)
  Finishes number old Stale new = (job : HeldJob) × GivesUp number old job new × IsResult old.version job finish.Stale × (new.version ≡ old.version)
  Finishes number old NoJob new = (job_at number old.jobs.items ≡ None) × (new ≡ old)
  Finishes number old (Refused code) new = IsTrue (is_some (job_at number old.jobs.items)) × (code ≡ 40) × (new ≡ old)
  Finishes number old reply new = ⊥

  -- an engine reports what is stored, and says what is durable now; or it is refused by 40, and nothing changes
  abbrev pub Reports : Engine D g → Reply → Engine D g → Type 0
  Reports old (Durable number) new =
      IsReported old.version old.flusher.commit.root.version new.version × (number ≡ new.version.durable) × (new ≡ record old { version = new.version })
  Reports old (Refused code) new = (code ≡ 40) × (new ≡ old)
  Reports old reply new = ⊥
