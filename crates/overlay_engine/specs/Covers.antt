-- What every file that a crash may leave holds.
use Rattle.std.specs.Prelude.{◌≡◌, ℕ, ◌+◌, ◌≤◌, List, [], ◌∷◌, length}
use Rattle.disk_model.specs.declared.disk.Disk.{Ghosts}
use Rattle.disk_model.specs.Moments.{Leaves, LeavesOnly}
use Rattle.overlay_terms.specs.Batches.{Batch}
use Rattle.overlay_terms.specs.Histories.{Version, Event, accepted, kept, durable_to}
use Rattle.overlay_terms.specs.KeptLaws.{IsExact}
use Rattle.store_terms.specs.Image.{Held}
use Rattle.store_terms.specs.StandsFor.{StandsFor}
use Rattle.root_store.specs.declared.phase.Phase.{Phase}
use Rattle.root_store.specs.declared.phase.Phase.TheVariants.{Idle, Close, Settle, Put, Open, Finish, Failed}
use Rattle.commit_plan.specs.Kept.{Kept}
use Rattle.root_store.specs.Running.{StoreStandsFor, RunsFrom}
use Rattle.flush_core.specs.declared.flusher.Flusher.{Flusher}
use Rattle.overlay_engine.specs.Start.{Start, layers_from, up_to}

-- what is held, as a version that is durable
abbrev pub version_of : Held → Version
version_of x = record { number = x.number; layers = x.layers; tiles = x.tiles; durable = x.number }

-- what is held is the version of its number: the layers after the batches up to it, and right tiles
pub record IsStored (start : Start) (batches : List Batch) (x : Held) : Type 0 where
  pub since : start.number ≤ x.number
  pub no_later : x.number ≤ start.number + length batches
  pub layers : x.layers ≡ layers_from start (up_to start x.number batches)
  pub exact : IsExact (version_of x)

-- the file holds such a version, of at least this number
pub record Covered (start : Start) (least : ℕ) (batches : List Batch) (file : List ℕ) : Type 0 where
  pub held : Held
  pub no_less : least ≤ held.number
  pub stored : IsStored start batches held
  pub stands : StandsFor held file

-- the file holds such a version, of exactly this number
pub record CoveredExactly (start : Start) (number : ℕ) (batches : List Batch) (file : List ℕ) : Type 0 where
  pub held : Held
  pub exactly : held.number ≡ number
  pub stored : IsStored start batches held
  pub stands : StandsFor held file

module _ {D : Type 0} (g : Ghosts D) (start : Start) where
  -- no commit is under way: the file holds the version that is stored
  pub record AtRest (f : Flusher D g) (batches : List Batch) : Type 0 where
    pub x : Kept
    pub number : x.held.number ≡ f.commit.root.version
    pub stored : IsStored start batches x.held
    pub stands : StoreStandsFor g f.commit x

  -- a commit is under way, from the version that is stored to one that is no older
  pub record UnderWay (f : Flusher D g) (batches : List Batch) : Type 0 where
    pub x : Kept
    pub y : Kept
    pub number : x.held.number ≡ f.commit.root.version
    pub stored : IsStored start batches x.held
    pub next_number : y.held.number ≡ y.root.version
    pub storing : IsStored start batches y.held
    pub later : f.commit.root.version ≤ y.held.number
    pub runs : RunsFrom g f.commit x y

  -- what is known of a store, by how far its commit is
  abbrev pub In : Phase → Flusher D g → List Batch → Type 0
  In Idle f batches = AtRest f batches
  In Failed f batches = Leaves g f.commit.disk (Covered start f.commit.root.version batches)
  In Close f batches = UnderWay f batches
  In Settle f batches = UnderWay f batches
  In Put f batches = UnderWay f batches
  In Open f batches = UnderWay f batches
  In Finish f batches = UnderWay f batches

  -- the version is the one after all the batches, its tiles are right, what is reported is stored, nothing newer than the version is, and the disk is honest; `store` says the rest by its phase
  pub record Covers (f : Flusher D g) (version : Version) (batches : List Batch) : Type 0 where
    pub honest : g.is_honest f.commit.disk
    pub number : version.number ≡ start.number + length batches
    pub layers : version.layers ≡ layers_from start batches
    pub exact : IsExact version
    pub reported : version.durable ≤ f.commit.root.version
    pub stored : f.commit.root.version ≤ version.number
    pub store : In f.commit.phase f batches

  -- a device call: the store covers the same version, and a crash at any moment of the call leaves one that is no older
  -- than what was reported as it began
  pub record Moves (old new : Flusher D g) (version : Version) (batches : List Batch) : Type 0 where
    pub covers : Covers new version batches
    pub moments : LeavesOnly g old.commit.disk new.commit.disk (Covered start version.durable batches)

-- the batches that an event adds
abbrev pub added : Event → List Batch
added (accepted session batch) = batch ∷ []
added (kept name column tile) = []
added (durable_to number) = []

-- what an event reports durable is stored
abbrev pub ReportsStored : {D : Type 0} {g : Ghosts D} → Flusher D g → Event → Type 0
ReportsStored f (accepted session batch) = Unit {0}
ReportsStored f (kept name column tile) = Unit {0}
ReportsStored f (durable_to number) = number ≤ f.commit.root.version
