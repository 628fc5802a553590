-- Laws of a version over its store: what goes on covering, and what a recovery and the begin of a commit owe for it.
use Rattle.std.specs.Prelude.{◌≡◌, ◌⊎◌, ℕ, ◌+◌, ◌≤◌, List, ◌++◌, length, Ok}
use Rattle.disk_model.specs.declared.disk.Disk.{Ghosts}
use Rattle.disk_model.specs.Moments.{Leaves}
use Rattle.overlay_terms.specs.Batches.{Batch}
use Rattle.overlay_terms.specs.Histories.{Version, Event, Follows}
use Rattle.store_terms.specs.StandsFor.{reading}
use Rattle.root_store.specs.declared.phase.Phase.TheVariants.{Idle, Close}
use Rattle.commit_plan.specs.Kept.{Kept}
use Rattle.root_store.specs.Running.{StoreStandsFor, RunsFrom}
use Rattle.flush_core.specs.declared.flusher.Flusher.{Flusher}
use Rattle.flush_core.specs.Stored.{IsCommitOf}
use Rattle.overlay_engine.specs.Start.{Start, up_to}
use Rattle.overlay_engine.specs.Covers.{version_of, Covered, Covers, added, ReportsStored}

module _ {D : Type 0} (g : Ghosts D) where
  -- a version that follows by an event is covered, for the batches with those that the event adds
  abbrev pub EventsCover : Type 0
  EventsCover =
      (start : Start) (f : Flusher D g) (old new : Version) (event : Event) (batches : List Batch)
      → Covers g start f old batches → Follows old event new → ReportsStored f event
      → Covers g start f new (batches ++ added event)

  -- between two steps a crash leaves a version that is no older than the stored one
  abbrev pub CoveredStays : Type 0
  CoveredStays =
      (start : Start) (f : Flusher D g) (version : Version) (batches : List Batch)
      → Covers g start f version batches → Leaves g f.commit.disk (Covered start f.commit.root.version batches)

  -- and it holds something, where no commit is under way and no call has failed
  abbrev pub CoveredRests : Type 0
  CoveredRests =
      (start : Start) (f : Flusher D g) (version : Version) (batches : List Batch)
      → Covers g start f version batches → f.commit.phase ≡ Idle → (x : Kept) × StoreStandsFor g f.commit x

  -- a store that was opened on this disk, with what its file holds
  pub record IsOpened (disk : D) (f : Flusher D g) (x : Kept) : Type 0 where
    pub stays : g.may_leave disk (g.seen disk)
    pub reads : reading (g.seen disk) ≡ Ok x.held
    pub stands : StoreStandsFor g f.commit x
    pub stored : f.commit.root.version ≡ x.held.number

  -- what a file holds is the version after the first batches, no older than the least, and the
  -- store covers it, all of it durable
  pub record Recovers (start : Start) (f : Flusher D g) (x : Kept) (least : ℕ) (batches : List Batch) : Type 0 where
    pub no_less : least ≤ x.held.number
    pub no_more : x.held.number ≤ start.number + length batches
    pub covers : Covers g start f (version_of x.held) (up_to start x.held.number batches)

  abbrev pub OpenedRecovers : Type 0
  OpenedRecovers =
      (start : Start) (disk : D) (f : Flusher D g) (x : Kept) (least : ℕ) (batches : List Batch)
      → Leaves g disk (Covered start least batches) → IsOpened disk f x → Recovers start f x least batches

  -- while the file is opened a crash leaves the file that was there, or one that holds the same
  abbrev pub OpeningIsCovered : Type 0
  OpeningIsCovered =
      (start : Start) (disk : D) (least : ℕ) (batches : List Batch) → Leaves g disk (Covered start least batches)
      → g.may_leave disk (g.seen disk)
      → (c : List ℕ) → g.may_leave disk c ⊎ (reading c ≡ reading (g.seen disk)) → Covered start least batches c

  -- a commit of a version begins: it leads from what the store holds to that version, under its number
  pub record IsBegun (old new : Flusher D g) (version : Version) : Type 0 where
    pub began : new.commit.phase ≡ Close
    pub honest : g.is_honest old.commit.disk → g.is_honest new.commit.disk
    pub runs : (x : Kept) → StoreStandsFor g old.commit x
        → (y : Kept) × IsCommitOf version y × RunsFrom g new.commit x y
    pub stored : new.commit.root.version ≡ old.commit.root.version

  abbrev pub BegunCovers : Type 0
  BegunCovers =
      (start : Start) (old new : Flusher D g) (version : Version) (batches : List Batch)
      → old.commit.phase ≡ Idle → Covers g start old version batches → IsBegun old new version
      → Covers g start new version batches
