-- A store of the versions of a history: what is known of it between its calls, and what a run of its flusher makes of
-- both.
use Rattle.std.specs.Prelude.{◌≡◌, ◌≤◌, ℕ, List}
use Rattle.disk_model.specs.declared.disk.Disk.{Ghosts}
use Rattle.disk_model.specs.Moments.{Leaves, LeavesOnly}
use Rattle.overlay_terms.specs.Histories.{Entry, History, IsHistory, BeginsWith, newest}
use Rattle.root_store.specs.declared.phase.Phase.{Phase}
use Rattle.root_store.specs.declared.phase.Phase.TheVariants.{Idle, Close, Settle, Put, Open, Finish, Failed}
use Rattle.commit_plan.specs.Kept.{Kept}
use Rattle.root_store.specs.Running.{StoreStandsFor, RunsFrom, FailsByDevice, KeepsTo}
use Rattle.flush_core.specs.declared.flusher.Flusher.{Flusher}
use Rattle.book_history.specs.Logs.{history_of}
use Rattle.book_lock.specs.Heard.{Heard}
use Rattle.kept_store.specs.Among.{IsHeldIn, IsFileIn}

module _ {D : Type 0} (g : Ghosts D) (history : History) where
  -- no commit is under way: the file holds the version that is stored
  pub record Rests (f : Flusher D g) : Type 0 where
    pub x : Kept
    pub held : IsHeldIn history x.held
    pub number : x.held.number ≡ f.commit.root.version
    pub stands : StoreStandsFor g f.commit x

  -- a commit is under way, from the version that is stored to one that is no older
  pub record Goes (f : Flusher D g) : Type 0 where
    pub x : Kept
    pub y : Kept
    pub held : IsHeldIn history x.held
    pub number : x.held.number ≡ f.commit.root.version
    pub next : IsHeldIn history y.held
    pub next_number : y.held.number ≡ y.root.version
    pub later : f.commit.root.version ≤ y.held.number
    pub runs : RunsFrom g f.commit x y

  -- what is known of a store, by how far its commit is
  abbrev pub IsStoreAt : Phase → Flusher D g → Type 0
  IsStoreAt Idle f = Rests f
  IsStoreAt Failed f = Leaves g f.commit.disk (IsFileIn history f.commit.root.version)
  IsStoreAt Close f = Goes f
  IsStoreAt Settle f = Goes f
  IsStoreAt Put f = Goes f
  IsStoreAt Open f = Goes f
  IsStoreAt Finish f = Goes f

  -- a store of this history, on an honest disk: what is reported is stored, and its file is as `IsStoreAt` says
  pub record IsStoreOf (f : Flusher D g) : Type 0 where
    pub honest : g.is_honest f.commit.disk
    pub reported : (newest history).durable ≤ f.commit.root.version
    pub store : IsStoreAt f.commit.phase f

-- what is stored is reported durable
abbrev pub AllReported : {D : Type 0} {g : Ghosts D} → History → Flusher D g → Type 0
AllReported history f = (newest history).durable ≡ f.commit.root.version

-- the blocks that its file may have stay as many
abbrev pub KeepsLimit : {D : Type 0} {g : Ghosts D} → Flusher D g → Flusher D g → Type 0
KeepsLimit old new = (limit : ℕ) → KeepsTo limit old.commit → KeepsTo limit new.commit

-- a run of the flusher: the history goes on, the store is one of it, what it stores it reports, and a crash at any
-- moment leaves a version of it no older than what was stored as the run began; it fails by its device alone
pub record Flushes {D : Type 0} (g : Ghosts D) (was : History) (old : Flusher D g) (now : History) (new : Flusher D g)
    : Type 0 where
  pub goes_on : BeginsWith now was
  pub store : IsStoreOf g now new
  pub no_less : old.commit.root.version ≤ new.commit.root.version
  pub reports : AllReported was old → AllReported now new
  pub moments : LeavesOnly g old.commit.disk new.commit.disk (IsFileIn now old.commit.root.version)
  pub by_device : FailsByDevice g old.commit new.commit
  pub blocks : KeepsLimit old new

-- a call of a store's keeper: what the reporter has seen goes on and is a history, the store is one of it, and it fails
-- by its device alone. What was stored as it began has all that is reported by its end; no crash within it leaves less
pub record KeepsReported {D : Type 0} (g : Ghosts D) (was : History) (old : Flusher D g) (now : History) (new : Flusher D g)
    : Type 0 where
  pub goes_on : BeginsWith now was
  pub valid : IsHistory now
  pub store : IsStoreOf g now new
  pub no_less : old.commit.root.version ≤ new.commit.root.version
  pub reported : (newest now).durable ≤ old.commit.root.version
  pub moments : LeavesOnly g old.commit.disk new.commit.disk (IsFileIn now old.commit.root.version)
  pub by_device : FailsByDevice g old.commit new.commit
  pub blocks : KeepsLimit old new

-- the same of a reporter and its store, where the store is one of the history that the reporter has seen
abbrev pub Keeps : {D : Type 0} (g : Ghosts D) → Heard → Flusher D g → Heard → Flusher D g → Type 0
Keeps g was old now new =
    IsStoreOf g (history_of was.log) old → KeepsReported g (history_of was.log) old (history_of now.log) new

-- a store was followed: it is the same store, its history went on, it is one of it, stores nothing older, and a crash since
-- left no older version
pub record IsFollowed {D : Type 0} (g : Ghosts D) (was : History) (old : Flusher D g) (now : History) (new : Flusher D g)
    : Type 0 where
  pub same : new.commit.name ≡ old.commit.name
  pub goes_on : BeginsWith now was
  pub store : IsStoreOf g now new
  pub no_less : old.commit.root.version ≤ new.commit.root.version
  pub moments : LeavesOnly g old.commit.disk new.commit.disk (IsFileIn now old.commit.root.version)

-- a number is stored of a log: a store of the first one's name, to which that was followed by that log, holds it (that
-- it is this run's store is what its receipt says, IsOwnReceipt)
pub record IsStored {D : Type 0} (g : Ghosts D) (was : History) (old : Flusher D g) (log : List Entry) (number : ℕ) : Type 0 where
  pub store : Flusher D g
  pub followed : IsFollowed g was old (history_of log) store
  pub at : store.commit.root.version ≡ number

-- a predicate holds of each number that is stored of a log, where a store of a history was followed to that log
abbrev pub HoldsOfStored : {D : Type 0} (g : Ghosts D) → (List Entry → ℕ → Type 0) → History → Flusher D g → Type 0
HoldsOfStored {D = D} g stored was old =
    (log : List Entry) (f : Flusher D g) → (IsStoreOf g was old → IsFollowed g was old (history_of log) f)
    → stored log f.commit.root.version
