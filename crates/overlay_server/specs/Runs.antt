-- Runs of a store one after another: calls of the store's keeper, the end of a book,
-- crashes within a call, and openings.
use Rattle.std.specs.Prelude.{◌≡◌, ◌⊎◌, ◌+◌, ◌≤◌, ℕ, List, [], ◌∷◌, ◌++◌, length}
use Rattle.std.proofs.Common.{inl, inr}
use Rattle.std.specs.List.{AllByRecursion}
use Rattle.disk_model.specs.declared.disk.Disk.{Ghosts}
use Rattle.disk_model.specs.Moments.{Leaves}
use Rattle.overlay_terms.specs.Batches.{Batch}
use Rattle.overlay_terms.specs.Histories.{History, IsHistory, BeginsWith, newest, accepted_in}
use Rattle.overlay_terms.specs.KeptLaws.{IsExact}
use Rattle.flush_core.specs.declared.flusher.Flusher.{Flusher}
use Rattle.overlay_engine.specs.declared.engine.Engine.{Engine}
use Rattle.overlay_engine.specs.Covers.{Covered}
use Rattle.overlay_engine.specs.Lives.{TriesTo}
use Rattle.overlay_engine.specs.NewEngine.{IsNewEngine}
use Rattle.overlay_engine.specs.Recovery.{Recovered}
use Rattle.overlay_engine.specs.Start.{Start, layers_from, up_to}
use Rattle.kept_store.specs.Storing.{IsStoreOf, KeepsReported}

-- a moment of a run: the batches before the run's first version, the history that its reporter has seen, and its store
pub record Moment (D : Type 0) (g : Ghosts D) : Type 0 where
  pub before : List Batch
  pub history : History
  pub flusher : Flusher D g

-- all batches up to a moment, of this run and of those before it
abbrev pub batches_at : {D : Type 0} {g : Ghosts D} → Moment D g → List Batch
batches_at m = m.before ++ accepted_in m.history.entries

-- the number that was reported durable last, or recovered where none was since
abbrev pub durable_at : {D : Type 0} {g : Ghosts D} → Moment D g → ℕ
durable_at m = (newest m.history).durable

module _ {D : Type 0} (g : Ghosts D) (start : Start) where
  -- a run is under way: its first version is that of the batches before it, with right tiles and a durable number no greater than its own, and the store is one of its history
  pub record IsRunning (m : Moment D g) : Type 0 where
    pub valid : IsHistory m.history
    pub exact : IsExact m.history.start
    pub fresh : m.history.start.durable ≤ m.history.start.number
    pub number : m.history.start.number ≡ start.number + length m.before
    pub layers : m.history.start.layers ≡ layers_from start m.before
    pub store : IsStoreOf g m.history m.flusher

  -- a call of the store's keeper has returned: what its clause `keeps` says
  pub record CallsTo (old new : Moment D g) : Type 0 where
    pub before : new.before ≡ old.before
    pub keeps : IsStoreOf g old.history old.flusher → KeepsReported g old.history old.flusher new.history new.flusher

  -- the book has closed, as `close` and `Store::close` say: its last log reports no more durable than is stored
  pub record ClosesTo (old new : Moment D g) : Type 0 where
    pub before : new.before ≡ old.before
    pub goes_on : BeginsWith new.history old.history
    pub valid : IsHistory new.history
    pub same : new.flusher ≡ old.flusher
    pub reported : (newest new.history).durable ≤ old.flusher.commit.root.version

  -- a run that begins with an opened engine, after such batches
  abbrev pub opened : List Batch → Engine D g → Moment D g
  opened batches e = record { before = up_to start e.version.number batches; history = record { start = e.version; entries = [] }; flusher = e.flusher }

  -- the machine crashes in a call of the keeper, or after its return: what is said of the call holds as if it had returned; and
  -- what that leaves is opened in the end, after so many openings that were stopped or refused, and the next run begins
  pub record CutTo (old new : Moment D g) : Type 0 where
    pub history : History
    pub end : Flusher D g
    pub keeps : IsStoreOf g old.history old.flusher → KeepsReported g old.history old.flusher history end
    pub disk : D
    pub leaves : (c : List ℕ) → g.may_leave disk c → g.left_since end.commit.disk (g.moment old.flusher.commit.disk) c
    pub tried : List D
    pub last : D
    pub tries : TriesTo g start disk tried last
    pub engine : Engine D g
    pub is_new : IsNewEngine g engine
    pub recovered : (least : ℕ) (batches : List Batch) → Leaves g last (Covered start least batches) → Recovered g start last engine least batches
    pub next : new ≡ opened (old.before ++ accepted_in history.entries) engine

  -- each moment is had from the one before it
  abbrev pub Runs : Moment D g → List (Moment D g) → Type 0
  Runs m [] = Unit {0}
  Runs m (next ∷ more) = (CallsTo m next ⊎ (ClosesTo m next ⊎ CutTo m next)) × Runs next more

  -- what was reported durable at one moment is so at a later one, of any run: its version is of batches that begin the same
  pub record StandsAt (old new : Moment D g) : Type 0 where
    pub running : IsRunning new
    pub durable : durable_at old ≤ durable_at new
    pub same : up_to start (durable_at old) (batches_at new) ≡ up_to start (durable_at old) (batches_at old)

  -- the moment to which a call that was cut would have come: all that was reported durable within it is so there
  abbrev pub cut_call : (old new : Moment D g) → CutTo old new → Moment D g
  cut_call old new cut = record { before = old.before; history = cut.history; flusher = cut.end }

  -- what was reported durable within a call that was cut (`cut`; nothing of others) is so at these moments
  abbrev pub CutStands : (old new : Moment D g) → CallsTo old new ⊎ (ClosesTo old new ⊎ CutTo old new) → List (Moment D g) → Type 0
  CutStands old new (inl calls) later = Unit {0}
  CutStands old new (inr (inl closes)) later = Unit {0}
  CutStands old new (inr (inr cut)) later = AllByRecursion (StandsAt (cut_call old new cut)) later

  -- what was reported durable at any of the moments, or within a call that was cut, is so at each later moment
  abbrev pub AllStand : (m : Moment D g) (later : List (Moment D g)) → Runs m later → Type 0
  AllStand m [] runs = Unit {0}
  AllStand m (next ∷ more) runs = AllByRecursion (StandsAt m) (next ∷ more) × CutStands m next runs.0 (next ∷ more) × AllStand next more runs.1

  -- through any number of runs nothing is lost that was reported durable
  abbrev pub RunsLoseNothing : Type 0
  RunsLoseNothing = (m : Moment D g) (later : List (Moment D g)) → IsRunning m → (runs : Runs m later) → AllStand m later runs
