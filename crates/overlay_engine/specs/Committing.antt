-- Which version a commit writes.
use Rattle.std.specs.Prelude.{◌≡◌, ◌⊎◌, ℕ, List}
use Rattle.disk_model.specs.declared.disk.Disk.{Ghosts}
use Rattle.disk_model.specs.Moments.{Leaves, LeavesOnly}
use Rattle.overlay_terms.specs.Histories.{Version}
use Rattle.store_terms.specs.Image.{Held}
use Rattle.store_terms.specs.StandsFor.{StandsFor}
use Rattle.commit_plan.specs.Kept.{Kept}
use Rattle.root_store.specs.Running.{StoreStandsFor, RunsFrom}
use Rattle.flush_core.specs.declared.flusher.Flusher.{Flusher}
use Rattle.flush_core.specs.Stored.{IsImageOf, IsCommitOf}
use Rattle.overlay_engine.specs.declared.engine.Engine.{Engine}
use Rattle.overlay_engine.specs.declared.step.Reply.{Reply}
use Rattle.overlay_engine.specs.declared.step.Reply.TheVariants.{Going, Done}

-- a file holds a version: its number, its layers, each of its finished tiles and no other
pub record IsFileOf (version : Version) (file : List ℕ) : Type 0 where
  pub held : Held
  pub image : IsImageOf version held
  pub stands : StandsFor held file

-- a file holds what was held, or a version
abbrev pub IsFileOfEither : Held → Version → List ℕ → Type 0
IsFileOfEither held version file = StandsFor held file ⊎ IsFileOf version file

module _ {D : Type 0} (g : Ghosts D) where
  -- a commit is under way, from what is kept to this version
  pub record Commits (f : Flusher D g) (x : Kept) (version : Version) : Type 0 where
    pub y : Kept
    pub of : IsCommitOf version y
    pub runs : RunsFrom g f.commit x y

  -- the store rests with a version: no commit is under way, no call has failed, and it holds just the version
  pub record RestsWith (f : Flusher D g) (version : Version) : Type 0 where
    pub y : Kept
    pub of : IsCommitOf version y
    pub stands : StoreStandsFor g f.commit y

  -- a device step leads from what is kept to a version: so does the commit under way; where the store holds what is kept, the version is the newest
  abbrev pub IsToCommit : Engine D g → Kept → Version → Type 0
  IsToCommit e x version = Commits e.flusher x version ⊎ (StoreStandsFor g e.flusher.commit x × (version ≡ e.version))

  -- the step goes on with the commit of that version; or it ends it, the store rests with that version, and a crash leaves it and no other
  abbrev pub Committed : Kept → Version → Reply → Flusher D g → Type 0
  Committed x version Going new = Commits new x version
  Committed x version (Done number) new =
      (number ≡ version.number) × RestsWith new version × Leaves g new.commit.disk (IsFileOf version)
  Committed x version reply new = Unit {0}

  -- and a crash at any moment of the step leaves what was kept, or that version
  abbrev pub CarriesOn : Kept → Version → Flusher D g → Reply → Flusher D g → Type 0
  CarriesOn x version old reply new =
      LeavesOnly g old.commit.disk new.commit.disk (IsFileOfEither x.held version) × Committed x version reply new

  -- a step commits just what it is to commit, whichever tiles that has
  abbrev pub CommitsJust : Engine D g → Reply → Engine D g → Type 0
  CommitsJust old reply new = (x : Kept) (version : Version) → IsToCommit old x version → CarriesOn x version old.flusher reply new.flusher
