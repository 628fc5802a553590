-- What an engine is before its first step: its store holds just its version.
use Rattle.std.specs.Prelude.{◌≡◌, ◌≤◌}
use Rattle.disk_model.specs.declared.disk.Disk.{Ghosts}
use Rattle.overlay_terms.specs.Histories.{Version}
use Rattle.commit_plan.specs.Kept.{Kept}
use Rattle.root_store.specs.Running.{StoreStandsFor}
use Rattle.flush_core.specs.declared.flusher.Flusher.{Flusher}
use Rattle.flush_core.specs.Stored.{IsImageOf}
use Rattle.overlay_engine.specs.declared.engine.Engine.{Engine}

-- a store that was made or opened with a version: no commit is under way and no call has failed; whatever a crash
-- leaves holds the version's number, its layers, each of its finished tiles and no other; and the version is the one
-- that is stored, durable no further than that
pub record IsNewStore {D : Type 0} (g : Ghosts D) (version : Version) (f : Flusher D g) : Type 0 where
  pub x : Kept
  pub stands : StoreStandsFor g f.commit x
  pub image : IsImageOf version x.held
  pub stored : f.commit.root.version ≡ version.number
  pub reported : version.durable ≤ f.commit.root.version

-- an engine with such a store
abbrev pub IsNewEngine : {D : Type 0} (g : Ghosts D) → Engine D g → Type 0
IsNewEngine g e = IsNewStore g e.version e.flusher
