-- Files of the old format: what they hold, and what a recovery owes of them.
use Rattle.std.specs.Prelude.{◌≡◌, ℕ, true, List, [], Ok}
use Rattle.disk_model.specs.declared.disk.Disk.{Ghosts}
use Rattle.disk_model.specs.Moments.{LeavesOnly}
use Rattle.overlay_terms.specs.Layers.{Layer}
use Rattle.store_terms.specs.declared.root.Root.{Root}
use Rattle.store_terms.specs.Image.{Held}
use Rattle.store_terms.specs.StandsFor.{root_of, StandsFor}
use Rattle.overlay_engine.specs.declared.engine.Engine.{Engine}
use Rattle.overlay_engine.specs.Start.{Start}
use Rattle.overlay_engine.specs.Covers.{version_of, Covered, Covers}

-- layers under a number, with no finished tile
abbrev pub bare : ℕ → List Layer → Held
bare number layers = record { number = number; layers = layers; tiles = [] }

-- a file holds such layers by a root of the old format
pub record IsOldFile (number : ℕ) (layers : List Layer) (file : List ℕ) : Type 0 where
  pub root : Root
  pub names : root_of file ≡ Ok root
  pub old : root.is_old ≡ true
  pub stands : StandsFor (bare number layers) file

-- batches are counted from the version of this number and these layers on
abbrev pub start_at : ℕ → List Layer → Start
start_at number layers = record { number = number; layers = layers }

-- such a file is one that a crash may have left of an engine which began with what the file holds
abbrev pub OldFileIsCovered : Type 0
OldFileIsCovered = (number : ℕ) (layers : List Layer) (file : List ℕ) → IsOldFile number layers file → Covered (start_at number layers) number [] file

module _ {D : Type 0} (g : Ghosts D) (number : ℕ) (layers : List Layer) (disk : D) where
  -- an engine is recovered from it: its version is what the file holds, all of it durable; the engine covers that version, before any batch; and a crash meanwhile leaves what recovers as well
  pub record OldRecovered (e : Engine D g) : Type 0 where
    pub version : e.version ≡ version_of (bare number layers)
    pub covers : Covers g (start_at number layers) e.flusher e.version []
    pub moments : LeavesOnly g disk e.flusher.commit.disk (Covered (start_at number layers) number [])
