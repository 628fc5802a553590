-- What a recovery owes of a file that a crash may have left.
use Rattle.std.specs.Prelude.{◌≡◌, ◌⊎◌, ℕ, ◌+◌, ◌≤◌, List, length}
use Rattle.disk_model.specs.declared.disk.Disk.{Ghosts}
use Rattle.disk_model.specs.Moments.{Leaves, LeavesOnly}
use Rattle.overlay_terms.specs.Plane.{Point}
use Rattle.overlay_terms.specs.Layers.{Name, answer_at}
use Rattle.overlay_terms.specs.Batches.{Batch}
use Rattle.layer_book.specs.declared.direct_answer.Place.{Place}
use Rattle.layer_book.specs.Place.{location}
use Rattle.commit_plan.specs.declared.fault.StoreFault.TheVariants.{Device, OutOfMemory}
use Rattle.root_store.specs.declared.open_fault.OpenFault.{OpenFault}
use Rattle.overlay_engine.specs.declared.engine.Engine.{Engine}
use Rattle.root_store.specs.Opening.{InPhases, Stops}
use Rattle.overlay_engine.specs.Start.{Start, layers_from, up_to}
use Rattle.overlay_engine.specs.Covers.{Covered, Covers}

module _ {D : Type 0} (g : Ghosts D) (start : Start) (disk : D) where
  -- an engine is recovered: its version is that after the batches up to its number, which is `least` or more and durable; a crash meanwhile leaves what recovers as well
  pub record Recovered (e : Engine D g) (least : ℕ) (batches : List Batch) : Type 0 where
    pub no_less : least ≤ e.version.number
    pub no_more : e.version.number ≤ start.number + length batches
    pub durable : e.version.durable ≡ e.version.number
    pub covers : Covers g start e.flusher e.version (up_to start e.version.number batches)
    pub moments : LeavesOnly g disk e.flusher.commit.disk (Covered start least batches)
    -- what might have been left before is left until the first sync has succeeded, which is the first device call, and from then on a file that holds the same; after the reads there are two calls at most
    pub phases : InPhases g disk e.flusher.commit.disk

  -- a recovery is refused, by the fault `Device` or `OutOfMemory`, and what is left recovers as well
  pub record Refused (refused : OpenFault D) (least : ℕ) (batches : List Batch) : Type 0 where
    pub honest : g.is_honest refused.disk
    pub leaves : Leaves g refused.disk (Covered start least batches)
    pub moments : LeavesOnly g disk refused.disk (Covered start least batches)
    -- so it is here, unless the device failed in that sync
    pub stops : Stops g disk (refused.fault ≡ Device) refused.disk
    pub cause : (refused.fault ≡ Device) ⊎ (refused.fault ≡ OutOfMemory)

-- where a point lies for a layer of a recovered version: what `locate` says of it is right
-- for the layers after the commands
abbrev pub RecoveredAnswers : {D : Type 0} → Ghosts D → Type 0
RecoveredAnswers {D = D} g =
    (start : Start) (disk : D) (e : Engine D g) (least : ℕ) (batches : List Batch)
    → Recovered g start disk e least batches
    → (name : Name) (query : Point) (reported : Place) → location reported ≡ answer_at e.version.layers name query
    → location reported ≡ answer_at (layers_from start (up_to start e.version.number batches)) name query
