-- One step of an engine, of whatever kind, and what survives a crash within it.
use Rattle.std.specs.Prelude.{List, [], ◌∷◌, ◌++◌}
use Rattle.disk_model.specs.declared.disk.Disk.{Ghosts}
use Rattle.disk_model.specs.Moments.{LeavesOnly}
use Rattle.overlay_terms.specs.Batches.{Batch}
use Rattle.layer_book.specs.Command.{command}
use Rattle.overlay_engine.specs.declared.engine.Engine.{Engine}
use Rattle.overlay_engine.specs.declared.step.Step.{Step}
use Rattle.overlay_engine.specs.declared.step.Step.TheVariants.{Submit, SubmitAll, Take, Finish, Device, Report}
use Rattle.overlay_engine.specs.declared.step.Reply.{Reply}
use Rattle.overlay_engine.specs.declared.step.Reply.TheVariants.{Accepted}
use Rattle.overlay_engine.specs.Start.{Start}
use Rattle.overlay_engine.specs.Covers.{Covered, Covers}
use Rattle.overlay_engine.specs.Steps.{Submits, SubmitsBatch, Takes, Finishes, Reports}
use Rattle.overlay_engine.specs.Devices.{Devices}

-- what a step makes of the engine, by its kind; of the device's step a row without `Devices` says only `Survives`
abbrev pub Acts : {D : Type 0} (g : Ghosts D) → Step → Engine D g → Reply → Engine D g → Type 0
Acts g (Submit change) old reply new = Submits (command change) old reply new
Acts g (SubmitAll batch) old reply new = SubmitsBatch batch old reply new
Acts g (Take name column) old reply new = Takes name column old reply new
Acts g (Finish number) old reply new = Finishes number old reply new
Acts g Device old reply new = Devices g old reply new
Acts g Report old reply new = Reports old reply new

-- the batch that a step added, if it was accepted: a single command is a batch of one; `batch` stands for its model
abbrev pub accepted_by : Step → Reply → List Batch
accepted_by (Submit change) (Accepted number) = (command change ∷ []) ∷ []
accepted_by (SubmitAll batch) (Accepted number) = batch ∷ []
accepted_by step reply = []

-- a step of an engine that has accepted these batches: as it ends, the store covers them with the step's own; a crash at any moment of it leaves what the first so many of these batches make, no fewer than were durable as the step began
pub record Survives {D : Type 0} (g : Ghosts D) (start : Start) (batches : List Batch) (step : Step) (old : Engine D g) (reply : Reply) (new : Engine D g) : Type 0 where
  pub covers : Covers g start new.flusher new.version (batches ++ accepted_by step reply)
  pub moments : LeavesOnly g old.flusher.commit.disk new.flusher.commit.disk (Covered start old.version.durable batches)
