-- What each step leaves of a store that covers some batches.
use Rattle.std.proofs.Common.{◌≡◌, inl, inr, ℕ, List, [], ◌∷◌, ◌++◌, refl, sym, ◌∙◌, ap, subst, arith}
use Rattle.std.proofs.lemmas.List.{append-nil}
use Rattle.disk_model.specs.declared.disk.Disk.{Ghosts}
use Rattle.disk_model.specs.Moments.{LeavesOnly}
use Rattle.overlay_terms.specs.Layers.{Name}
use Rattle.overlay_terms.specs.Batches.{Batch}
use Rattle.overlay_terms.specs.Histories.{Version, Event, accepted, kept, durable_to, Follows}
use Rattle.overlay_terms.proofs.BatchLemmas.{one_follows_alike}
use Rattle.layer_book.specs.Command.{command}
use Rattle.layer_book.specs.declared.command.Command as code
use Rattle.flush_core.specs.declared.flusher.Flusher.{Flusher}
use Rattle.overlay_engine.specs.declared.engine.Engine.{Engine}
use Rattle.overlay_engine.specs.declared.step.Step.{Step}
use Rattle.overlay_engine.specs.declared.step.Step.TheVariants.{Submit, SubmitAll, Take, Finish, Device, Report}
use Rattle.overlay_engine.specs.declared.step.Reply.{Reply}
use Rattle.overlay_engine.specs.declared.step.Reply.TheVariants.{Accepted, Refused, RefusedAt, Taken, NoJob, Kept, Stale, Going, Done, Durable}
use Rattle.overlay_engine.specs.Start.{Start}
use Rattle.overlay_engine.specs.Covers.{Covered, Covers, Moves, added, ReportsStored}
use Rattle.overlay_engine.specs.Steps.{Submits, SubmitsBatch, Takes, Finishes, Reports}
use Rattle.overlay_engine.specs.Devices.{Calls, Devices}
use Rattle.overlay_engine.specs.Acts.{Survives, accepted_by}
use Rattle.overlay_engine.proofs.Covering.{events_cover}
use Rattle.overlay_engine.proofs.Recovering.{stays_covered}

module _ {D : Type 0} (g : Ghosts D) where
  called_version : (old : Engine D g) (reply : Reply) (new : Engine D g) → Calls g old reply new → new.version ≡ old.version
  called_version old Going new calls = ap (λ (e : Engine D g). e.version) calls.2
  called_version old (Done number) new calls = ap (λ (e : Engine D g). e.version) calls.2
  called_version old (Refused code) new calls = ap (λ (e : Engine D g). e.version) calls.4
  called_version old (Accepted number) new calls = absurd calls
  called_version old (Taken number) new calls = absurd calls
  called_version old NoJob new calls = absurd calls
  called_version old Kept new calls = absurd calls
  called_version old Stale new calls = absurd calls
  called_version old (RefusedAt place code) new calls = absurd calls
  called_version old (Durable number) new calls = absurd calls

  pub device_version : (old : Engine D g) (reply : Reply) (new : Engine D g) → Devices g old reply new → new.version ≡ old.version
  device_version old reply new (inl (busy, calls)) = called_version old reply new calls
  device_version old reply new (inr (inl (idle, mid, begins, calls))) =
      called_version mid reply new calls ∙ ap (λ (e : Engine D g). e.version) begins.rest
  device_version old reply new (inr (inr (idle, not_begun))) = ap (λ (e : Engine D g). e.version) not_begun.same

module _ {D : Type 0} (g : Ghosts D) (start : Start) (batches : List Batch) (old : Engine D g) (covers : Covers g start old.flusher old.version batches) where
  pub moved : (reply : Reply) (new : Engine D g) → Devices g old reply new → Moves g start old.flusher new.flusher old.version batches
      → Survives g start batches Device old reply new
  moved reply new devices moves = record {
    covers = subst (Covers g start new.flusher new.version) (sym (append-nil batches))
        (subst (λ (v : Version). Covers g start new.flusher v batches) (sym (device_version g old reply new devices)) moves.covers);
    moments = moves.moments;
  }

  module _ (now : (c : List ℕ) → g.left_since old.flusher.commit.disk (g.moment old.flusher.commit.disk) c → g.may_leave old.flusher.commit.disk c) where
    still : (new : Engine D g) → new.flusher ≡ old.flusher → LeavesOnly g old.flusher.commit.disk new.flusher.commit.disk (Covered start old.version.durable batches)
    still new same =
        subst (λ (f : Flusher D g). LeavesOnly g old.flusher.commit.disk f.commit.disk (Covered start old.version.durable batches)) (sym same)
        (stays_covered g start old.flusher old.version batches old.flusher.commit.disk refl now covers)

    by_event : (step : Step) (reply : Reply) (new : Engine D g) (event : Event) → accepted_by step reply ≡ added event → Follows old.version event new.version
        → ReportsStored old.flusher event → new.flusher ≡ old.flusher
        → Survives g start batches step old reply new
    by_event step reply new event adds follows reported same = record {
      covers = subst (λ (more : List Batch). Covers g start new.flusher new.version (batches ++ more)) (sym adds)
          (subst (λ (f : Flusher D g). Covers g start f new.version (batches ++ added event)) (sym same)
          (events_cover g start old.flusher old.version new.version event batches covers follows reported));
      moments = still new same;
    }

    by_nothing : (step : Step) (reply : Reply) (new : Engine D g) → accepted_by step reply ≡ [] → new.version ≡ old.version → new.flusher ≡ old.flusher → Survives g start batches step old reply new
    by_nothing step reply new adds version same = record {
      covers = subst (Covers g start new.flusher new.version) (sym (ap (λ (more : List Batch). batches ++ more) adds ∙ append-nil batches))
          (subst (λ (f : Flusher D g). Covers g start f new.version batches) (sym same)
          (subst (λ (v : Version). Covers g start old.flusher v batches) (sym version) covers));
      moments = still new same;
    }

    unchanged : (step : Step) (reply : Reply) (new : Engine D g) → accepted_by step reply ≡ [] → new ≡ old → Survives g start batches step old reply new
    unchanged step reply new adds same = by_nothing step reply new adds (ap (λ (e : Engine D g). e.version) same) (ap (λ (e : Engine D g). e.flusher) same)

    pub submitted : (change : code.Command) (reply : Reply) (new : Engine D g) → Submits (command change) old reply new → Survives g start batches (Submit change) old reply new
    submitted change (Accepted number) new submits =
        by_event (Submit change) (Accepted number) new (accepted 0 (command change ∷ [])) refl ((one_follows_alike old.version new.version (command change)).1 submits.0) tt (ap (λ (e : Engine D g). e.flusher) submits.2)
    submitted change (Refused code) new submits = unchanged (Submit change) (Refused code) new refl submits.1
    submitted change (Taken number) new submits = absurd submits
    submitted change NoJob new submits = absurd submits
    submitted change Kept new submits = absurd submits
    submitted change Stale new submits = absurd submits
    submitted change (RefusedAt place code) new submits = absurd submits
    submitted change Going new submits = absurd submits
    submitted change (Done number) new submits = absurd submits
    submitted change (Durable number) new submits = absurd submits

    pub submitted_all : (batch : Batch) (reply : Reply) (new : Engine D g) → SubmitsBatch batch old reply new → Survives g start batches (SubmitAll batch) old reply new
    submitted_all batch (Accepted number) new submits =
        by_event (SubmitAll batch) (Accepted number) new (accepted 0 batch) refl submits.0 tt (ap (λ (e : Engine D g). e.flusher) submits.2)
    submitted_all batch (Refused code) new submits = unchanged (SubmitAll batch) (Refused code) new refl submits.1
    submitted_all batch (RefusedAt place code) new submits = unchanged (SubmitAll batch) (RefusedAt place code) new refl submits.1
    submitted_all batch (Taken number) new submits = absurd submits
    submitted_all batch NoJob new submits = absurd submits
    submitted_all batch Kept new submits = absurd submits
    submitted_all batch Stale new submits = absurd submits
    submitted_all batch Going new submits = absurd submits
    submitted_all batch (Done number) new submits = absurd submits
    submitted_all batch (Durable number) new submits = absurd submits

    pub taken : (name : Name) (column : ℕ) (reply : Reply) (new : Engine D g) → Takes name column old reply new → Survives g start batches (Take name column) old reply new
    taken name column (Taken number) new takes = by_nothing (Take name column) (Taken number) new refl takes.2.version takes.2.flusher
    taken name column NoJob new takes = unchanged (Take name column) NoJob new refl takes.2
    taken name column (Refused code) new takes = by_nothing (Take name column) (Refused code) new refl takes.2.version takes.2.flusher
    taken name column (Accepted number) new takes = absurd takes
    taken name column Kept new takes = absurd takes
    taken name column Stale new takes = absurd takes
    taken name column (RefusedAt place code) new takes = absurd takes
    taken name column Going new takes = absurd takes
    taken name column (Done number) new takes = absurd takes
    taken name column (Durable number) new takes = absurd takes

    pub finished : (job : ℕ) (reply : Reply) (new : Engine D g) → Finishes job old reply new → Survives g start batches (Finish job) old reply new
    finished job Kept new (held, gives, (awaited, tile, follows)) = by_event (Finish job) Kept new (kept held.name held.input.column tile) refl follows tt gives.flusher
    finished job Stale new (held, gives, stale, same) = by_nothing (Finish job) Stale new refl same gives.flusher
    finished job NoJob new finishes = unchanged (Finish job) NoJob new refl finishes.1
    finished job (Refused code) new finishes = unchanged (Finish job) (Refused code) new refl finishes.2
    finished job (Accepted number) new finishes = absurd finishes
    finished job (RefusedAt place code) new finishes = absurd finishes
    finished job (Taken number) new finishes = absurd finishes
    finished job Going new finishes = absurd finishes
    finished job (Done number) new finishes = absurd finishes
    finished job (Durable number) new finishes = absurd finishes

    pub reported : (reply : Reply) (new : Engine D g) → Reports old reply new → Survives g start batches Report old reply new
    reported (Durable number) new (inl follows, durable, same) =
        by_event Report (Durable number) new (durable_to old.flusher.commit.root.version) refl follows (omega arith) (ap (λ (e : Engine D g). e.flusher) same)
    reported (Durable number) new (inr stays, durable, same) =
        by_nothing Report (Durable number) new refl stays.same (ap (λ (e : Engine D g). e.flusher) same)
    reported (Refused code) new reports = unchanged Report (Refused code) new refl reports.1
    reported (Accepted number) new reports = absurd reports
    reported (Taken number) new reports = absurd reports
    reported NoJob new reports = absurd reports
    reported Kept new reports = absurd reports
    reported Stale new reports = absurd reports
    reported (RefusedAt place code) new reports = absurd reports
    reported Going new reports = absurd reports
    reported (Done number) new reports = absurd reports
