-- What the calls that make and recover an engine promise, from what their stores promise.
use Rattle.std.proofs.Common.{◌≡◌, ℕ, List, [], ◌++◌, Ok, Err, refl, sym, ◌∙◌, ap, subst}
use Rattle.disk_model.specs.declared.disk.Disk.{Ghosts}
use Rattle.disk_model.specs.Moments.{Leaves}
use Rattle.overlay_terms.specs.Batches.{Batch}
use Rattle.overlay_terms.specs.Histories.{Version, empty_version}
use Rattle.store_terms.specs.declared.root.Root.{Root}
use Rattle.commit_plan.specs.declared.image.Image.{Image}
use Rattle.commit_plan.specs.ImageHeld.{image_held}
use Rattle.root_store.specs.declared.open_fault.OpenFault.{OpenFault}
use Rattle.root_store.specs.declared.commit.Commit.{Commit}
use Rattle.root_store.specs.Creating.{nothing_kept, first_root, IsNewFile, MadeInPhases}
use Rattle.root_store.specs.Opening.{IsCompleted, Completes}
use Rattle.root_store.specs.HonestStore.{CreatesHonestly, OpensHonestly}
use Rattle.flush_core.specs.declared.flusher.Flusher.{Flusher}
use Rattle.overlay_engine.specs.declared.engine.Engine.{Engine}
use Rattle.overlay_engine.specs.Start.{Start}
use Rattle.overlay_engine.specs.Covers.{version_of, Covered}
use Rattle.overlay_engine.specs.OldFile.{start_at}
use Rattle.overlay_engine.specs.Recovery.{Recovered, Refused}
use Rattle.overlay_engine.specs.Runs.{accepted_in_run}
use Rattle.overlay_engine.specs.HonestEngine.{MakesHonestly, RecoversHonestly}
use Rattle.overlay_engine.proofs.Running.{crash_covered}
use Rattle.overlay_engine.proofs.Opened.{new_covers, recovered_with, rests_as, refused_as, writes_of}
use Rattle.overlay_engine.proofs.OldFiles.{old_file_is_covered, old_recovered}

-- a new engine over a new store
pub makes : {D : Type 0} (g : Ghosts D) (max_blocks : ℕ) (disk : D) (s : Commit D g) (e : Engine D g)
    → CreatesHonestly g max_blocks disk (Ok s) → s.root ≡ first_root → e.flusher ≡ record { commit = s }
    → e.version ≡ empty_version → MakesHonestly g max_blocks disk (Ok e)
makes g max_blocks disk s e creates root flusher empty = record {
  covers = new_covers g e.version e.flusher s flusher empty creates.ok;
  rests =
      rests_as g e.version e.flusher s nothing_kept nothing_kept.held flusher
      (ap (λ (r : Root). r.version) root ∙ sym (ap (λ (v : Version). v.number) empty)) empty refl creates.ok;
  file = subst (λ (f : Flusher _ _). Leaves g f.commit.disk IsNewFile) (sym flusher) creates.file;
  phases = subst (λ (f : Flusher _ _). MadeInPhases g disk f.commit.disk) (sym flusher) creates.phases;
  answer = creates.answer;
  unchanged = λ refused. tt;
  cause = tt;
  calls = ap (λ (f : Flusher _ _). g.calls f.commit.disk) flusher ∙ creates.calls;
}

-- the store of a file is opened, and its version is restored
module _ {D : Type 0} (g : Ghosts D) (disk : D) (stays : g.may_leave disk (g.seen disk)) (s : Commit D g)
    (image : Image) (opens : OpensHonestly g disk (Ok (s, image))) (e : Engine D g)
    (flusher : e.flusher ≡ record { commit = s }) (number : s.root.version ≡ e.version.number)
    (version : e.version ≡ version_of (image_held image)) where
  recovered : (start : Start) (least : ℕ) (batches : List Batch) → Leaves g disk (Covered start least batches)
      → Recovered g start disk e least batches
  recovered start least batches all =
      recovered_with g start disk least batches all stays e s opens.ok.0 (image_held image) flusher number version
      opens.gives opens.ok.1 opens.ok.2 opens.ok.3 opens.phases

  pub recovers : RecoversHonestly g disk (Ok e)
  recovers = record {
    ok = recovered;
    err = tt;
    crashed = λ start batches run each crash.
        recovered start crash.made.old.version.durable (batches ++ accepted_in_run crash.before)
        (crash_covered g start batches run disk crash each);
    old = λ number layers all.
        old_recovered g number layers disk e (image_held image) all stays opens.gives version
        (recovered (start_at number layers) number [] (λ file left. old_file_is_covered number layers file (all file left)));
    gives = (image_held image, opens.gives, version);
    rests =
        rests_as g e.version e.flusher s opens.ok.0 (image_held image) flusher number version opens.ok.1 opens.ok.2;
    cause = ap (λ (f : Flusher _ _). g.faults f.commit.disk) flusher ∙ opens.cause;
    writes = writes_of g (g.seen disk) e.flusher s flusher opens.writes;
    completed =
        subst (λ (f : Flusher _ _). Leaves g f.commit.disk (IsCompleted (g.seen disk))) (sym flusher) opens.completed;
    completes = subst (λ (f : Flusher _ _). Completes g disk f.commit.disk) (sym flusher) opens.completes;
    untouched = tt;
    memory = tt;
  }

-- the store is not opened
module _ {D : Type 0} (g : Ghosts D) (disk : D) (stays : g.may_leave disk (g.seen disk)) (refused : OpenFault D)
    (opens : OpensHonestly g disk (Err refused)) where
  failed : (start : Start) (least : ℕ) (batches : List Batch) → Leaves g disk (Covered start least batches)
      → Refused g start disk refused least batches
  failed start least batches all =
      refused_as g start disk least batches all stays refused opens.gives opens.err.0 opens.err.1 opens.err.2 opens.stops

  pub refuses : RecoversHonestly g disk (Err refused)
  refuses = record {
    ok = tt;
    err = failed;
    crashed = λ start batches run each crash.
        failed start crash.made.old.version.durable (batches ++ accepted_in_run crash.before)
        (crash_covered g start batches run disk crash each);
    old = λ number layers all.
        failed (start_at number layers) number [] (λ file left. old_file_is_covered number layers file (all file left));
    gives = opens.gives;
    rests = tt;
    cause = opens.cause;
    writes = opens.writes;
    completed = tt;
    completes = tt;
    untouched = λ damage is. opens.untouched (λ device. absurd (cc (is, device)));
    memory = opens.memory;
  }
