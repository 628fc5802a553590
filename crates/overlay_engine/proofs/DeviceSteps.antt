-- The device step: a call of the commit under way, or the first one of a commit that begins.
use Rattle.std.proofs.Common.{◌≡◌, ℕ, false, List, Result, Ok, Err, refl, sym, ◌∙◌, subst}
use Rattle.std.proofs.lemmas.Bool.{false≢true}
use Rattle.disk_model.specs.declared.disk.Disk.{Ghosts}
use Rattle.disk_model.specs.Moments.{LeavesOnly}
use Rattle.overlay_terms.specs.Batches.{Batch}
use Rattle.overlay_terms.specs.Histories.{Version}
use Rattle.root_store.specs.declared.phase.Phase.{Phase}
use Rattle.root_store.specs.declared.phase.Phase.TheVariants.{Idle, Close, Settle, Put, Open, Finish, Failed}
use Rattle.root_store.specs.Running.{is_busy}
use Rattle.flush_core.specs.declared.flusher.Flusher.{Flusher}
use Rattle.overlay_engine.specs.Start.{Start}
use Rattle.overlay_engine.specs.Covers.{Covered, Covers, Moves}
use Rattle.overlay_engine.specs.Laws.{IsBegun}
use Rattle.overlay_engine.proofs.Recovering.{begun_covers, stays_covered}

Succeeds : {A B : Type 0} → Result A B → Type 0
Succeeds (Ok x) = Unit {0}
Succeeds (Err e) = ⊥

-- a result is not of both kinds
pub never_both : {A B : Type 0} (r : Result A B) (x : A) (e : B) → r ≡ Ok x → r ≡ Err e → ⊥
unfolding Succeeds
never_both r x e is not = subst Succeeds (sym is ∙ not) tt

-- where no commit is under way and no call has failed, the store rests
pub resting : (p : Phase) → is_busy p ≡ false → (p ≡ Failed → ⊥) → p ≡ Idle
resting Idle busy well = refl
resting Failed busy well = absurd (well refl)
resting Close busy well = absurd (false≢true (sym busy))
resting Settle busy well = absurd (false≢true (sym busy))
resting Put busy well = absurd (false≢true (sym busy))
resting Open busy well = absurd (false≢true (sym busy))
resting Finish busy well = absurd (false≢true (sym busy))

module _ {D : Type 0} (g : Ghosts D) (start : Start) where
  -- what the first call of a commit that begins does, the step does
  pub begun_moves : (f mid new : Flusher D g) (version : Version) (batches : List Batch) → f.commit.phase ≡ Idle → mid.commit.disk ≡ f.commit.disk
      → IsBegun g f mid version → (Covers g start mid version batches → Moves g start mid new version batches)
      → Covers g start f version batches → Moves g start f new version batches
  begun_moves f mid new version batches idle disk begun call covers =
      let moves = call (begun_covers g start f mid version batches idle covers begun) in
      record {
        covers = moves.covers;
        moments = subst (λ (d : D). LeavesOnly g d new.commit.disk (Covered start version.durable batches)) disk moves.moments;
      }

  -- a step that makes no call moves nothing
  pub stays : (f new : Flusher D g) (version : Version) (batches : List Batch) → new ≡ f
      → ((c : List ℕ) → g.left_since f.commit.disk (g.moment f.commit.disk) c → g.may_leave f.commit.disk c)
      → Covers g start f version batches → Moves g start f new version batches
  stays f new version batches is now covers =
      subst (λ (n : Flusher D g). Moves g start f n version batches) (sym is)
      (record { covers = covers; moments = stays_covered g start f version batches f.commit.disk refl now covers })
