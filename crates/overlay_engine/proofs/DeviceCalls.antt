-- A device call of a commit that is under way.
use Rattle.std.proofs.Common.{◌≡◌, ℕ, true, List, Result, Ok, Err, refl, sym, ◌∙◌, subst, arith}
use Rattle.std.proofs.lemmas.Bool.{false≢true}
use Rattle.disk_model.specs.declared.disk.Disk.{Ghosts}
use Rattle.disk_model.specs.Moments.{Leaves}
use Rattle.disk_model.proofs.Runs.{widened}
use Rattle.overlay_terms.specs.Batches.{Batch}
use Rattle.overlay_terms.specs.Histories.{Version}
use Rattle.commit_plan.specs.declared.fault.StoreFault.{StoreFault}
use Rattle.root_store.specs.declared.phase.Phase.{Phase}
use Rattle.root_store.specs.declared.phase.Phase.TheVariants.{Idle, Close, Settle, Put, Open, Finish, Failed}
use Rattle.root_store.specs.declared.phase.Progress.{Progress}
use Rattle.root_store.specs.declared.phase.Progress.TheVariants as progress
use Rattle.commit_plan.specs.Kept.{Kept, Either}
use Rattle.root_store.specs.Running.{Before, RunsFrom, Stepped, is_busy}
use Rattle.commit_plan.proofs.Reading.{calm_stands}
use Rattle.flush_core.specs.declared.flusher.Flusher.{Flusher}
use Rattle.flush_core.specs.Stored.{stored_after}
use Rattle.overlay_engine.specs.Start.{Start}
use Rattle.overlay_engine.specs.Covers.{Covered, CoveredExactly, UnderWay, In, Covers, Moves}
use Rattle.overlay_engine.proofs.Covering.{covered_less, way_either, way_covered}

module _ {D : Type 0} (g : Ghosts D) (start : Start) where
  way_of : (p : Phase) (f : Flusher D g) (batches : List Batch) → is_busy p ≡ true → In g start p f batches → UnderWay g start f batches
  way_of Idle f batches busy store = absurd (false≢true busy)
  way_of Failed f batches busy store = absurd (false≢true busy)
  way_of Close f batches busy store = store
  way_of Settle f batches busy store = store
  way_of Put f batches busy store = store
  way_of Open f batches busy store = store
  way_of Finish f batches busy store = store

  way_in : (p : Phase) (f : Flusher D g) (batches : List Batch) → f.commit.phase ≡ p → UnderWay g start f batches → In g start p f batches
  way_in Idle f batches is way = absurd (subst (λ (q : Phase). Before g q f.commit way.x way.y) is way.runs.before)
  way_in Failed f batches is way = way_covered g start f batches way
  way_in Close f batches is way = way
  way_in Settle f batches is way = way
  way_in Put f batches is way = way
  way_in Open f batches is way = way
  way_in Finish f batches is way = way

  module _ (f new : Flusher D g) (version : Version) (batches : List Batch) (covers : Covers g start f version batches) (way : UnderWay g start f batches) where
    reported : (c : List ℕ) → Either way.x way.y c → Covered start version.durable batches c
    reported c either = covered_less start version.durable f.commit.root.version batches c covers.reported (way_either g start f batches way c either)

    moved : (result : Result Progress StoreFault) → new.commit.root.version ≡ stored_after result f.commit.root.version → (g.is_honest f.commit.disk → g.is_honest new.commit.disk)
        → Stepped g f.commit new.commit result way.x way.y → Moves g start f new version batches
    moved (Ok progress.Idle) stored honest stepped = absurd stepped.ok
    moved (Ok progress.Going) stored honest stepped = record {
      covers = record {
        honest = honest covers.honest;
        number = covers.number;
        layers = covers.layers;
        exact = covers.exact;
        reported = omega (arith, covers.reported, stored);
        stored = omega (arith, covers.stored, stored);
        store = way_in new.commit.phase new batches refl (record {
          x = way.x;
          y = way.y;
          number = way.number ∙ sym stored;
          stored = way.stored;
          next_number = way.next_number;
          storing = way.storing;
          later = omega (arith, way.later, stored);
          runs = stepped.ok;
        });
      };
      moments = widened g f.commit.disk new.commit.disk (Either way.x way.y) (Covered start version.durable batches) reported stepped.moments;
    }
    moved (Ok (progress.Done number)) stored honest stepped =
        let stands = stepped.ok.0 in
        let here : way.y.held.number ≡ new.commit.root.version = way.next_number ∙ sym stepped.ok.1 ∙ sym stored in
        record {
          covers = record {
            honest = honest covers.honest;
            number = covers.number;
            layers = covers.layers;
            exact = covers.exact;
            reported = omega (arith, covers.reported, way.later, here);
            stored = omega (arith, way.storing.no_later, here, covers.number);
            store = subst (λ (q : Phase). In g start q new batches) (sym stands.idle) (record { x = way.y; number = here; stored = way.storing; stands = stands });
          };
          moments = widened g f.commit.disk new.commit.disk (Either way.x way.y) (Covered start version.durable batches) reported stepped.moments;
        }
    moved (Err fault) stored honest stepped = record {
      covers = record {
        honest = honest covers.honest;
        number = covers.number;
        layers = covers.layers;
        exact = covers.exact;
        reported = omega (arith, covers.reported, stored);
        stored = omega (arith, covers.stored, stored);
        store = subst (λ (q : Phase). In g start q new batches) (sym stepped.err.1)
            (λ c left. subst (λ (n : ℕ). Covered start n batches c) (sym stored) (way_either g start f batches way c (stepped.err.0 c left)));
      };
      moments = widened g f.commit.disk new.commit.disk (Either way.x way.y) (Covered start version.durable batches) reported stepped.moments;
    }

  -- a call keeps the store covering, and a crash at any moment of it leaves what is no older than what was durable
  pub called : (f new : Flusher D g) (version : Version) (batches : List Batch) (result : Result Progress StoreFault) → is_busy f.commit.phase ≡ true → new.commit.root.version ≡ stored_after result f.commit.root.version
      → (g.is_honest f.commit.disk → g.is_honest new.commit.disk) → ((x y : Kept) → RunsFrom g f.commit x y → Stepped g f.commit new.commit result x y)
      → Covers g start f version batches → Moves g start f new version batches
  called f new version batches result busy stored honest steps covers =
      let way = way_of f.commit.phase f batches busy covers.store in
      moved f new version batches covers way result stored honest (steps way.x way.y way.runs)

  -- after the last call a crash leaves what the commit began with
  pub ended : (f new : Flusher D g) (version : Version) (batches : List Batch) (result : Result Progress StoreFault) (number : ℕ) → is_busy f.commit.phase ≡ true → result ≡ Ok (progress.Done number)
      → ((x y : Kept) → RunsFrom g f.commit x y → Stepped g f.commit new.commit result x y) → Covers g start f version batches
      → Leaves g new.commit.disk (CoveredExactly start number batches)
  ended f new version batches result number busy is steps covers c left =
      let way = way_of f.commit.phase f batches busy covers.store in
      let stepped : Stepped g f.commit new.commit (Ok (progress.Done number)) way.x way.y =
      subst (λ (r : Result Progress StoreFault). Stepped g f.commit new.commit r way.x way.y) is (steps way.x way.y way.runs) in
      record { held = way.y.held; exactly = way.next_number ∙ sym stepped.ok.1; stored = way.storing; stands = calm_stands way.y c (stepped.ok.0.leaves c left) }
