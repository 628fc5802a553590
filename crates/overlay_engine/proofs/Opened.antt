-- What recovery makes of what opening gives.
use Rattle.std.proofs.Common.{rules, ◌≡◌, ◌⊎◌, inl, inr, ℕ, ◌≤◌, List, [], arith, Result, Ok, refl, sym, ◌∙◌, ap, subst}
use Rattle.disk_model.specs.declared.disk.Disk.{Ghosts}
use Rattle.disk_model.specs.Moments.{Leaves, LeavesOnly}
use Rattle.disk_model.proofs.Runs.{widened}
use Rattle.overlay_terms.specs.Layers.{Layer, answer_at}
use Rattle.overlay_terms.specs.Batches.{Batch}
use Rattle.overlay_terms.specs.Histories.{Version, empty_version}
use Rattle.overlay_terms.specs.KeptLaws.{IsExact}
use Rattle.store_terms.specs.declared.damage.Damage.{Damage}
use Rattle.store_terms.specs.declared.root.Root.{Root}
use Rattle.store_terms.specs.Image.{Held}
use Rattle.store_terms.specs.StandsFor.{reading}
use Rattle.commit_plan.specs.declared.fault.StoreFault.{StoreFault}
use Rattle.commit_plan.specs.declared.fault.StoreFault.TheVariants.{Device, Full, Damaged, NotEmpty, Failed, SequenceLimit, OutOfMemory}
use Rattle.root_store.specs.declared.open_fault.OpenFault.{OpenFault}
use Rattle.root_store.specs.declared.commit.Commit.{Commit}
use Rattle.commit_plan.specs.Kept.{Kept}
use Rattle.root_store.specs.declared.phase.Phase.{Phase}
use Rattle.root_store.specs.Creating.{nothing_kept}
use Rattle.root_store.specs.Running.{StoreStandsFor}
use Rattle.root_store.specs.Opening.{Opened, InPhases, Stops, OpeningWrites, Tells}
use Rattle.flush_core.specs.declared.flusher.Flusher.{Flusher}
use Rattle.flush_core.specs.Stored.{IsImageOf}
use Rattle.overlay_engine.specs.declared.engine.Engine.{Engine}
use Rattle.overlay_engine.specs.Start.{Start, up_to, from_nothing}
use Rattle.overlay_engine.specs.Covers.{version_of, IsStored, AtRest, Covered, Covers, In}
use Rattle.overlay_engine.specs.NewEngine.{IsNewStore}
use Rattle.overlay_engine.specs.Recovery.{Recovered, Refused, RecoveredAnswers}
use Rattle.overlay_engine.proofs.Recovering.{opened_recovers, opening_is_covered}

only_failing : (fault : StoreFault) (read : Result Held Damage) (x : Held) → read ≡ Ok x → Tells fault read → (fault ≡ Device) ⊎ (fault ≡ OutOfMemory)
only_failing Device read x is tells = inl refl
only_failing Full read x is tells = absurd tells
only_failing (Damaged damage) read x is tells = absurd (cc (is, tells))
only_failing NotEmpty read x is tells = absurd tells
only_failing Failed read x is tells = absurd tells
only_failing SequenceLimit read x is tells = absurd tells
only_failing OutOfMemory read x is tells = inr refl

module _ {D : Type 0} (g : Ghosts D) (start : Start) (disk : D) (least : ℕ) (batches : List Batch) (all : Leaves g disk (Covered start least batches)) (stays : g.may_leave disk (g.seen disk)) where
  covered : (c : List ℕ) → Opened g disk c → Covered start least batches c
  covered c opened = opening_is_covered g start disk least batches all stays c opened

  recovered : (e : Engine D g) (k : Kept) (x : Held) → reading (g.seen disk) ≡ Ok x → k.held ≡ x → StoreStandsFor g e.flusher.commit k → e.flusher.commit.root.version ≡ x.number → e.version ≡ version_of x
      → LeavesOnly g disk e.flusher.commit.disk (Opened g disk) → InPhases g disk e.flusher.commit.disk → Recovered g start disk e least batches
  recovered e k x reads same stands stored version moments phases =
      let is : e.version ≡ version_of k.held = version ∙ ap version_of (sym same) in
      let found = opened_recovers g start disk e.flusher k least batches all
      (record { stays = stays; reads = reads ∙ ap Ok (sym same); stands = stands; stored = stored ∙ ap (λ (h : Held). h.number) (sym same) }) in
      record {
        no_less = subst (λ (v : Version). least ≤ v.number) (sym is) found.no_less;
        no_more = omega (arith, ap (λ (v : Version). v.number) is, found.no_more);
        durable = subst (λ (v : Version). v.durable ≡ v.number) (sym is) refl;
        covers = subst (λ (v : Version). Covers g start e.flusher v (up_to start v.number batches)) (sym is) found.covers;
        moments = widened g disk e.flusher.commit.disk (Opened g disk) (Covered start least batches) covered moments;
        phases = phases;
      }

  pub recovered_with : (e : Engine D g) (s : Commit D g) (k : Kept) (x : Held) → e.flusher ≡ record { commit = s } → s.root.version ≡ e.version.number → e.version ≡ version_of x
      → reading (g.seen disk) ≡ Ok x → k.held ≡ x → StoreStandsFor g s k → LeavesOnly g disk s.disk (Opened g disk) → InPhases g disk s.disk → Recovered g start disk e least batches
  recovered_with e s k x flusher number version reads same stands moments phases =
      recovered e k x reads same (subst (λ (f : Flusher D g). StoreStandsFor g f.commit k) (sym flusher) stands)
      (ap (λ (f : Flusher D g). f.commit.root.version) flusher ∙ number ∙ ap (λ (v : Version). v.number) version) version
      (subst (λ (f : Flusher D g). LeavesOnly g disk f.commit.disk (Opened g disk)) (sym flusher) moments)
      (subst (λ (f : Flusher D g). InPhases g disk f.commit.disk) (sym flusher) phases)

  pub refused_as : (refused : OpenFault D) → Tells refused.fault (reading (g.seen disk)) → g.is_honest refused.disk → Leaves g refused.disk (Opened g disk)
      → LeavesOnly g disk refused.disk (Opened g disk) → Stops g disk (refused.fault ≡ Device) refused.disk → Refused g start disk refused least batches
  refused_as refused tells honest leaves moments stops = record {
    honest = honest;
    leaves = λ c left. covered c (leaves c left);
    moments = widened g disk refused.disk (Opened g disk) (Covered start least batches) covered moments;
    stops = stops;
    cause = let here = all (g.seen disk) stays in only_failing refused.fault (reading (g.seen disk)) here.held here.stands tells;
  }

-- a store that stands for what a version is made of stands for just that version
pub rests_as : {D : Type 0} (g : Ghosts D) (version : Version) (f : Flusher D g) (s : Commit D g) (k : Kept) (x : Held) → f ≡ record { commit = s } → s.root.version ≡ version.number
    → version ≡ version_of x → k.held ≡ x → StoreStandsFor g s k → IsNewStore g version f
rests_as g version f s k x flusher number is same stands =
    let image : IsImageOf (version_of x) x = record { number = refl; layers = refl; tiles = λ name column. refl } in
    let stored : f.commit.root.version ≡ version.number = ap (λ (h : Flusher _ _). h.commit.root.version) flusher ∙ number in
    record {
      x = k;
      stands = subst (λ (h : Flusher _ _). StoreStandsFor g h.commit k) (sym flusher) stands;
      image = subst (λ (h : Held). IsImageOf version h) (sym same) (subst (λ (v : Version). IsImageOf v x) (sym is) image);
      stored = stored;
      reported = omega (arith, stored, ap (λ (v : Version). v.durable) is, ap (λ (v : Version). v.number) is);
    }

-- a store that holds nothing covers no command
pub new_covers : {D : Type 0} (g : Ghosts D) (version : Version) (f : Flusher D g) (s : Commit D g) → f ≡ record { commit = s } → version ≡ empty_version → StoreStandsFor g s nothing_kept
    → Covers g from_nothing f version []
new_covers g version f s flusher empty stands =
    let exact : IsExact empty_version = search rules in
    let stored : IsStored from_nothing [] nothing_kept.held = record { since = omega arith; no_later = omega arith; layers = refl; exact = exact } in
    let number : s.root.version ≡ 0 = ap (λ (r : Root). r.version) stands.root in
    let rests : AtRest g from_nothing (record { commit = s }) [] = record { x = nothing_kept; number = sym number; stored = stored; stands = stands } in
    let covers : Covers g from_nothing (record { commit = s }) empty_version [] =
    record {
      honest = stands.honest;
      number = refl;
      layers = refl;
      exact = exact;
      reported = omega arith;
      stored = omega (arith, number);
      store = subst (λ (q : Phase). In g from_nothing q (record { commit = s }) []) (sym stands.idle) rests;
    } in
    subst (λ (h : Flusher _ _). Covers g from_nothing h version []) (sym flusher)
    (subst (λ (v : Version). Covers g from_nothing (record { commit = s }) v []) (sym empty) covers)

-- the disk of a store that was opened, as an engine or a refusal hands it on
pub writes_of : {D : Type 0} (g : Ghosts D) (old : List ℕ) (f : Flusher D g) (s : Commit D g) → f ≡ record { commit = s } → OpeningWrites old (g.seen s.disk) → OpeningWrites old (g.seen f.commit.disk)
writes_of g old f s is writes = subst (λ (h : Flusher _ _). OpeningWrites old (g.seen h.commit.disk)) (sym is) writes

pub recovered_answers : {D : Type 0} (g : Ghosts D) → RecoveredAnswers g
recovered_answers g start disk e least batches recovered name query reported tells =
    tells ∙ ap (λ (layers : List Layer). answer_at layers name query) recovered.covers.layers
