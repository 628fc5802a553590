-- How a store goes on covering versions.
use Rattle.std.proofs.Common.{◌≡◌, inl, inr, ℕ, ◌-◌, ◌≤◌, List, [], ◌∷◌, ◌++◌, refl, sym, ◌∙◌, ap, subst, arith, length-append, fold}
use Rattle.std.proofs.lemmas.List.{take-append-le, append-nil}
use Rattle.disk_model.specs.declared.disk.Disk.{Ghosts}
use Rattle.disk_model.specs.Moments.{Leaves}
use Rattle.overlay_terms.specs.Layers.{Layer}
use Rattle.overlay_terms.specs.Batches.{Batch, applied_all}
use Rattle.overlay_terms.specs.Histories.{Version, Event, accepted, kept, durable_to, Follows}
use Rattle.overlay_terms.specs.KeptLaws.{IsExact}
use Rattle.overlay_terms.proofs.KeptHistories.{exactness_stays, layers_stay_orderly}
use Rattle.store_terms.specs.Image.{Held}
use Rattle.root_store.specs.declared.phase.Phase.{Phase}
use Rattle.root_store.specs.declared.phase.Phase.TheVariants.{Idle, Close, Settle, Put, Open, Finish, Failed}
use Rattle.root_store.specs.declared.commit.Commit.{Commit}
use Rattle.commit_plan.specs.Kept.{Kept, Either}
use Rattle.root_store.specs.Running.{Before}
use Rattle.commit_plan.proofs.Reading.{calm_stands}
use Rattle.root_store.proofs.Steps.{rest_either, shut_either, both_either}
use Rattle.flush_core.specs.declared.flusher.Flusher.{Flusher}
use Rattle.overlay_engine.specs.Start.{Start, layers_from}
use Rattle.overlay_engine.specs.Covers.{IsStored, Covered, AtRest, UnderWay, In, Covers, added, ReportsStored}
use Rattle.overlay_engine.specs.Laws.{EventsCover, CoveredRests, CoveredStays}

-- ---- more batches, and a smaller least

module _ (start : Start) where
  pub stored_more : (batches more : List Batch) (x : Held) → IsStored start batches x → IsStored start (batches ++ more) x
  stored_more batches more x is = record {
    since = is.since;
    no_later = omega (arith, is.no_later, length-append batches more);
    layers = is.layers ∙ ap (layers_from start) (sym (take-append-le (x.number - start.number) batches more (omega (arith, is.no_later))));
    exact = is.exact;
  }

  pub covered_more : (least : ℕ) (batches more : List Batch) (file : List ℕ) → Covered start least batches file → Covered start least (batches ++ more) file
  covered_more least batches more file c = record { held = c.held; no_less = c.no_less; stored = stored_more batches more c.held c.stored; stands = c.stands }

  pub covered_less : (low least : ℕ) (batches : List Batch) (file : List ℕ) → low ≤ least → Covered start least batches file → Covered start low batches file
  covered_less low least batches file le c = record { held = c.held; no_less = omega (arith, le, c.no_less); stored = c.stored; stands = c.stands }

  -- either end of a commit is covered
  pub either_covered : (least : ℕ) (batches : List Batch) (x y : Kept) (file : List ℕ) → least ≤ x.held.number → least ≤ y.held.number
      → IsStored start batches x.held → IsStored start batches y.held → Either x y file → Covered start least batches file
  either_covered least batches x y file le_x le_y is_x is_y (inl old) = record { held = x.held; no_less = le_x; stored = is_x; stands = old }
  either_covered least batches x y file le_x le_y is_x is_y (inr new) = record { held = y.held; no_less = le_y; stored = is_y; stands = new }

layers_push : (batches : List Batch) (batch : Batch) (layers : List Layer) → fold applied_all layers (batches ++ batch ∷ []) ≡ applied_all (fold applied_all layers batches) batch
layers_push [] batch layers = refl
layers_push (first ∷ batches) batch layers = layers_push batches batch (applied_all layers first)

pub exact_after : (old new : Version) (event : Event) → Follows old event new → IsExact old → IsExact new
exact_after old new event follows exact =
    let stays = exactness_stays old new event follows exact.orderly exact.fit exact.exact in
    record { orderly = (layers_stay_orderly old new event follows).0 exact.orderly; fit = stays.0; exact = stays.1 }

module _ {D : Type 0} (g : Ghosts D) where
  -- while a commit is under way a crash leaves the one end of it or the other
  pub before_leaves : (p : Phase) (s : Commit D g) (x y : Kept) → Before g p s x y → Leaves g s.disk (Either x y)
  before_leaves Idle s x y before = absurd before
  before_leaves Close s x y before = rest_either g x y s.disk before.0
  before_leaves Settle s x y before = rest_either g x y s.disk before.0
  before_leaves Put s x y before = shut_either g x y s.disk before.0
  before_leaves Open s x y before = both_either g x y s.disk before
  before_leaves Finish s x y before = both_either g x y s.disk before.0
  before_leaves Failed s x y before = before

module _ {D : Type 0} (g : Ghosts D) (start : Start) where
  -- ---- what a crash leaves

  pub way_either : (f : Flusher D g) (batches : List Batch) (way : UnderWay g start f batches) (c : List ℕ) → Either way.x way.y c → Covered start f.commit.root.version batches c
  way_either f batches way c either = either_covered start f.commit.root.version batches way.x way.y c (omega (arith, way.number)) way.later way.stored way.storing either

  pub way_covered : (f : Flusher D g) (batches : List Batch) → UnderWay g start f batches → Leaves g f.commit.disk (Covered start f.commit.root.version batches)
  way_covered f batches way c left = way_either f batches way c (before_leaves g f.commit.phase f.commit way.x way.y way.runs.before c left)

  -- whatever the phase, each outcome is covered
  in_covered : (p : Phase) (f : Flusher D g) (batches : List Batch) → In g start p f batches → Leaves g f.commit.disk (Covered start f.commit.root.version batches)
  in_covered Idle f batches rest c left = record { held = rest.x.held; no_less = omega (arith, rest.number); stored = rest.stored; stands = calm_stands rest.x c (rest.stands.leaves c left) }
  in_covered Failed f batches store c left = store c left
  in_covered Close f batches way c left = way_covered f batches way c left
  in_covered Settle f batches way c left = way_covered f batches way c left
  in_covered Put f batches way c left = way_covered f batches way c left
  in_covered Open f batches way c left = way_covered f batches way c left
  in_covered Finish f batches way c left = way_covered f batches way c left

  pub stored_leaves : (f : Flusher D g) (version : Version) (batches : List Batch) → Covers g start f version batches → Leaves g f.commit.disk (Covered start f.commit.root.version batches)
  stored_leaves f version batches covers = in_covered f.commit.phase f batches covers.store

  pub reported_leaves : (f : Flusher D g) (version : Version) (batches : List Batch) → Covers g start f version batches → Leaves g f.commit.disk (Covered start version.durable batches)
  reported_leaves f version batches covers c left = covered_less start version.durable f.commit.root.version batches c covers.reported (stored_leaves f version batches covers c left)

  -- ---- events

  way_more : (f : Flusher D g) (batches more : List Batch) → UnderWay g start f batches → UnderWay g start f (batches ++ more)
  way_more f batches more way = record {
    x = way.x;
    y = way.y;
    number = way.number;
    stored = stored_more start batches more way.x.held way.stored;
    next_number = way.next_number;
    storing = stored_more start batches more way.y.held way.storing;
    later = way.later;
    runs = way.runs;
  }

  in_more : (p : Phase) (f : Flusher D g) (batches more : List Batch) → In g start p f batches → In g start p f (batches ++ more)
  in_more Idle f batches more rest = record { x = rest.x; number = rest.number; stored = stored_more start batches more rest.x.held rest.stored; stands = rest.stands }
  in_more Failed f batches more store = λ c left. covered_more start f.commit.root.version batches more c (store c left)
  in_more Close f batches more way = way_more f batches more way
  in_more Settle f batches more way = way_more f batches more way
  in_more Put f batches more way = way_more f batches more way
  in_more Open f batches more way = way_more f batches more way
  in_more Finish f batches more way = way_more f batches more way

  event_covers : (f : Flusher D g) (old new : Version) (event : Event) (batches : List Batch) → Covers g start f old batches → Follows old event new → ReportsStored f event
      → Covers g start f new (batches ++ added event)
  event_covers f old new (accepted session batch) batches covers follows reported = record {
    honest = covers.honest;
    number = follows.number ∙ omega (arith, covers.number, length-append batches (batch ∷ []));
    layers = follows.layers ∙ ap (λ (l : List Layer). applied_all l batch) covers.layers ∙ sym (layers_push batches batch start.layers);
    exact = exact_after old new (accepted session batch) follows covers.exact;
    reported = omega (arith, covers.reported, follows.durable);
    stored = omega (arith, covers.stored, follows.number);
    store = in_more f.commit.phase f batches (batch ∷ []) covers.store;
  }
  event_covers f old new (kept name column tile) batches covers follows reported =
      subst (Covers g start f new) (sym (append-nil batches)) (record {
        honest = covers.honest;
        number = follows.number ∙ covers.number;
        layers = follows.layers ∙ covers.layers;
        exact = exact_after old new (kept name column tile) follows covers.exact;
        reported = omega (arith, covers.reported, follows.durable);
        stored = omega (arith, covers.stored, follows.number);
        store = covers.store;
      })
  event_covers f old new (durable_to number) batches covers follows reported =
      subst (Covers g start f new) (sym (append-nil batches)) (record {
        honest = covers.honest;
        number = follows.same_number ∙ covers.number;
        layers = follows.layers ∙ covers.layers;
        exact = exact_after old new (durable_to number) follows covers.exact;
        reported = omega (arith, reported, follows.durable);
        stored = omega (arith, covers.stored, follows.same_number);
        store = covers.store;
      })

pub events_cover : {D : Type 0} (g : Ghosts D) → EventsCover g
events_cover g start f old new event batches covers follows reported = event_covers g start f old new event batches covers follows reported

pub covers_leaves : {D : Type 0} (g : Ghosts D) → CoveredStays g
covers_leaves g start f version batches covers = stored_leaves g start f version batches covers

pub covered_rests : {D : Type 0} (g : Ghosts D) → CoveredRests g
covered_rests g start f version batches covers idle =
    let rest : AtRest g start f batches = subst (λ (q : Phase). In g start q f batches) idle covers.store in
    (rest.x, rest.stands)
