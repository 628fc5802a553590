-- Through any number of runs nothing is lost that was reported durable.
use Rattle.std.proofs.Common.{◌≡◌, ◌⊎◌, inl, inr, ℕ, ◌+◌, ◌-◌, ◌≤◌, List, [], ◌∷◌, ◌++◌, length, take, refl, sym, ◌∙◌, ap, subst, append-nil, append_assoc, length-append, arith}
use Rattle.std.proofs.lemmas.List.{take-take, take-append-le}
use Rattle.std.proofs.lemmas.List.Sums.{fold-append}
use Rattle.std.proofs.Math.Seq.{take-append-add}
use Rattle.std.specs.List.{AllByRecursion, fold}
use Rattle.disk_model.specs.declared.disk.Disk.{Ghosts}
use Rattle.disk_model.specs.Moments.{Leaves}
use Rattle.overlay_terms.specs.Batches.{Batch, applied_all}
use Rattle.overlay_terms.specs.Histories.{Version, Event, accepted, kept, durable_to, Entry, History, Follows, AllFollow, IsHistory, BeginsWith, newest, last_version, accepted_in}
use Rattle.overlay_terms.specs.KeptLaws.{IsExact}
use Rattle.overlay_terms.specs.Layers.{Layer}
use Rattle.overlay_terms.proofs.HistoryFolds.{newest_has_commands}
use Rattle.flush_core.specs.declared.flusher.Flusher.{Flusher}
use Rattle.line_laws.proofs.Entries.{accepted_more, history_rest, newest_more}
use Rattle.overlay_engine.specs.Start.{Start, layers_from, up_to}
use Rattle.overlay_engine.specs.Covers.{Covered}
use Rattle.overlay_engine.specs.Lives.{TriesTo}
use Rattle.kept_store.specs.Storing.{IsStoreOf}
use Rattle.kept_store.proofs.Storage.{store_begins, store_more}
use Rattle.overlay_server.specs.Durability.{start_of_batches}
use Rattle.overlay_server.specs.Runs.{Moment, batches_at, durable_at, IsRunning, CallsTo, ClosesTo, CutTo, Runs, StandsAt, cut_call, CutStands, RunsLoseNothing}
use Rattle.overlay_server.proofs.Durable.{files_are_covered}

-- ---- durable numbers of a history

-- they rise from each version to the next
one_rises : (v : Version) (event : Event) (w : Version) → Follows v event w → v.durable ≤ w.durable
one_rises v (accepted session batch) w follows = omega (arith, follows.durable)
one_rises v (kept name column tile) w follows = omega (arith, follows.durable)
one_rises v (durable_to number) w follows = omega (arith, follows.risen, follows.durable)

all_rise : (v : Version) (es : List Entry) → AllFollow v es → v.durable ≤ (last_version v es).durable
all_rise v [] follow = omega arith
all_rise v (e ∷ es) follow = omega (arith, one_rises v e.event e.version follow.0, all_rise e.version es follow.1)

durable_rises : (was now : History) → BeginsWith now was → IsHistory now → (newest was).durable ≤ (newest now).durable
durable_rises was now on valid =
    subst (λ (v : Version). (newest was).durable ≤ v.durable) (sym (newest_more was now on.0 on.1)) (all_rise (newest was) on.0 (history_rest was now on.0 on.1 valid))

-- none is beyond its version's own
one_within : (v : Version) (event : Event) (w : Version) → Follows v event w → v.durable ≤ v.number → w.durable ≤ w.number
one_within v (accepted session batch) w follows within = omega (arith, follows.durable, follows.number, within)
one_within v (kept name column tile) w follows within = omega (arith, follows.durable, follows.number, within)
one_within v (durable_to number) w follows within = omega (arith, follows.durable, follows.not_beyond, follows.same_number)

all_within : (v : Version) (es : List Entry) → AllFollow v es → v.durable ≤ v.number → (last_version v es).durable ≤ (last_version v es).number
all_within v [] follow within = within
all_within v (e ∷ es) follow within = all_within e.version es follow.1 (one_within v e.event e.version follow.0 within)

-- ---- from a run's first version back to the start of all

rebased : (start : Start) (first : Version) (before batches : List Batch) (least : ℕ) (file : List ℕ) → first.number ≡ start.number + length before → first.layers ≡ layers_from start before
    → Covered (start_of_batches first) least batches file → Covered start least (before ++ batches) file
rebased start first before batches least file number layers covered =
    let x = covered.held in
    let n = x.number - first.number in
    let rest = take n batches in
    let count : length (before ++ batches) ≡ length before + length batches = length-append before batches in
    let steps : x.number - start.number ≡ length before + n = omega (arith, number, covered.stored.since) in
    let these : up_to start x.number (before ++ batches) ≡ before ++ rest = ap (λ (k : ℕ). take k (before ++ batches)) steps ∙ take-append-add before batches n in
    record {
      held = x;
      no_less = covered.no_less;
      stored = record {
        since = omega (arith, number, covered.stored.since);
        no_later = omega (arith, number, count, covered.stored.no_later);
        layers = covered.stored.layers ∙ ap (λ (ls : List Layer). fold applied_all ls rest) layers ∙ sym (fold-append applied_all start.layers before rest)
            ∙ ap (λ (bs : List Batch). layers_from start bs) (sym these);
        exact = covered.stored.exact;
      };
      stands = covered.stands;
    }

module _ {D : Type 0} (g : Ghosts D) (start : Start) where
  -- the batches up to what is durable are there
  durable_there : (m : Moment D g) → IsRunning g start m → durable_at m - start.number ≤ length (batches_at m)
  durable_there m running =
      let within = all_within m.history.start m.history.entries running.valid running.fresh in
      let made = (newest_has_commands m.history running.valid).number in
      let count : length (batches_at m) ≡ length m.before + length (accepted_in m.history.entries) = length-append m.before (accepted_in m.history.entries) in
      omega (arith, within, made, count, running.number)

  -- what was accepted in a history that goes on
  more_batches : (m : Moment D g) (history : History) (on : BeginsWith history m.history) → m.before ++ accepted_in history.entries ≡ batches_at m ++ accepted_in on.0
  more_batches m history on =
      ap (λ (h : History). m.before ++ accepted_in h.entries) on.1 ∙ ap (λ (bs : List Batch). m.before ++ bs) (accepted_more m.history.entries on.0)
      ∙ sym (append_assoc m.before (accepted_in m.history.entries) (accepted_in on.0))

  same_front : (m : Moment D g) (history : History) (on : BeginsWith history m.history) → IsRunning g start m
      → up_to start (durable_at m) (m.before ++ accepted_in history.entries) ≡ up_to start (durable_at m) (batches_at m)
  same_front m history on running =
      ap (λ (bs : List Batch). up_to start (durable_at m) bs) (more_batches m history on)
      ∙ take-append-le (durable_at m - start.number) (batches_at m) (accepted_in on.0) (durable_there m running)

  -- ---- within a run

  goes_on : (m : Moment D g) (history : History) (flusher : Flusher D g) → IsRunning g start m → BeginsWith history m.history → IsHistory history → IsStoreOf g history flusher
      → StandsAt g start m (record { before = m.before; history = history; flusher = flusher })
  goes_on m history flusher running on valid store =
      let first : history.start ≡ m.history.start = ap (λ (h : History). h.start) on.1 in
      record {
        running = record {
          valid = valid;
          exact = subst IsExact (sym first) running.exact;
          fresh = subst (λ (v : Version). v.durable ≤ v.number) (sym first) running.fresh;
          number = ap (λ (v : Version). v.number) first ∙ running.number;
          layers = ap (λ (v : Version). v.layers) first ∙ running.layers;
          store = store;
        };
        durable = durable_rises m.history history on valid;
        same = same_front m history on running;
      }

  moved : (old new : Moment D g) → new.before ≡ old.before → StandsAt g start old (record { before = old.before; history = new.history; flusher = new.flusher }) → StandsAt g start old new
  moved old new same stands = subst (λ (bs : List Batch). StandsAt g start old (record { before = bs; history = new.history; flusher = new.flusher })) (sym same) stands

  over_a_call : (old new : Moment D g) → CallsTo g start old new → IsRunning g start old → StandsAt g start old new
  over_a_call old new calls running =
      let kept = calls.keeps running.store in
      moved old new calls.before (goes_on old new.history new.flusher running kept.goes_on kept.valid kept.store)

  over_an_end : (old new : Moment D g) → ClosesTo g start old new → IsRunning g start old → StandsAt g start old new
  over_an_end old new closes running =
      moved old new closes.before
      (goes_on old new.history new.flusher running closes.goes_on closes.valid
      (subst (λ (f : Flusher D g). IsStoreOf g new.history f) (sym closes.same)
      (store_more g old.history new.history old.flusher closes.goes_on closes.reported running.store)))

  -- ---- over a crash

  -- what an opening that is stopped leaves is as old as what was there
  tried : (least : ℕ) (batches : List Batch) (disk : D) (more : List D) (last : D) → TriesTo g start disk more last
      → Leaves g disk (Covered start least batches) → Leaves g last (Covered start least batches)
  tried least batches disk [] last same all = subst (λ (d : D). Leaves g d (Covered start least batches)) (sym same) all
  tried least batches disk (next ∷ more) last (tries, later) all =
      tried least batches next more last later (λ c left. (tries.moments least batches all).each c (tries.leaves c left))

  -- all that was reported durable within the call that was cut is so after it
  over_a_crash : (old new : Moment D g) (cut : CutTo g start old new) → IsRunning g start old → StandsAt g start (cut_call g start old new cut) new
  over_a_crash old new cut running =
      let kept = cut.keeps running.store in
      let first : cut.history.start ≡ old.history.start = ap (λ (h : History). h.start) kept.goes_on.1 in
      let least = old.flusher.commit.root.version in
      let batches = accepted_in cut.history.entries in
      let all = old.before ++ batches in
      let exact : IsExact cut.history.start = subst IsExact (sym first) running.exact in
      let left : Leaves g cut.disk (Covered start least all) = (λ c leaves.
      rebased start cut.history.start old.before batches least c (ap (λ (v : Version). v.number) first ∙ running.number) (ap (λ (v : Version). v.layers) first ∙ running.layers)
      (files_are_covered cut.history least c kept.valid exact (kept.moments.each c (cut.leaves c leaves)))) in
      let is = cut.recovered least all (tried least all cut.disk cut.tried cut.last cut.tries left) in
      let e = cut.engine in
      let d = (newest cut.history).durable in
      let within : d ≤ e.version.number = omega (arith, kept.reported, is.no_less) in
      subst (StandsAt g start (cut_call g start old new cut)) (sym cut.next)
      (record {
        running = record {
          valid = tt;
          exact = is.covers.exact;
          fresh = omega (arith, is.durable);
          number = is.covers.number;
          layers = is.covers.layers;
          store = store_begins g e.version e.flusher cut.is_new.x cut.is_new.stands cut.is_new.image cut.is_new.stored cut.is_new.reported;
        };
        durable = omega (arith, within, is.durable);
        same =
            ap (λ (bs : List Batch). up_to start d bs) (append-nil (up_to start e.version.number all))
            ∙ take-take (d - start.number) (e.version.number - start.number) all (omega (arith, within));
      })

  -- ---- through any number of runs

  onward : (a b c : Moment D g) → StandsAt g start a b → StandsAt g start b c → StandsAt g start a c
  onward a b c first next =
      let d = durable_at a - start.number in
      let e = durable_at b - start.number in
      let within : d ≤ e = omega (arith, first.durable) in
      record {
        running = next.running;
        durable = omega (arith, first.durable, next.durable);
        same = sym (take-take d e (batches_at c) within) ∙ ap (λ (l : List Batch). take d l) next.same ∙ take-take d e (batches_at b) within ∙ first.same;
      }

  over_one : (old new : Moment D g) → CallsTo g start old new ⊎ (ClosesTo g start old new ⊎ CutTo g start old new) → IsRunning g start old → StandsAt g start old new
  over_one old new (inl calls) running = over_a_call old new calls running
  over_one old new (inr (inl closes)) running = over_an_end old new closes running
  over_one old new (inr (inr cut)) running =
      let kept = cut.keeps running.store in
      onward old (cut_call g start old new cut) new (goes_on old cut.history cut.end running kept.goes_on kept.valid kept.store) (over_a_crash old new cut running)

  -- what is so at a moment stays so
  stands_on : (first m : Moment D g) (later : List (Moment D g)) → StandsAt g start first m → Runs g start m later → AllByRecursion (StandsAt g start first) later
  stands_on first m [] stands runs = tt
  stands_on first m (next ∷ more) stands (one, runs) =
      let on = onward first m next stands (over_one m next one stands.running) in
      (on, stands_on first next more on runs)

  cut_stands : (m next : Moment D g) (more : List (Moment D g)) → IsRunning g start m → (one : CallsTo g start m next ⊎ (ClosesTo g start m next ⊎ CutTo g start m next)) → Runs g start next more
      → CutStands g start m next one (next ∷ more)
  cut_stands m next more running (inl calls) runs = tt
  cut_stands m next more running (inr (inl closes)) runs = tt
  cut_stands m next more running (inr (inr cut)) runs =
      let stands = over_a_crash m next cut running in
      (stands, stands_on (cut_call g start m next cut) next more stands runs)

  pub runs_lose_nothing : RunsLoseNothing g start
  runs_lose_nothing m [] running runs = tt
  runs_lose_nothing m (next ∷ more) running runs = (
    stands_on m m (next ∷ more) (record { running = running; durable = omega arith; same = refl }) runs,
    cut_stands m next more running runs.0 runs.1,
    runs_lose_nothing next more (over_one m next runs.0 running).running runs.1,
  )
