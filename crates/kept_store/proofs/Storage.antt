-- What the calls of the flusher's loop make of a store of a history.
use Rattle.std.proofs.Common.{◌≡◌, ◌⊎◌, inl, inr, ℕ, ◌≤◌, false, List, [], Result, Ok, Err, IfOk, ⊎_elim, refl, sym, ap, ◌∙◌, subst, arith}
use Rattle.std.proofs.lemmas.Bool.{false≢true}
use Rattle.std.specs.Prelude.{OnOk, OnErr}
use Rattle.disk_model.specs.declared.disk.Disk.{Ghosts}
use Rattle.disk_model.specs.Disk as device
use Rattle.disk_model.specs.Moments.{Leaves, LeavesOnly}
use Rattle.disk_model.proofs.Runs.{started, joined, widened}
use Rattle.overlay_terms.specs.Histories.{Version, History, IsHistory, BeginsWith, newest}
use Rattle.commit_plan.specs.declared.fault.StoreFault.{StoreFault}
use Rattle.commit_plan.specs.declared.fault.StoreFault.TheVariants as fault
use Rattle.commit_plan.specs.Kept.{Kept, Either}
use Rattle.commit_plan.proofs.Reading.{calm_stands}
use Rattle.root_store.specs.declared.phase.Phase.{Phase}
use Rattle.root_store.specs.declared.phase.Phase.TheVariants.{Idle, Close, Settle, Put, Open, Finish, Failed}
use Rattle.root_store.specs.declared.phase.Progress.{Progress}
use Rattle.root_store.specs.declared.phase.Progress.TheVariants as progress
use Rattle.root_store.specs.declared.commit.Commit.{Commit}
use Rattle.root_store.specs.Running.{Before, Outcome, StoreStandsFor, RunsFrom, Stepped, FailsByDevice, calls_in, is_busy}
use Rattle.root_store.proofs.Steps.{rest_either, shut_either, both_either}
use Rattle.flush_core.specs.declared.flusher.Flusher.{Flusher}
use Rattle.flush_core.specs.Stored.{stored_after, IsCommitOf, IsImageOf}
use Rattle.kept_store.specs.Among.{IsFileIn}
use Rattle.kept_store.specs.Storing.{Goes, IsStoreAt, IsStoreOf, AllReported, Flushes, KeepsLimit, KeepsReported}
use Rattle.kept_store.proofs.Histories.{begins_self, begins_trans, numbers_rise, among_more, file_more, newest_among}

abbrev IsDone : Result Progress StoreFault → Type 0
IsDone (Ok progress.Idle) = ⊥
IsDone (Ok progress.Going) = ⊥
IsDone (Ok (progress.Done number)) = Unit {0}
IsDone (Err why) = ⊥

-- where no call is left, no commit is under way
pub none_left : (p : Phase) (n i : ℕ) → calls_in p n i ≡ 0 → is_busy p ≡ false
none_left Idle n i none = refl
none_left Close n i none = absurd (omega (arith, none))
none_left Settle n i none = absurd (omega (arith, none))
none_left Put n i none = absurd (omega (arith, none))
none_left Open n i none = absurd (omega (arith, none))
none_left Finish n i none = absurd (omega (arith, none))
none_left Failed n i none = refl

module _ {D : Type 0} (g : Ghosts D) where
  -- since this moment there is no other
  abbrev pub OnlyNow : Flusher D g → Type 0
  OnlyNow s = (c : List ℕ) → g.left_since s.commit.disk (g.moment s.commit.disk) c → g.may_leave s.commit.disk c

  -- ---- what a crash leaves

  before_leaves : (p : Phase) (s : Commit D g) (x y : Kept) → Before g p s x y → Leaves g s.disk (Either x y)
  before_leaves Idle s x y before = absurd before
  before_leaves Close s x y before = rest_either g x y s.disk before.0
  before_leaves Settle s x y before = rest_either g x y s.disk before.0
  before_leaves Put s x y before = shut_either g x y s.disk before.0
  before_leaves Open s x y before = both_either g x y s.disk before
  before_leaves Finish s x y before = both_either g x y s.disk before.0
  before_leaves Failed s x y before = before

  either_among : (h : History) (s : Flusher D g) (way : Goes g h s) (c : List ℕ) → Either way.x way.y c → IsFileIn h s.commit.root.version c
  either_among h s way c (inl old) = record { held = way.x.held; among = way.held; no_less = omega (arith, way.number); stands = old }
  either_among h s way c (inr new) = record { held = way.y.held; among = way.next; no_less = way.later; stands = new }

  way_leaves : (h : History) (s : Flusher D g) → Goes g h s → Leaves g s.commit.disk (IsFileIn h s.commit.root.version)
  way_leaves h s way c left = either_among h s way c (before_leaves s.commit.phase s.commit way.x way.y way.runs.before c left)

  in_leaves : (h : History) (p : Phase) (s : Flusher D g) → IsStoreAt g h p s → Leaves g s.commit.disk (IsFileIn h s.commit.root.version)
  in_leaves h Idle s rest c left = record { held = rest.x.held; among = rest.held; no_less = omega (arith, rest.number); stands = calm_stands rest.x c (rest.stands.leaves c left) }
  in_leaves h Close s way c left = way_leaves h s way c left
  in_leaves h Settle s way c left = way_leaves h s way c left
  in_leaves h Put s way c left = way_leaves h s way c left
  in_leaves h Open s way c left = way_leaves h s way c left
  in_leaves h Finish s way c left = way_leaves h s way c left
  in_leaves h Failed s store c left = store c left

  -- whatever the phase, each outcome stands for a version of the history
  pub store_leaves : (h : History) (s : Flusher D g) → IsStoreOf g h s → Leaves g s.commit.disk (IsFileIn h s.commit.root.version)
  store_leaves h s is = in_leaves h s.commit.phase s is.store

  -- a store that stands for a version is one of the history that begins with it
  pub store_begins : (version : Version) (f : Flusher D g) (x : Kept) → StoreStandsFor g f.commit x → IsImageOf version x.held → f.commit.root.version ≡ version.number
      → version.durable ≤ f.commit.root.version → IsStoreOf g (record { start = version; entries = [] }) f
  store_begins version f x stands image stored reported = record {
    honest = stands.honest;
    reported = reported;
    store = subst (λ (p : Phase). IsStoreAt g (record { start = version; entries = [] }) p f) (sym stands.idle)
        (record {
          x = x;
          held = record { version = version; among = newest_among (record { start = version; entries = [] }) version refl; image = image };
          number = image.number ∙ sym stored;
          stands = stands;
        });
  }

  -- ---- a longer history

  way_more : (was now : History) (s : Flusher D g) → BeginsWith now was → Goes g was s → Goes g now s
  way_more was now s longer way = record {
    x = way.x;
    y = way.y;
    held = among_more was now way.x.held longer way.held;
    number = way.number;
    next = among_more was now way.y.held longer way.next;
    next_number = way.next_number;
    later = way.later;
    runs = way.runs;
  }

  in_more : (was now : History) (p : Phase) (s : Flusher D g) → BeginsWith now was → IsStoreAt g was p s → IsStoreAt g now p s
  in_more was now Idle s longer rest = record { x = rest.x; held = among_more was now rest.x.held longer rest.held; number = rest.number; stands = rest.stands }
  in_more was now Close s longer way = way_more was now s longer way
  in_more was now Settle s longer way = way_more was now s longer way
  in_more was now Put s longer way = way_more was now s longer way
  in_more was now Open s longer way = way_more was now s longer way
  in_more was now Finish s longer way = way_more was now s longer way
  in_more was now Failed s longer store = λ c left. file_more was now s.commit.root.version s.commit.root.version c longer (omega arith) (store c left)

  pub store_more : (was now : History) (s : Flusher D g) → BeginsWith now was → (newest now).durable ≤ s.commit.root.version → IsStoreOf g was s → IsStoreOf g now s
  store_more was now s longer reported is = record { honest = is.honest; reported = reported; store = in_more was now s.commit.phase s longer is.store }

  -- ---- a store fails by its device alone

  fails_not : (s : Commit D g) → FailsByDevice g s s
  fails_not s = record { no_less = omega arith; failed = inl }

  rose_before : (a b c : ℕ) → device.Failed a b → b ≤ c → device.Failed a c
  rose_before a b c rose on = omega (arith, rose, on)

  pub rose_after : (a b c : ℕ) → a ≤ b → device.Failed b c → device.Failed a c
  rose_after a b c on rose = omega (arith, on, rose)

  pub fails_twice : (s t u : Commit D g) → FailsByDevice g s t → FailsByDevice g t u → FailsByDevice g s u
  fails_twice s t u first second = record {
    no_less = omega (arith, first.no_less, second.no_less);
    failed = λ at. ⊎_elim
        (λ then. ⊎_elim inl (λ rose. inr (rose_before (g.faults s.disk) (g.faults t.disk) (g.faults u.disk) rose second.no_less)) (first.failed then))
        (λ rose. inr (rose_after (g.faults s.disk) (g.faults t.disk) (g.faults u.disk) first.no_less rose))
        (second.failed at);
  }

  -- no device call was made, and a commit begins
  fails_begun : (s new : Commit D g) → new.disk ≡ s.disk → new.phase ≡ Close → FailsByDevice g s new
  fails_begun s new disk busy = record {
    no_less = omega (arith, ap g.faults disk);
    failed = λ at. absurd (false≢true (ap is_busy (sym at ∙ busy)));
  }

  -- ---- stretches of a run

  pub begun : (h : History) (s : Flusher D g) → OnlyNow s → IsStoreOf g h s → Flushes g h s h s
  begun h s now is = record {
    goes_on = begins_self h;
    store = is;
    no_less = omega arith;
    reports = λ all. all;
    moments = started g s.commit.disk (IsFileIn h s.commit.root.version) (λ c left. store_leaves h s is c (now c left));
    by_device = fails_not s.commit;
    blocks = λ limit is. is;
  }

  pub then : (a b c : History) (s t u : Flusher D g) → Flushes g a s b t → Flushes g b t c u → Flushes g a s c u
  then a b c s t u first second = record {
    goes_on = begins_trans a b c first.goes_on second.goes_on;
    store = second.store;
    no_less = omega (arith, first.no_less, second.no_less);
    reports = λ all. second.reports (first.reports all);
    moments = joined g s.commit.disk t.commit.disk u.commit.disk (IsFileIn c s.commit.root.version) (IsFileIn c t.commit.root.version)
        (λ file is. file_more c c t.commit.root.version s.commit.root.version file (begins_self c) first.no_less is)
        (widened g s.commit.disk t.commit.disk (IsFileIn b s.commit.root.version) (IsFileIn c s.commit.root.version) (λ file is. file_more b c s.commit.root.version s.commit.root.version file second.goes_on (omega arith) is) first.moments)
        second.moments;
    by_device = fails_twice s.commit t.commit u.commit first.by_device second.by_device;
    blocks = λ limit is. second.blocks limit (first.blocks limit is);
  }

  -- the history goes on where as much is durable, and the store stays
  pub longer : (was now : History) (s : Flusher D g) → OnlyNow s
      → BeginsWith now was → (newest now).durable ≡ (newest was).durable → IsStoreOf g was s → Flushes g was s now s
  longer was now s at on same is =
      let store = store_more was now s on (omega (arith, same, is.reported)) is in
      record {
        goes_on = on;
        store = store;
        no_less = omega arith;
        reports = λ all. same ∙ all;
        moments = started g s.commit.disk (IsFileIn now s.commit.root.version) (λ c left. store_leaves now s store c (at c left));
        by_device = fails_not s.commit;
        blocks = λ limit is. is;
      }

  -- ---- begin

  begin_in : (h : History) (p : Phase) (s new : Flusher D g) (v : Version) → p ≡ s.commit.phase → is_busy p ≡ false → (s.commit.phase ≡ Failed → ⊥) → IsHistory h → v ≡ newest h
      → ((x : Kept) → StoreStandsFor g s.commit x → (y : Kept) × IsCommitOf v y × RunsFrom g new.commit x y) → new.commit.root.version ≡ s.commit.root.version → new.commit.phase ≡ Close
      → IsStoreAt g h p s → IsStoreAt g h new.commit.phase new
  begin_in h Idle s new v at idle well history latest begins stored busy rest =
      let next = begins rest.x rest.stands in
      let y = next.0 in
      let of = next.1 in
      let rising = numbers_rise h rest.held.version history rest.held.among in
      subst (λ (p : Phase). IsStoreAt g h p new) (sym busy) (record {
        x = rest.x;
        y = y;
        held = rest.held;
        number = rest.number ∙ sym stored;
        next = record { version = v; among = newest_among h v latest; image = of.image };
        next_number = of.image.number ∙ sym of.root;
        later = omega (arith, stored, rest.number, rest.held.image.number, rising, of.image.number, ap (λ (w : Version). w.number) latest);
        runs = next.2;
      })
  begin_in h Close s new v at idle well history latest begins stored busy way = absurd (false≢true (sym idle))
  begin_in h Settle s new v at idle well history latest begins stored busy way = absurd (false≢true (sym idle))
  begin_in h Put s new v at idle well history latest begins stored busy way = absurd (false≢true (sym idle))
  begin_in h Open s new v at idle well history latest begins stored busy way = absurd (false≢true (sym idle))
  begin_in h Finish s new v at idle well history latest begins stored busy way = absurd (false≢true (sym idle))
  begin_in h Failed s new v at idle well history latest begins stored busy store = absurd (well (sym at))

  -- a commit of the newest version begins
  pub commit_begins : (h : History) (s new : Flusher D g) (v : Version) → is_busy s.commit.phase ≡ false → (s.commit.phase ≡ Failed → ⊥) → IsHistory h → v ≡ newest h
      → ((x : Kept) → StoreStandsFor g s.commit x → (y : Kept) × IsCommitOf v y × RunsFrom g new.commit x y) → new.commit.root.version ≡ s.commit.root.version → new.commit.phase ≡ Close → new.commit.disk ≡ s.commit.disk
      → OnlyNow s
      → KeepsLimit s new → IsStoreOf g h s → Flushes g h s h new
  commit_begins h s new v idle well history latest begins stored busy disk at limit is =
      let store = begin_in h s.commit.phase s new v refl idle well history latest begins stored busy is.store in
      record {
        goes_on = begins_self h;
        store = record { honest = subst g.is_honest (sym disk) is.honest; reported = omega (arith, is.reported, stored); store = store };
        no_less = omega (arith, stored);
        reports = λ all. all ∙ sym stored;
        moments = subst (λ (d : D). LeavesOnly g s.commit.disk d (IsFileIn h s.commit.root.version)) (sym disk) (started g s.commit.disk (IsFileIn h s.commit.root.version) (λ c left. store_leaves h s is c (at c left)));
        by_device = fails_begun s.commit new.commit disk busy;
        blocks = limit;
      }

  -- ---- step

  -- no commit is under way, and the device did not fail or did; or one is under way
  ways : (h : History) (p : Phase) (s : Flusher D g) → s.commit.phase ≡ p → IsStoreAt g h p s → (s.commit.phase ≡ Idle) ⊎ ((s.commit.phase ≡ Failed) ⊎ Goes g h s)
  ways h Idle s at rest = inl at
  ways h Close s at way = inr (inr way)
  ways h Settle s at way = inr (inr way)
  ways h Put s at way = inr (inr way)
  ways h Open s at way = inr (inr way)
  ways h Finish s at way = inr (inr way)
  ways h Failed s at store = inr (inl at)

  way_in : (h : History) (p : Phase) (f : Flusher D g) → f.commit.phase ≡ p → Goes g h f → IsStoreAt g h p f
  way_in h Idle f is way = absurd (subst (λ (q : Phase). Before g q f.commit way.x way.y) is way.runs.before)
  way_in h Failed f is way = way_leaves h f way
  way_in h Close f is way = way
  way_in h Settle f is way = way
  way_in h Put f is way = way
  way_in h Open f is way = way
  way_in h Finish f is way = way

  -- a device call: the store stays one of the history, and a crash within the call leaves a version of it
  pub record Moves (h : History) (s new : Flusher D g) : Type 0 where
    pub store : IsStoreOf g h new
    pub no_less : s.commit.root.version ≤ new.commit.root.version
    pub moments : LeavesOnly g s.commit.disk new.commit.disk (IsFileIn h s.commit.root.version)

  module _ (h : History) (s new : Flusher D g) (is : IsStoreOf g h s) (honest : g.is_honest s.commit.disk → g.is_honest new.commit.disk) where
    module _ (way : Goes g h s) where
      moments_of : LeavesOnly g s.commit.disk new.commit.disk (Either way.x way.y) → LeavesOnly g s.commit.disk new.commit.disk (IsFileIn h s.commit.root.version)
      moments_of run = widened g s.commit.disk new.commit.disk (Either way.x way.y) (IsFileIn h s.commit.root.version) (either_among h s way) run

      goes : new.commit.root.version ≡ s.commit.root.version → Stepped g s.commit new.commit (Ok progress.Going) way.x way.y → Moves h s new
      goes stored step = record {
        store = record {
          honest = honest is.honest;
          reported = omega (arith, is.reported, stored);
          store = way_in h new.commit.phase new refl (record {
            x = way.x;
            y = way.y;
            held = way.held;
            number = way.number ∙ sym stored;
            next = way.next;
            next_number = way.next_number;
            later = omega (arith, way.later, stored);
            runs = step.ok;
          });
        };
        no_less = omega (arith, stored);
        moments = moments_of step.moments;
      }

      is_done : (number : ℕ) → new.commit.root.version ≡ number → Stepped g s.commit new.commit (Ok (progress.Done number)) way.x way.y → Moves h s new
      is_done number stored step =
          let stands = step.ok.0 in
          let here : way.y.held.number ≡ new.commit.root.version = way.next_number ∙ sym step.ok.1 ∙ sym stored in
          record {
            store = record {
              honest = honest is.honest;
              reported = omega (arith, is.reported, way.later, here);
              store = subst (λ (p : Phase). IsStoreAt g h p new) (sym stands.idle) (record { x = way.y; held = way.next; number = here; stands = stands });
            };
            no_less = omega (arith, way.later, here);
            moments = moments_of step.moments;
          }

      fails : (why : StoreFault) → new.commit.root.version ≡ s.commit.root.version → Stepped g s.commit new.commit (Err why) way.x way.y → Moves h s new
      fails why stored step = record {
        store = record {
          honest = honest is.honest;
          reported = omega (arith, is.reported, stored);
          store = subst (λ (p : Phase). IsStoreAt g h p new) (sym step.err.1)
              (λ c left. subst (λ (n : ℕ). IsFileIn h n c) (sym stored) (either_among h s way c (step.err.0 c left)));
        };
        no_less = omega (arith, stored);
        moments = moments_of step.moments;
      }

      stepped : (r : Result Progress StoreFault) → new.commit.root.version ≡ stored_after r s.commit.root.version → Stepped g s.commit new.commit r way.x way.y → Moves h s new
      stepped (Ok progress.Idle) stored step = absurd step.ok
      stepped (Ok progress.Going) stored step = goes stored step
      stepped (Ok (progress.Done number)) stored step = is_done number stored step
      stepped (Err why) stored step = fails why stored step

  module _ (h : History) (s new : Flusher D g) (r : Result Progress StoreFault) (now : OnlyNow s)
      (moves : (x y : Kept) → RunsFrom g s.commit x y → Stepped g s.commit new.commit r x y) (stored : new.commit.root.version ≡ stored_after r s.commit.root.version) (honest : g.is_honest s.commit.disk → g.is_honest new.commit.disk)
      (idle : s.commit.phase ≡ Idle → (r ≡ Ok progress.Idle) × (new ≡ s)) (stuck : s.commit.phase ≡ Failed → (r ≡ Err fault.Failed) × (new ≡ s)) (is : IsStoreOf g h s) where
    stays : new ≡ s → Moves h s new
    stays same =
        subst (Moves h s) (sym same) (record { store = is; no_less = omega arith; moments = started g s.commit.disk (IsFileIn h s.commit.root.version) (λ c left. store_leaves h s is c (now c left)) })

    -- a device call, if one is made
    pub steps : Moves h s new
    steps =
        ⊎_elim (λ at. stays (idle at).1)
        (λ other. ⊎_elim (λ at. stays (stuck at).1) (λ way. stepped h s new is honest way r stored (moves way.x way.y way.runs)) other)
        (ways h s.commit.phase s refl is.store)

    -- one that ends no commit
    pub steps_on : (g.is_honest s.commit.disk → FailsByDevice g s.commit new.commit) → KeepsLimit s new → stored_after r s.commit.root.version ≡ s.commit.root.version → Flushes g h s h new
    steps_on fails limit same = record {
      goes_on = begins_self h;
      store = steps.store;
      no_less = steps.no_less;
      reports = λ all. all ∙ sym (stored ∙ same);
      moments = steps.moments;
      by_device = fails is.honest;
      blocks = limit;
    }

    done_way : (number : ℕ) → IsHistory h → r ≡ Ok (progress.Done number) → Goes g h s → number ≤ (newest h).number
    done_way number history done way =
        let reported : number ≡ way.y.root.version = (subst (λ (q : Result Progress StoreFault). IfOk q (λ p. Outcome g new.commit p way.x way.y)) done (moves way.x way.y way.runs).ok).1 in
        omega (arith, numbers_rise h way.next.version history way.next.among, way.next.image.number, way.next_number, reported)

    -- a commit that is done was of a version of the history
    pub done_level : (number : ℕ) → IsHistory h → r ≡ Ok (progress.Done number) → number ≤ (newest h).number
    done_level number history done =
        ⊎_elim (λ at. absurd (subst IsDone (sym done ∙ (idle at).0) tt))
        (λ other. ⊎_elim (λ at. absurd (subst IsDone (sym done ∙ (stuck at).0) tt)) (done_way number history done) other)
        (ways h s.commit.phase s refl is.store)

  -- a commit that is done, and is reported
  pub durable_failed : (h n : History) (s new : Flusher D g) (number : ℕ) → Moves h s new → FailsByDevice g s.commit new.commit → KeepsLimit s new → new.commit.root.version ≡ number → number ≤ (newest h).number → BeginsWith n h
      → (number ≤ (newest h).number → number ≤ (newest n).durable) → ((newest n).durable ≡ number) ⊎ ((newest n).durable ≡ (newest h).durable) → Flushes g h s n new
  durable_failed h n s new number moved fails limit done level on reached reported =
      let less : (newest n).durable ≤ new.commit.root.version = ⊎_elim (λ to. omega (arith, to, done)) (λ stays. omega (arith, stays, moved.store.reported)) reported in
      record {
        goes_on = on;
        store = store_more h n new on less moved.store;
        no_less = moved.no_less;
        reports = λ all. omega (arith, less, reached level, done);
        moments = widened g s.commit.disk new.commit.disk (IsFileIn h s.commit.root.version) (IsFileIn n s.commit.root.version) (λ file is. file_more h n s.commit.root.version s.commit.root.version file on (omega arith) is) moved.moments;
        by_device = fails;
        blocks = limit;
      }

  -- ---- calls of a keeper

  -- a call that reports no more than was stored as it began
  pub kept : (was now : History) (s t : Flusher D g) → Flushes g was s now t → IsHistory now → (newest now).durable ≤ s.commit.root.version → KeepsReported g was s now t
  kept was now s t run valid reported = record {
    goes_on = run.goes_on;
    valid = valid;
    store = run.store;
    no_less = run.no_less;
    reported = reported;
    moments = run.moments;
    by_device = run.by_device;
    blocks = run.blocks;
  }

  -- one that reports and stores nothing more
  pub kept_on : (was now : History) (s t : Flusher D g) → KeepsReported g was s now t → (newest now).durable ≡ (newest was).durable → t.commit.root.version ≡ s.commit.root.version
      → Flushes g was s now t
  kept_on was now s t call same stored = record {
    goes_on = call.goes_on;
    store = call.store;
    no_less = call.no_less;
    reports = λ all. same ∙ all ∙ sym stored;
    moments = call.moments;
    by_device = call.by_device;
    blocks = call.blocks;
  }

  -- two, after which all that is stored is reported
  pub reported_all : (a b c : History) (s t u : Flusher D g) → KeepsReported g a s b t → KeepsReported g b t c u → AllReported c u → Flushes g a s c u
  reported_all a b c s t u first second all = record {
    goes_on = begins_trans a b c first.goes_on second.goes_on;
    store = second.store;
    no_less = omega (arith, first.no_less, second.no_less);
    reports = λ was. all;
    moments = joined g s.commit.disk t.commit.disk u.commit.disk (IsFileIn c s.commit.root.version) (IsFileIn c t.commit.root.version)
        (λ file is. file_more c c t.commit.root.version s.commit.root.version file (begins_self c) first.no_less is)
        (widened g s.commit.disk t.commit.disk (IsFileIn b s.commit.root.version) (IsFileIn c s.commit.root.version) (λ file is. file_more b c s.commit.root.version s.commit.root.version file second.goes_on (omega arith) is) first.moments)
        second.moments;
    by_device = fails_twice s.commit t.commit u.commit first.by_device second.by_device;
    blocks = λ limit is. second.blocks limit (first.blocks limit is);
  }

  -- all that is reported by its end is in each file that a crash may leave at any moment of it
  pub reported_is_left : (was now : History) (s t : Flusher D g) → KeepsReported g was s now t → LeavesOnly g s.commit.disk t.commit.disk (IsFileIn now (newest now).durable)
  reported_is_left was now s t call =
      widened g s.commit.disk t.commit.disk (IsFileIn now s.commit.root.version) (IsFileIn now (newest now).durable)
      (λ file is. file_more now now s.commit.root.version (newest now).durable file (begins_self now) call.reported is) call.moments

  -- a device call
  pub step_kept : (h : History) (s new : Flusher D g) → IsHistory h → IsStoreOf g h s → Moves h s new → FailsByDevice g s.commit new.commit → KeepsLimit s new → KeepsReported g h s h new
  step_kept h s new valid is moved fails limit = record {
    goes_on = begins_self h;
    valid = valid;
    store = moved.store;
    no_less = moved.no_less;
    reported = is.reported;
    moments = moved.moments;
    by_device = fails;
    blocks = limit;
  }

  -- what is stored is no newer than what was seen
  pub stored_level : ((disk : D) → g.is_honest disk → g.may_leave disk (g.seen disk)) → (h : History) (s : Flusher D g) → IsHistory h → IsStoreOf g h s
      → s.commit.root.version ≤ (newest h).number
  stored_level may h s history is =
      let file = store_leaves h s is (g.seen s.commit.disk) (may s.commit.disk is.honest) in
      omega (arith, file.no_less, file.among.image.number, numbers_rise h file.among.version history file.among.among)

  -- a report of what is stored
  module _ (h n : History) (s : Flusher D g) (at : OnlyNow s) (on : BeginsWith n h)
      (reported : ((newest n).durable ≡ s.commit.root.version) ⊎ ((newest n).durable ≡ (newest h).durable)) (is : IsStoreOf g h s) where
    no_more : (newest n).durable ≤ s.commit.root.version
    no_more = ⊎_elim (λ to. omega (arith, to)) (λ stays. omega (arith, stays, is.reported)) reported

    pub report_kept : IsHistory n → KeepsReported g h s n s
    report_kept valid =
        let store = store_more h n s on no_more is in
        record {
          goes_on = on;
          valid = valid;
          store = store;
          no_less = omega arith;
          reported = no_more;
          moments = started g s.commit.disk (IsFileIn n s.commit.root.version) (λ c left. store_leaves n s store c (at c left));
          by_device = fails_not s.commit;
          blocks = λ limit is. is;
        }

    pub all_reported : (s.commit.root.version ≤ (newest h).number → s.commit.root.version ≤ (newest n).durable) → s.commit.root.version ≤ (newest h).number → AllReported n s
    all_reported reached level = omega (arith, no_more, reached level)

Succeeds : {A B : Type 0} → Result A B → Type 0
Succeeds (Ok x) = Unit {0}
Succeeds (Err e) = ⊥

-- a result is not of both kinds
pub never_both : {A B : Type 0} (r : Result A B) (x : A) (e : B) → r ≡ Ok x → r ≡ Err e → ⊥
unfolding Succeeds
never_both r x e is not = subst Succeeds (sym is ∙ not) tt

-- a commit of the newest version begins, or it is refused and nothing changes
pub begin_kept : {D A : Type 0} (g : Ghosts D) (h : History) (s new : Flusher D g) (v : Version) (r : Result A StoreFault) → OnlyNow g s
    → is_busy s.commit.phase ≡ false → IsHistory h → v ≡ newest h → (s.commit.phase ≡ Failed → r ≡ Err fault.Failed)
    → ((x : Kept) → StoreStandsFor g s.commit x → OnOk r ((y : Kept) × IsCommitOf v y × RunsFrom g new.commit x y)) → new.commit.root.version ≡ s.commit.root.version
    → OnOk r (new.commit.phase ≡ Close) → new.commit.disk ≡ s.commit.disk → KeepsLimit s new → OnErr r (new ≡ s) → IsStoreOf g h s → KeepsReported g h s h new
begin_kept g h s new v (Ok u) at idle history latest failed begins stored busy disk limit same is =
    kept g h h s new
    (commit_begins g h s new v idle (λ why. never_both (Ok u) u fault.Failed refl (failed why)) history latest begins stored busy disk at limit is)
    history is.reported
begin_kept {D} g h s new v (Err why) at idle history latest failed begins stored busy disk limit same is =
    subst (λ (f : Flusher D g). KeepsReported g h s h f) (sym same) (kept g h h s s (begun g h s at is) history is.reported)
