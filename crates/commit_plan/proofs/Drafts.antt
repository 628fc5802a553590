-- Drafts with some records more.
use Rattle.std.proofs.Common.{◌≡◌, ℕ, ◌*◌, ◌≤◌, List, [], ◌∷◌, ◌++◌, length, refl, sym, ◌∙◌, ap, subst, append_assoc, arith, Result, Ok, Err, IsErrAnd}
use Rattle.std.proofs.lemmas.List.{append-nil, map-append}
use Rattle.extent_map.specs.declared.extent.Extent as runs
use Rattle.extent_map.specs.Extents.{AreAlike}
use Rattle.extent_map.specs.FirstFit.{IsFirstFit, NoFit, IsPlanned, IsFull, taken_with}
use Rattle.extent_map.specs.Taken.{taken_of}
use Rattle.extent_map.proofs.Plans.{fit_alike, none_alike, planned_more, taken_more}
use Rattle.store_terms.specs.Places.{blocks}
use Rattle.commit_plan.specs.declared.room.Room.{Room}
use Rattle.commit_plan.specs.declared.write.Write.{Write}
use Rattle.commit_plan.specs.Filed.{Filed, lengths_of, extents_of_filed, IsWriteOf, AreWritesOf}
use Rattle.root_reading.specs.RootRuns.{AreRunsOf}
use Rattle.commit_plan.specs.Drafted.{Drafted, HasNoRunFor, IsDraft, sizes_in, with_filed}

pub bytes_fit : (n : ℕ) → n ≤ 4096 * blocks n
bytes_fit n = omega arith

runs_more : (fs : List Filed) (rs : List runs.Extent) (f : Filed) (r : runs.Extent) → AreRunsOf (extents_of_filed fs) rs
    → r.block ≡ f.extent.block → r.blocks ≡ blocks f.extent.size
    → AreRunsOf (extents_of_filed (fs ++ f ∷ [])) (rs ++ r ∷ [])
runs_more [] [] f r are block size = (block, size, tt)
runs_more [] (q ∷ rs) f r are block size = absurd are
runs_more (g ∷ fs) [] f r are block size = absurd are
runs_more (g ∷ fs) (q ∷ rs) f r are block size = (are.0, are.1, runs_more fs rs f r are.2 block size)

-- the writes of records, and of one more
pub writes_more : (fs : List Filed) (ws : List Write) (f : Filed) (w : Write) → AreWritesOf fs ws → IsWriteOf f w → AreWritesOf (fs ++ f ∷ []) (ws ++ w ∷ [])
writes_more [] [] f w are is = (is, tt)
writes_more [] (v ∷ ws) f w are is = absurd are
writes_more (g ∷ fs) [] f w are is = absurd are
writes_more (g ∷ fs) (v ∷ ws) f w are is = (are.0, writes_more fs ws f w are.1 is)

pub lengths_with : (fs gs : List Filed) → lengths_of (fs ++ gs) ≡ lengths_of fs ++ lengths_of gs
lengths_with fs gs = map-append (λ (f : Filed). length f.bytes) fs gs

-- ---- what the code keeps

-- one record more has its run
pub draft_more : (live old new : Room) (fs : List Filed) (f : Filed) (r : runs.Extent) → IsDraft live old fs → new.max_blocks ≡ old.max_blocks
    → f.extent.size ≡ length f.bytes → r.block ≡ f.extent.block → r.blocks ≡ blocks f.extent.size
    → IsFirstFit (taken_of old.map) old.max_blocks (blocks f.extent.size) r.block
    → ((l : List runs.Extent) → AreAlike l (taken_of old.map) → AreAlike (r ∷ l) (taken_of new.map)) → IsDraft live new (fs ++ f ∷ [])
draft_more live old new fs f r draft same size block long fit taken =
    let given = taken_of live.map in
    let limit = live.max_blocks in
    let here = subst (λ (m : ℕ). IsFirstFit (taken_of old.map) m (blocks f.extent.size) r.block) draft.limit fit in
    let first = fit_alike (taken_with given draft.places) (taken_of old.map) limit (blocks f.extent.size) r.block draft.alike here in
    let planned = planned_more given limit (lengths_of fs) draft.places (length f.bytes) r draft.placed.planned (long ∙ ap blocks size)
    (subst (λ (n : ℕ). IsFirstFit (taken_with given draft.places) limit (blocks n) r.block) size first) in
    record {
      limit = same ∙ draft.limit;
      places = draft.places ++ r ∷ [];
      placed = record {
        planned = subst (λ (l : List ℕ). IsPlanned given limit l (draft.places ++ r ∷ [])) (sym (lengths_with fs (f ∷ []))) planned;
        runs = runs_more fs draft.places f r draft.placed.runs block long;
      };
      alike = subst (λ (l : List runs.Extent). AreAlike l (taken_of new.map)) (sym (taken_more given draft.places r)) (taken (taken_with given draft.places) draft.alike);
    }

-- a record for which there is no run
pub no_run : (live room : Room) (fs : List Filed) (n : ℕ) → IsDraft live room fs → NoFit (taken_of room.map) room.max_blocks (blocks n)
    → IsFull (taken_of live.map) live.max_blocks (lengths_of fs ++ n ∷ [])
no_run live room fs n draft none = record {
  before = lengths_of fs;
  wanted = n;
  behind = [];
  runs = draft.places;
  are = refl;
  planned = draft.placed.planned;
  none = none_alike (taken_with (taken_of live.map) draft.places) (taken_of room.map) live.max_blocks (blocks n) draft.alike
      (subst (λ (m : ℕ). NoFit (taken_of room.map) m (blocks n)) draft.limit none);
}

-- ---- drafts with some records more

-- some records more, and some more after them
pub filed_twice : (old mid new : Drafted) (fs gs : List Filed) → mid ≡ with_filed old fs → new ≡ with_filed mid gs → new ≡ with_filed old (fs ++ gs)
filed_twice old mid new fs gs first second =
    second ∙ ap (λ (d : Drafted). with_filed d gs) first ∙ ap (λ (l : List Filed). record { given = old.given; limit = old.limit; filed = l }) (append_assoc old.filed fs gs)

-- no record more
pub nothing_more : (d : Drafted) → d ≡ with_filed d []
nothing_more d = ap (λ (l : List Filed). record { given = d.given; limit = d.limit; filed = l }) (sym (append-nil d.filed))

-- the sizes of some records more
pub sizes_with : (old new : Drafted) (fs : List Filed) → new ≡ with_filed old fs → sizes_in new ≡ sizes_in old ++ lengths_of fs
sizes_with old new fs is = ap sizes_in is ∙ lengths_with old.filed fs

-- numbers after others, and some more after them
pub joined : (xs mid all ns ms : List ℕ) → mid ≡ xs ++ ns → all ≡ mid ++ ms → all ≡ xs ++ (ns ++ ms)
joined xs mid all ns ms first second = second ∙ ap (λ (l : List ℕ). l ++ ms) first ∙ append_assoc xs ns ms

-- where a record finds no run, others after it change nothing
pub no_run_more : (d : Drafted) (ns more : List ℕ) → HasNoRunFor d ns → HasNoRunFor d (ns ++ more)
no_run_more d ns more full = record {
  before = full.before;
  wanted = full.wanted;
  behind = full.behind ++ more;
  runs = full.runs;
  are = sym (append_assoc (sizes_in d) ns more) ∙ ap (λ (l : List ℕ). l ++ more) full.are ∙ append_assoc full.before (full.wanted ∷ full.behind) more;
  planned = full.planned;
  none = full.none;
}

-- nor where others have theirs before it
pub no_run_behind : (old new : Drafted) (fs : List Filed) (ns ms : List ℕ) → new ≡ with_filed old fs → sizes_in new ≡ sizes_in old ++ ns → HasNoRunFor new ms → HasNoRunFor old (ns ++ ms)
no_run_behind old new fs ns ms is sizes full =
    subst (λ (l : List ℕ). IsFull old.given old.limit l) (ap (λ (l : List ℕ). l ++ ms) sizes ∙ append_assoc (sizes_in old) ns ms)
    (subst (λ (d : Drafted). IsFull d.given d.limit (sizes_in new ++ ms)) is full)

-- ---- errors

-- an error is one whatever the type of the values is
abbrev pub error_in : (A : Type 0) {E : Type 0} → E → Result A E
error_in A e = Err e

-- the error that `?` passes on is the one that was met
pub passed_error : {A E : Type 0} (B : Type 0) (r : Result A E) (x e : E) → IsErrAnd r (λ y. y ≡ x) → r ≡ Err e
    → error_in B x ≡ error_in B e
passed_error B (Ok y) x e and is = absurd and
passed_error {A} {E} B (Err y) x e and is = ap (error_in B) (sym and ∙ let same : y ≡ e = cc in same)
