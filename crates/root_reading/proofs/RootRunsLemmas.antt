-- Runs of extents, and when they have no block in common.
use Rattle.std.proofs.Common.{◌≡◌, inl, inr, ⊎_elim, ℕ, ◌+◌, ◌≤◌, nat_le, true, false, List, [], ◌∷◌, ◌++◌, ◌<◌, length, take, get_or, Option, Some, None, Ok, Err, refl, sym, ◌∙◌, ap, subst, arith, append_assoc, append-nil}
use Rattle.std.proofs.lemmas.Bool.{and_parts, and_from, or_cases, or_left, or_right, leb-true, le-leb, cases_Bool, cond-true, cond-false}
use Rattle.std.proofs.lemmas.List.{take_more}
use Rattle.std.proofs.lemmas.List.Concat.{flat_map-append}
use Rattle.extent_map.specs.declared.extent.Extent as runs
use Rattle.extent_map.specs.Extents.{IsApart, IsUnused, AreApart, AreAlike}
use Rattle.store_terms.specs.declared.root.RecordExtent.{RecordExtent}
use Rattle.store_terms.specs.Places.{blocks, are_apart, is_apart_from, all_apart, some_extents, extents_of_records, extents_listed}
use Rattle.store_terms.specs.declared.damage.Damage.TheVariants.{Overlap}
use Rattle.store_terms.specs.Catalog.{Listed}
use Rattle.store_terms.specs.Image.{Held}
use Rattle.root_reading.specs.RootRuns.{AreRunsOf, IsMapOf}
use Rattle.root_reading.specs.RootRuns.{IsNear, AllNear, AreRunsFor, if_apart}
use Rattle.root_reading.proofs.Rooms.{map_of_runs}

-- one run more
pub runs_more : (es : List RecordExtent) (rs : List runs.Extent) (e : RecordExtent) (r : runs.Extent) → AreRunsFor es rs
    → (IsNear e → (r.block ≡ e.block) × (r.blocks ≡ blocks e.size)) → AreRunsFor (es ++ e ∷ []) (rs ++ r ∷ [])
runs_more [] [] e r are is = (is, tt)
runs_more [] (q ∷ rs) e r are is = absurd are
runs_more (f ∷ es) [] e r are is = absurd are
runs_more (f ∷ es) (q ∷ rs) e r are is = (are.0, runs_more es rs e r are.1 is)

-- where all are near, they are the runs
pub near_runs : (es : List RecordExtent) (rs : List runs.Extent) → AllNear es → AreRunsFor es rs → AreRunsOf es rs
near_runs [] [] near are = tt
near_runs [] (r ∷ rs) near are = absurd are
near_runs (e ∷ es) [] near are = absurd are
near_runs (e ∷ es) (r ∷ rs) near are = let is = are.0 near.0 in (is.0, is.1, near_runs es rs near.1 are.1)

apart_test : (e f : RecordExtent) (r q : runs.Extent) → r.block ≡ e.block → r.blocks ≡ blocks e.size → q.block ≡ f.block
    → q.blocks ≡ blocks f.size → IsApart r.block r.blocks q → are_apart e f ≡ true
apart_test e f r q rb rs qb qs (inl before) =
    or_left (nat_le (e.block + blocks e.size) f.block) (nat_le (f.block + blocks f.size) e.block)
    (le-leb _ _ (subst (λ (n : ℕ). e.block + n ≤ f.block) rs (omega (arith, before, rb, qb))))
apart_test e f r q rb rs qb qs (inr behind) =
    or_right (nat_le (e.block + blocks e.size) f.block) (nat_le (f.block + blocks f.size) e.block)
    (le-leb _ _ (subst (λ (n : ℕ). f.block + n ≤ e.block) qs (omega (arith, behind, rb, qb))))

test_apart : (e f : RecordExtent) (r q : runs.Extent) → r.block ≡ e.block → r.blocks ≡ blocks e.size → q.block ≡ f.block
    → q.blocks ≡ blocks f.size → are_apart e f ≡ true → IsApart r.block r.blocks q
test_apart e f r q rb rs qb qs apart = ⊎_elim
    (λ before. let le : e.block + blocks e.size ≤ f.block =
    leb-true _ _ before in inl (subst (λ (n : ℕ). r.block + n ≤ q.block) (sym rs) (omega (arith, le, rb, qb))))
    (λ behind. let le : f.block + blocks f.size ≤ e.block =
    leb-true _ _ behind in inr (subst (λ (n : ℕ). q.block + n ≤ r.block) (sym qs) (omega (arith, le, rb, qb))))
    (or_cases (nat_le (e.block + blocks e.size) f.block) (nat_le (f.block + blocks f.size) e.block) apart)

free_test : (e : RecordExtent) (r : runs.Extent) (es : List RecordExtent) (rs : List runs.Extent) → r.block ≡ e.block
    → r.blocks ≡ blocks e.size → AreRunsOf es rs → IsUnused rs r.block r.blocks → is_apart_from e es ≡ true
free_test e r [] [] b s are free = refl
free_test e r [] (q ∷ rs) b s are free = absurd are
free_test e r (f ∷ es) [] b s are free = absurd are
free_test e r (f ∷ es) (q ∷ rs) b s are free =
    and_from (are_apart e f) (is_apart_from e es) (apart_test e f r q b s are.0 are.1 free.0)
    (free_test e r es rs b s are.2 free.1)

test_free : (e : RecordExtent) (r : runs.Extent) (es : List RecordExtent) (rs : List runs.Extent) → r.block ≡ e.block
    → r.blocks ≡ blocks e.size → AreRunsOf es rs → is_apart_from e es ≡ true → IsUnused rs r.block r.blocks
test_free e r [] [] b s are apart = tt
test_free e r [] (q ∷ rs) b s are apart = absurd are
test_free e r (f ∷ es) [] b s are apart = absurd are
test_free e r (f ∷ es) (q ∷ rs) b s are apart =
    let p = and_parts (are_apart e f) (is_apart_from e es) apart in
    (test_apart e f r q b s are.0 are.1 p.0, test_free e r es rs b s are.2 p.1)

-- the runs have no block in common where the extents have none
pub apart_extents : (es : List RecordExtent) (rs : List runs.Extent) → AreRunsOf es rs → AreApart rs → all_apart es ≡ true
apart_extents [] [] are apart = refl
apart_extents [] (r ∷ rs) are apart = absurd are
apart_extents (e ∷ es) [] are apart = absurd are
apart_extents (e ∷ es) (r ∷ rs) are apart =
    and_from (is_apart_from e es) (all_apart es) (free_test e r es rs are.0 are.1 are.2 apart.0)
    (apart_extents es rs are.2 apart.1)

apart_runs : (es : List RecordExtent) (rs : List runs.Extent) → AreRunsOf es rs → all_apart es ≡ true → AreApart rs
apart_runs [] [] are apart = tt
apart_runs [] (r ∷ rs) are apart = absurd are
apart_runs (e ∷ es) [] are apart = absurd are
apart_runs (e ∷ es) (r ∷ rs) are apart =
    let p = and_parts (is_apart_from e es) (all_apart es) apart in
    (test_free e r es rs are.0 are.1 are.2 p.0, apart_runs es rs are.2 p.1)

pub overlap_extents : (es : List RecordExtent) (rs : List runs.Extent) → AreRunsOf es rs → (AreApart rs → ⊥)
    → all_apart es ≡ false
overlap_extents es rs are overlap =
    ⊎_elim (λ apart. absurd (overlap (apart_runs es rs are apart))) (λ none. none) (cases_Bool (all_apart es))

-- ---- what a room of such runs says

pub room_taken : (es : List RecordExtent) (rs taken : List runs.Extent) → AllNear es → AreRunsFor es rs → AreAlike rs taken
    → IsMapOf es taken
room_taken es rs taken near are alike = map_of_runs es rs taken (near_runs es rs near are) alike

pub room_apart : (es : List RecordExtent) (rs : List runs.Extent) (held : Held) → AllNear es → AreRunsFor es rs → AreApart rs
    → if_apart es held ≡ Ok held
room_apart es rs held near are apart =
    cond-true (all_apart es) (Ok held) (Err Overlap) (apart_extents es rs (near_runs es rs near are) apart)

pub room_overlap : (es : List RecordExtent) (rs : List runs.Extent) (held : Held) → AllNear es → AreRunsFor es rs
    → (AreApart rs → ⊥) → if_apart es held ≡ Err Overlap
room_overlap es rs held near are overlap =
    cond-false (all_apart es) (Ok held) (Err Overlap) (overlap_extents es rs (near_runs es rs near are) overlap)

-- ---- the loops

pub entries_on : (es : List RecordExtent) (entries : List (Option RecordExtent)) (i : ℕ) (e : Option RecordExtent) (rs : List runs.Extent)
    → i < length entries → e ≡ get_or entries i e
    → AreRunsFor ((es ++ some_extents (take i entries)) ++ some_extents (e ∷ [])) rs
    → AreRunsFor (es ++ some_extents (take (i + 1) entries)) rs
entries_on es entries i e rs lt is are =
    let more : take (i + 1) entries ≡ take i entries ++ e ∷ [] =
    take_more entries i e lt ∙ ap (λ (x : Option RecordExtent). take i entries ++ x ∷ []) (sym is) in
    subst (λ (xs : List RecordExtent). AreRunsFor xs rs)
    (append_assoc es (some_extents (take i entries)) (some_extents (e ∷ []))
    ∙ ap (λ (xs : List RecordExtent). es ++ xs)
    (sym (some_of (take i entries) (e ∷ [])) ∙ ap some_extents (sym more))) are
  where
    some_of : (xs ys : List (Option RecordExtent)) → some_extents (xs ++ ys) ≡ some_extents xs ++ some_extents ys
    some_of [] ys = refl
    some_of (None ∷ xs) ys = some_of xs ys
    some_of (Some x ∷ xs) ys = ap (λ (zs : List RecordExtent). x ∷ zs) (some_of xs ys)

pub listed_on : (catalog : RecordExtent) (ls : List Listed) (i : ℕ) (l : Listed) (rs : List runs.Extent) → i < length ls
    → l ≡ get_or ls i l
    → AreRunsFor ((catalog ∷ extents_listed (take i ls)) ++ extents_of_records l.records) rs
    → AreRunsFor (catalog ∷ extents_listed (take (i + 1) ls)) rs
listed_on catalog ls i l rs lt is are =
    let more : take (i + 1) ls ≡ take i ls ++ l ∷ [] =
    take_more ls i l lt ∙ ap (λ (x : Listed). take i ls ++ x ∷ []) (sym is) in
    subst (λ (xs : List RecordExtent). AreRunsFor (catalog ∷ xs) rs)
    (ap (λ (xs : List RecordExtent). extents_listed (take i ls) ++ xs) (sym (append-nil (extents_of_records l.records)))
    ∙ sym (flat_map-append (λ (x : Listed). extents_of_records x.records) (take i ls) (l ∷ []))
    ∙ ap extents_listed (sym more)) are
