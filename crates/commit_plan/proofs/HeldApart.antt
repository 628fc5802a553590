-- Of the extents that are near, no two have a block in common where their runs have none.
use Rattle.std.proofs.Common.{◌≡◌, ◌⊎◌, inl, inr, ⊎_elim, ℕ, ◌+◌, ◌^◌, ◌≤◌, nat_le, Bool, true, false, cond, List, [], ◌∷◌, ◌++◌, refl, sym, ◌∙◌, ap, subst, arith}
use Rattle.std.proofs.lemmas.Bool.{and_parts, and_from, or_cases, ltb-true, leb-true, false≢true}
use Rattle.extent_map.specs.declared.extent.Extent as runs
use Rattle.extent_map.specs.Extents as maps
use Rattle.extent_map.specs.Extents.{IsApart, IsUnused, AreAlike}
use Rattle.store_terms.specs.declared.root.RecordExtent.{RecordExtent}
use Rattle.store_terms.specs.Places.{blocks, are_apart, is_apart_from, all_apart}
use Rattle.root_reading.specs.RootRuns.{IsNear, AreRunsFor}
use Rattle.commit_plan.specs.Staying.{is_near, near_ones, AreHeldApart}
use Rattle.commit_plan.proofs.Placed.{Beside, beside_is}

-- a run is that of an extent that is near
beside_run : (e f : RecordExtent) (r : runs.Extent) → r.block ≡ f.block → r.blocks ≡ blocks f.size
    → IsApart e.block (blocks e.size) r → Beside e f
beside_run e f r block size (inl before) = inl (omega (arith, before, block))
beside_run e f r block size (inr behind) =
    inr (subst (λ (n : ℕ). f.block + n ≤ e.block) size (subst (λ (n : ℕ). n + r.blocks ≤ e.block) block behind))

near_free_by : (e f : RecordExtent) (es : List RecordExtent) (r : runs.Extent) (b : Bool) → is_near f ≡ b
    → (IsNear f → (r.block ≡ f.block) × (r.blocks ≡ blocks f.size)) → IsApart e.block (blocks e.size) r
    → is_apart_from e (near_ones es) ≡ true → is_apart_from e (cond b (f ∷ near_ones es) (near_ones es)) ≡ true
near_free_by e f es r true is run free rest =
    let same = run (ltb-true (f.block + blocks f.size) (2 ^ 64) is) in
    and_from (are_apart e f) (is_apart_from e (near_ones es)) (beside_is e f (beside_run e f r same.0 same.1 free)) rest
near_free_by e f es r false is run free rest = rest

near_free : (e : RecordExtent) (es : List RecordExtent) (rs : List runs.Extent) → AreRunsFor es rs
    → IsUnused rs e.block (blocks e.size) → is_apart_from e (near_ones es) ≡ true
near_free e [] [] are free = refl
near_free e [] (r ∷ rs) are free = absurd are
near_free e (f ∷ es) [] are free = absurd are
near_free e (f ∷ es) (r ∷ rs) are free =
    near_free_by e f es r (is_near f) refl are.0 free.0 (near_free e es rs are.1 free.1)

near_apart_by : (e : RecordExtent) (es : List RecordExtent) (r : runs.Extent) (rs : List runs.Extent) (b : Bool)
    → is_near e ≡ b → (IsNear e → (r.block ≡ e.block) × (r.blocks ≡ blocks e.size)) → AreRunsFor es rs
    → IsUnused rs r.block r.blocks → all_apart (near_ones es) ≡ true
    → all_apart (cond b (e ∷ near_ones es) (near_ones es)) ≡ true
near_apart_by e es r rs true is run are free rest =
    let same = run (ltb-true (e.block + blocks e.size) (2 ^ 64) is) in
    let here : IsUnused rs e.block (blocks e.size) =
    subst (λ (n : ℕ). IsUnused rs n (blocks e.size)) same.0 (subst (IsUnused rs r.block) same.1 free) in
    and_from (is_apart_from e (near_ones es)) (all_apart (near_ones es)) (near_free e es rs are here) rest
near_apart_by e es r rs false is run are free rest = rest

near_apart : (es : List RecordExtent) (rs : List runs.Extent) → AreRunsFor es rs → maps.AreApart rs
    → all_apart (near_ones es) ≡ true
near_apart [] [] are apart = refl
near_apart [] (r ∷ rs) are apart = absurd are
near_apart (e ∷ es) [] are apart = absurd are
near_apart (e ∷ es) (r ∷ rs) are apart =
    near_apart_by e es r rs (is_near e) refl are.0 are.1 apart.0 (near_apart es rs are.1 apart.1)

pub held_apart : (catalog : RecordExtent) (es : List RecordExtent) (rs taken : List runs.Extent)
    → AreRunsFor (catalog ∷ es) rs → maps.AreApart rs → AreAlike rs taken → AreHeldApart es taken
held_apart catalog es [] taken are apart alike = absurd are
held_apart catalog es (r ∷ rs) taken are apart alike = record {
  apart = near_apart es rs are.1 apart.1;
  free = λ e free. near_free e es rs are.1 (alike.back e.block (blocks e.size) free).1;
}

-- ---- two of them

are_beside : (e f : RecordExtent) → are_apart e f ≡ true → Beside e f
are_beside e f is = ⊎_elim (λ before. inl (leb-true _ _ before)) (λ behind. inr (leb-true _ _ behind))
    (or_cases (nat_le (e.block + blocks e.size) f.block) (nat_le (f.block + blocks f.size) e.block) is)

-- an extent is one of some
abbrev pub Among : RecordExtent → List RecordExtent → Type 0
Among e [] = ⊥
Among e (f ∷ fs) = (e ≡ f) ⊎ Among e fs

-- one comes before another among some
abbrev pub Before : RecordExtent → RecordExtent → List RecordExtent → Type 0
Before e f [] = ⊥
Before e f (g ∷ gs) = ((e ≡ g) × Among f gs) ⊎ Before e f gs

near_beside_by : (e f g : RecordExtent) (gs : List RecordExtent) (b : Bool) → is_near g ≡ b
    → is_apart_from e (cond b (g ∷ near_ones gs) (near_ones gs)) ≡ true → is_near f ≡ true
    → (is_apart_from e (near_ones gs) ≡ true → Among f gs → Beside e f) → (f ≡ g) ⊎ Among f gs → Beside e f
near_beside_by e f g gs true is apart near later (inl here) =
    subst (Beside e) (sym here) (are_beside e g (and_parts (are_apart e g) (is_apart_from e (near_ones gs)) apart).0)
near_beside_by e f g gs true is apart near later (inr there) =
    later (and_parts (are_apart e g) (is_apart_from e (near_ones gs)) apart).1 there
near_beside_by e f g gs false is apart near later (inl here) =
    absurd (false≢true (sym is ∙ ap is_near (sym here) ∙ near))
near_beside_by e f g gs false is apart near later (inr there) = later apart there

pub near_beside : (e f : RecordExtent) (es : List RecordExtent) → is_apart_from e (near_ones es) ≡ true → Among f es
    → is_near f ≡ true → Beside e f
near_beside e f [] apart among near = absurd among
near_beside e f (g ∷ gs) apart among near =
    near_beside_by e f g gs (is_near g) refl apart near (λ rest there. near_beside e f gs rest there near) among

both_beside_by : (e f g : RecordExtent) (gs : List RecordExtent) (b : Bool) → is_near g ≡ b
    → all_apart (cond b (g ∷ near_ones gs) (near_ones gs)) ≡ true → is_near e ≡ true → is_near f ≡ true
    → (all_apart (near_ones gs) ≡ true → Before e f gs → Beside e f) → ((e ≡ g) × Among f gs) ⊎ Before e f gs
    → Beside e f
both_beside_by e f g gs true is apart near also later (inl here) =
    subst (λ (x : RecordExtent). Beside x f) (sym here.0)
    (near_beside g f gs (and_parts (is_apart_from g (near_ones gs)) (all_apart (near_ones gs)) apart).0 here.1 also)
both_beside_by e f g gs true is apart near also later (inr there) =
    later (and_parts (is_apart_from g (near_ones gs)) (all_apart (near_ones gs)) apart).1 there
both_beside_by e f g gs false is apart near also later (inl here) =
    absurd (false≢true (sym is ∙ ap is_near (sym here.0) ∙ near))
both_beside_by e f g gs false is apart near also later (inr there) = later apart there

pub both_beside : (e f : RecordExtent) (es : List RecordExtent) → all_apart (near_ones es) ≡ true → Before e f es
    → is_near e ≡ true → is_near f ≡ true → Beside e f
both_beside e f [] apart before near also = absurd before
both_beside e f (g ∷ gs) apart before near also =
    both_beside_by e f g gs (is_near g) refl apart near also
    (λ rest there. both_beside e f gs rest there near also) before

-- ---- lists one after another

pub among_front : (e : RecordExtent) (xs ys : List RecordExtent) → Among e xs → Among e (xs ++ ys)
among_front e [] ys among = absurd among
among_front e (x ∷ xs) ys (inl here) = inl here
among_front e (x ∷ xs) ys (inr later) = inr (among_front e xs ys later)

pub among_back : (e : RecordExtent) (xs ys : List RecordExtent) → Among e ys → Among e (xs ++ ys)
among_back e [] ys among = among
among_back e (x ∷ xs) ys among = inr (among_back e xs ys among)

pub before_front : (e f : RecordExtent) (xs ys : List RecordExtent) → Before e f xs → Before e f (xs ++ ys)
before_front e f [] ys before = absurd before
before_front e f (x ∷ xs) ys (inl here) = inl (here.0, among_front f xs ys here.1)
before_front e f (x ∷ xs) ys (inr later) = inr (before_front e f xs ys later)

pub before_back : (e f : RecordExtent) (xs ys : List RecordExtent) → Before e f ys → Before e f (xs ++ ys)
before_back e f [] ys before = before
before_back e f (x ∷ xs) ys before = inr (before_back e f xs ys before)

pub before_both : (e f : RecordExtent) (xs ys : List RecordExtent) → Among e xs → Among f ys → Before e f (xs ++ ys)
before_both e f [] ys among also = absurd among
before_both e f (x ∷ xs) ys (inl here) also = inl (here, among_back f xs ys also)
before_both e f (x ∷ xs) ys (inr later) also = inr (before_both e f xs ys later also)
