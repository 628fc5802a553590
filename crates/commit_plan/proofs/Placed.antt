-- Records that are planned lie off what is taken, and off one another.
use Rattle.std.proofs.Common.{◌≡◌, ◌⊎◌, inl, inr, ⊎_elim, ℕ, ◌+◌, ◌*◌, ◌≤◌, nat_le, Bool, true, ◌||◌, List, [], ◌∷◌, ◌++◌, length, refl, sym, ◌∙◌, ap, subst, arith, rules}
use Rattle.std.specs.List.{AllByRecursion}
use Rattle.std.proofs.lemmas.Bool.{and_from, le-leb}
use Rattle.disk_model.proofs.Ranges.{Apart}
use Rattle.extent_map.specs.declared.extent.Extent as runs
use Rattle.extent_map.specs.Extents as maps
use Rattle.extent_map.specs.Extents.{IsApart, IsUnused}
use Rattle.extent_map.specs.FirstFit.{IsPlanned}
use Rattle.store_terms.specs.declared.root.RecordExtent.{RecordExtent}
use Rattle.store_terms.specs.Places.{blocks, are_apart, is_apart_from, all_apart}
use Rattle.commit_plan.proofs.Drafts.{bytes_fit}
use Rattle.commit_plan.specs.declared.write.Write.{Write}
use Rattle.commit_plan.specs.Kept.{Kept, extents_in}
use Rattle.commit_plan.specs.Planning.{IsOff, AreWrittenApart, AllApart}
use Rattle.commit_plan.specs.Filed.{Filed, extents_of_filed, IsWriteOf, AreWritesOf}
use Rattle.root_reading.specs.RootRuns.{AreRunsOf, IsMapOf}
use Rattle.root_reading.proofs.Rooms.{AreFreeOf}

-- a run after the slots that is free
pub record IsNew (given : List runs.Extent) (r : runs.Extent) : Type 0 where
  pub behind : 2 ≤ r.block
  pub free : IsUnused given r.block r.blocks

new_of_fewer : (given : List runs.Extent) (q : runs.Extent) (rs : List runs.Extent)
    → AllByRecursion (IsNew (q ∷ given)) rs → AllByRecursion (IsNew given) rs
new_of_fewer given q [] new = tt
new_of_fewer given q (r ∷ rs) new =
    (record { behind = new.0.behind; free = new.0.free.1 }, new_of_fewer given q rs new.1)

pub planned_new : (given : List runs.Extent) (limit : ℕ) (ns : List ℕ) (rs : List runs.Extent)
    → IsPlanned given limit ns rs → AllByRecursion (IsNew given) rs
planned_new given limit [] [] planned = tt
planned_new given limit [] (r ∷ rs) planned = absurd planned
planned_new given limit (n ∷ ns) [] planned = absurd planned
planned_new given limit (n ∷ ns) (r ∷ rs) planned = (
  record {
    behind = planned.1.behind;
    free =
        subst (λ (m : ℕ). IsUnused given r.block m) (sym planned.0) planned.1.free;
  },
  new_of_fewer given r rs (planned_new
      (r ∷ given) limit ns rs planned.2),
)

turned : (q r : runs.Extent) → IsApart q.block q.blocks r → IsApart r.block r.blocks q
turned q r (inl before) = inr before
turned q r (inr behind) = inl behind

apart_from_first : (given : List runs.Extent) (r : runs.Extent) (rs : List runs.Extent)
    → AllByRecursion (IsNew (r ∷ given)) rs → IsUnused rs r.block r.blocks
apart_from_first given r [] new = tt
apart_from_first given r (q ∷ rs) new = (turned q r new.0.free.0, apart_from_first given r rs new.1)

pub planned_apart : (given : List runs.Extent) (limit : ℕ) (ns : List ℕ) (rs : List runs.Extent)
    → IsPlanned given limit ns rs → maps.AreApart rs
planned_apart given limit [] [] planned = tt
planned_apart given limit [] (r ∷ rs) planned = absurd planned
planned_apart given limit (n ∷ ns) [] planned = absurd planned
planned_apart given limit (n ∷ ns) (r ∷ rs) planned = (
  apart_from_first given r rs (planned_new (r ∷ given) limit ns rs planned.2),
  planned_apart
      (r ∷ given) limit ns rs planned.2,
)

-- ---- writes

off_extents : (w : Write) (block need : ℕ) (es : List RecordExtent) → w.at ≡ 4096 * block → length w.bytes.items ≡ 4096 * need
    → AreFreeOf block need es
    → AllByRecursion (λ e. Apart w.at (length w.bytes.items) (4096 * e.block) e.size) es
off_extents w block need [] at size free = tt
off_extents w block need (e ∷ es) at size free = (
  ⊎_elim (λ before. inl (omega (arith, before, at, size)))
      (λ behind. inr
      (omega (arith, behind, at, bytes_fit e.size))) free.0,
  off_extents w block need es at size free.1,
)

off_root : (x : Kept) (given : List runs.Extent) (f : Filed) (w : Write) (r : runs.Extent) → IsMapOf (extents_in x) given
    → IsNew given r → r.block ≡ f.extent.block → r.blocks ≡ blocks f.extent.size → IsWriteOf f w → IsOff x w
off_root x given f w r room new block size is =
    let free : AreFreeOf r.block r.blocks (extents_in x) = room.there r.block r.blocks new.free in
    record {
      behind = omega (arith, is.there, is.behind);
      apart = off_extents w r.block r.blocks (extents_in x) (omega (arith, is.there, block))
          (is.blocks ∙ ap (λ (n : ℕ). 4096 * n) (sym size)) free;
    }

pub all_off : (x : Kept) (given : List runs.Extent) (fs : List Filed) (ws : List Write) (rs : List runs.Extent)
    → IsMapOf (extents_in x) given → AllByRecursion (IsNew given) rs → AreRunsOf (extents_of_filed fs) rs
    → AreWritesOf fs ws → AllByRecursion (IsOff x) ws
all_off x given [] [] rs room new are writes = tt
all_off x given [] (w ∷ ws) rs room new are writes = absurd writes
all_off x given (f ∷ fs) [] rs room new are writes = absurd writes
all_off x given (f ∷ fs) (w ∷ ws) [] room new are writes = absurd are
all_off x given (f ∷ fs) (w ∷ ws) (r ∷ rs) room new are writes =
    (off_root x given f w r room new.0 are.0 are.1 writes.0, all_off x given fs ws rs room new.1 are.2 writes.1)

writes_apart : (f g : Filed) (w v : Write) (r q : runs.Extent) → r.block ≡ f.extent.block
    → r.blocks ≡ blocks f.extent.size → q.block ≡ g.extent.block → q.blocks ≡ blocks g.extent.size
    → IsWriteOf f w → IsWriteOf g v → IsApart r.block r.blocks q → AreWrittenApart w v
writes_apart f g w v r q block size block2 size2 is is2 apart =
    let long : length w.bytes.items ≡ 4096 * r.blocks = is.blocks ∙ ap (λ (n : ℕ). 4096 * n) (sym size) in
    let long2 : length v.bytes.items ≡ 4096 * q.blocks = is2.blocks ∙ ap (λ (n : ℕ). 4096 * n) (sym size2) in
    ⊎_elim (λ before. inr (omega (arith, before, is.there, is2.there, block, block2, long)))
    (λ behind. inl (omega (arith, behind, is.there, is2.there, block, block2, long2))) apart

apart_from_all : (f : Filed) (w : Write) (r : runs.Extent) (fs : List Filed) (ws : List Write) (rs : List runs.Extent)
    → r.block ≡ f.extent.block → r.blocks ≡ blocks f.extent.size → IsWriteOf f w
    → IsUnused rs r.block r.blocks → AreRunsOf (extents_of_filed fs) rs → AreWritesOf fs ws
    → AllByRecursion (AreWrittenApart w) ws
apart_from_all f w r [] [] rs block size is free are writes = tt
apart_from_all f w r [] (v ∷ ws) rs block size is free are writes = absurd writes
apart_from_all f w r (g ∷ fs) [] rs block size is free are writes = absurd writes
apart_from_all f w r (g ∷ fs) (v ∷ ws) [] block size is free are writes = absurd are
apart_from_all f w r (g ∷ fs) (v ∷ ws) (q ∷ rs) block size is free are writes =
    (writes_apart f g w v r q block size are.0 are.1 is writes.0 free.0, apart_from_all f w r fs ws rs block size is free.1 are.2 writes.1)

pub all_writes_apart : (fs : List Filed) (ws : List Write) (rs : List runs.Extent) → maps.AreApart rs
    → AreRunsOf (extents_of_filed fs) rs → AreWritesOf fs ws → AllApart ws
all_writes_apart [] [] rs apart are writes = tt
all_writes_apart [] (v ∷ ws) rs apart are writes = absurd writes
all_writes_apart (g ∷ fs) [] rs apart are writes = absurd writes
all_writes_apart (g ∷ fs) (v ∷ ws) [] apart are writes = absurd are
all_writes_apart (g ∷ fs) (v ∷ ws) (q ∷ rs) apart are writes =
    (apart_from_all g v q fs ws rs are.0 are.1 writes.0 apart.0 are.2 writes.1, all_writes_apart fs ws rs apart.1 are.2 writes.1)

-- ---- extents, the catalog's first

abbrev pub Beside : RecordExtent → RecordExtent → Type 0
Beside e f = (e.block + blocks e.size ≤ f.block) ⊎ (f.block + blocks f.size ≤ e.block)

beside_runs : (e f : RecordExtent) (r q : runs.Extent) → r.block ≡ e.block → r.blocks ≡ blocks e.size → q.block ≡ f.block
    → q.blocks ≡ blocks f.size → IsApart r.block r.blocks q → Beside e f
beside_runs e f r q block size block2 size2 (inl before) =
    inl (subst (λ (n : ℕ). e.block + n ≤ f.block) size (omega (arith, before, block, block2)))
beside_runs e f r q block size block2 size2 (inr behind) =
    inr (subst (λ (n : ℕ). f.block + n ≤ e.block) size2 (omega (arith, behind, block, block2)))

pub beside_turned : (e f : RecordExtent) → Beside e f → Beside f e
beside_turned e f (inl before) = inr before
beside_turned e f (inr behind) = inl behind

or_left : (a b : Bool) → a ≡ true → a || b ≡ true
or_left a b is = search rules

or_right : (a b : Bool) → b ≡ true → a || b ≡ true
or_right a b is = search rules

pub beside_is : (e f : RecordExtent) → Beside e f → are_apart e f ≡ true
beside_is e f (inl before) = or_left _ _ (le-leb _ _ before)
beside_is e f (inr behind) = or_right (nat_le (e.block + blocks e.size) f.block) _ (le-leb _ _ behind)

abbrev pub AllBeside : List RecordExtent → Type 0
AllBeside [] = Unit {0}
AllBeside (e ∷ es) = AllByRecursion (Beside e) es × AllBeside es

beside_all : (e : RecordExtent) (r : runs.Extent) (es : List RecordExtent) (rs : List runs.Extent) → r.block ≡ e.block
    → r.blocks ≡ blocks e.size → IsUnused rs r.block r.blocks → AreRunsOf es rs → AllByRecursion (Beside e) es
beside_all e r [] rs block size free are = tt
beside_all e r (f ∷ es) [] block size free are = absurd are
beside_all e r (f ∷ es) (q ∷ rs) block size free are =
    (beside_runs e f r q block size are.0 are.1 free.0, beside_all e r es rs block size free.1 are.2)

pub all_beside : (es : List RecordExtent) (rs : List runs.Extent) → maps.AreApart rs → AreRunsOf es rs → AllBeside es
all_beside [] rs apart are = tt
all_beside (e ∷ es) [] apart are = absurd are
all_beside (e ∷ es) (r ∷ rs) apart are =
    (beside_all e r es rs are.0 are.1 apart.0 are.2, all_beside es rs apart.1 are.2)

-- what holds of a list and of one after it
last_of : (P : RecordExtent → Type 0) (es : List RecordExtent) (c : RecordExtent) → AllByRecursion P (es ++ c ∷ []) → P c
last_of P [] c all = all.0
last_of P (e ∷ es) c all = last_of P es c all.1

front_of_all : (P : RecordExtent → Type 0) (es : List RecordExtent) (c : RecordExtent) → AllByRecursion P (es ++ c ∷ [])
    → AllByRecursion P es
front_of_all P [] c all = tt
front_of_all P (e ∷ es) c all = (all.0, front_of_all P es c all.1)

pub beside_last : (es : List RecordExtent) (c : RecordExtent) → AllBeside (es ++ c ∷ []) → AllByRecursion (Beside c) es
beside_last [] c all = tt
beside_last (e ∷ es) c all = (beside_turned e c (last_of (Beside e) es c all.0), beside_last es c all.1)

pub beside_front : (es : List RecordExtent) (c : RecordExtent) → AllBeside (es ++ c ∷ []) → AllBeside es
beside_front [] c all = tt
beside_front (e ∷ es) c all = (front_of_all (Beside e) es c all.0, beside_front es c all.1)

apart_from_is : (e : RecordExtent) (es : List RecordExtent) → AllByRecursion (Beside e) es → is_apart_from e es ≡ true
apart_from_is e [] all = refl
apart_from_is e (f ∷ es) all =
    and_from (are_apart e f) (is_apart_from e es) (beside_is e f all.0) (apart_from_is e es all.1)

pub all_apart_is : (es : List RecordExtent) → AllBeside es → all_apart es ≡ true
all_apart_is [] all = refl
all_apart_is (e ∷ es) all =
    and_from (is_apart_from e es) (all_apart es) (apart_from_is e es all.0) (all_apart_is es all.1)

-- where the last of some extents comes first, no two have a block in common either
pub last_first : (es : List RecordExtent) (c : RecordExtent) → AllBeside (es ++ c ∷ []) → all_apart (c ∷ es) ≡ true
last_first es c all = all_apart_is (c ∷ es) (beside_last es c all, beside_front es c all)
