-- How a store is made: the write of its three blocks, the sync, and the gate that opens.
use Rattle.std.proofs.Common.{arith, ◌≡◌, ℕ, List, length, Result, Ok, Err, refl, subst}
use Rattle.std.specs.Prelude.{OnOk}
use Rattle.disk_model.specs.declared.disk.Disk.{Ghosts}
use Rattle.disk_model.specs.Disk.{Torn, OneStepOn, Fewer, Only}
use Rattle.disk_model.specs.Moments.{Leaves, LeavesOnly}
use Rattle.disk_model.proofs.Runs.{goes_on, joined}
use Rattle.commit_plan.specs.Kept.{Rest}
use Rattle.root_store.specs.Creating.{nothing_kept, Begun, IsBlank, IsFirstWrite, IsNewFile, MadeInPhases}
use Rattle.root_store.specs.HonestSteps.{IsMade}
use Rattle.root_store.proofs.Blank.{blank_kept}
use Rattle.root_store.proofs.Steps.{Now, Passes, one_call, leaves_torn, leaves_synced}

-- a write that changes nothing
torn_nothing : (file : List ℕ) → Torn 0 12288 file file
torn_nothing file = record {
  no_shorter = omega arith;
  no_longer = omega arith;
  below = λ i h at. refl;
  above = λ i h at. refl;
}

module _ {D : Type 0} (g : Ghosts D) where
  begun_before : (old : D) → Leaves g old (Begun g old)
  begun_before old c left = (c, left, torn_nothing c)

  -- the write of the three blocks and the sync after it
  pub begins : (old mid new : D) (bytes : List ℕ) → length bytes ≡ 12288 → Now g old → Passes g old mid
      → OneStepOn (Torn 0 (length bytes)) (g.may_leave old) (g.may_leave mid) → Passes g mid new
      → Fewer (g.may_leave mid) (g.may_leave new) → LeavesOnly g old new (Begun g old)
  begins old mid new bytes size now time crash later fewer =
      let torn : Leaves g mid (Begun g old) =
      λ c left. let from = crash c left in
      (from.0, from.1, subst (λ (n : ℕ). Torn 0 n from.0 c) size from.2) in
      goes_on g old mid new (Begun g old) (one_call g old mid (Begun g old) now (begun_before old) time torn) later
      (λ c left. torn c (fewer c left))

  -- the gate and the last sync
  pub opens : (old mid new : D) → Leaves g old IsFirstWrite → Now g old → Passes g old mid
      → OneStepOn (Torn 0 1) (g.may_leave old) (g.may_leave mid) → Passes g mid new
      → Fewer (g.may_leave mid) (g.may_leave new) → LeavesOnly g old new IsBlank
  opens old mid new first now time crash later fewer =
      let blank : Leaves g old IsBlank = λ c left. (first c left).blank in
      let kept : Leaves g mid IsBlank = leaves_torn g old mid IsBlank 0 1 blank crash blank_kept in
      goes_on g old mid new IsBlank (one_call g old mid IsBlank now blank time kept) later
      (λ c left. kept c (fewer c left))

  -- a call before, which looked at the disk alone
  pub made_on : (old mid new : D) → Now g old → Passes g old mid → Fewer (g.may_leave old) (g.may_leave mid)
      → MadeInPhases g mid new → MadeInPhases g old new
  made_on old mid new now time fewer made =
      let looked : LeavesOnly g old mid (Begun g old) =
      one_call g old mid (Begun g old) now (begun_before old) time (λ c left. begun_before old c (fewer c left)) in
      record {
        synced = made.synced;
        before = joined g old mid made.synced (Begun g old) (Begun g mid) (λ c from. (from.0, fewer from.0 from.1, from.2))
            looked made.before;
        first = made.first;
        after = made.after;
      }

  -- the last sync, which makes what was seen stay
  pub made_in : {T E : Type 0} (old new : D) (file : List ℕ) (result : Result T E)
      → OnOk result (Only file (g.may_leave new)) → Rest nothing_kept file → IsNewFile file → MadeInPhases g old new
      → OnOk result (IsMade g old new)
  made_in old new file (Ok x) only rest is phases = record {
    ready = leaves_synced g new file (Rest nothing_kept) only rest;
    file = leaves_synced g new file IsNewFile only is;
    phases = phases;
  }
  made_in old new file (Err e) only rest is phases = tt
