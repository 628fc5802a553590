-- What opening knows once all is read, and what it leaves.
use Rattle.std.proofs.Common.{◌≡◌, inl, inr, ⊎_elim, arith, ℕ, ◌+◌, ◌<◌, ◌≤◌, Bool, true, false, List, Result, Ok, Err, refl, sym, ◌∙◌, ap, subst}
use Rattle.std.specs.Prelude.{IsErrAnd}
use Rattle.std.proofs.lemmas.Result.{err_from_is_err_and}
use Rattle.disk_model.specs.declared.disk.Disk.{Ghosts}
use Rattle.disk_model.specs.Disk.{Torn, Only}
use Rattle.disk_model.specs.Moments.{Leaves, LeavesOnly}
use Rattle.disk_model.proofs.Runs.{joined, widened}
use Rattle.store_terms.specs.declared.damage.Damage.{Damage}
use Rattle.store_terms.specs.declared.root.Root.{Root}
use Rattle.store_terms.specs.Roots.{body_size, sequence_max}
use Rattle.store_terms.specs.Image.{◌>>=◌, Held, held_of}
use Rattle.store_terms.specs.StandsFor.{root_of, reading, body_at}
use Rattle.root_store.specs.Finding.{has_shut_gate}
use Rattle.root_reading.specs.declared.load_fault.LoadFault.{LoadFault}
use Rattle.commit_plan.specs.declared.loaded.Loaded.{Loaded}
use Rattle.commit_plan.specs.Kept.{Kept, other, Live, Rest, Shut, Calm}
use Rattle.commit_plan.specs.Loaded.{held_in, kept_in}
use Rattle.root_reading.specs.Looking.{Looks, Refuses, Causes}
use Rattle.commit_plan.specs.Fault.{store_fault_of}
use Rattle.root_store.specs.Opening.{IsRead, Opened, Loads, IsSettled, InPhases, Stops, StandsStill, OpeningWrites, IsCompleted, Completes, Tells, FailedBy}
use Rattle.root_store.specs.Healing.{HoldsTwin, Heals}
use Rattle.commit_plan.specs.declared.fault.StoreFault.{StoreFault}
use Rattle.commit_plan.specs.declared.fault.StoreFault.TheVariants as stores
use Rattle.root_reading.specs.declared.load_fault.LoadFault.TheVariants.{Device, Damaged, OutOfMemory}
use Rattle.commit_plan.proofs.Reading.{shut_stands}
use Rattle.root_store.proofs.Healed.{taken_is_live}
use Rattle.root_store.proofs.Steps.{leaves_synced}
use Rattle.root_store.proofs.TakenLemmas.{root_found, other_shut, other_open, other_harmless}

-- what opening gives of a file with a root
pub reading_root : (file : List ℕ) (r : Root) → root_of file ≡ Ok r → reading file ≡ held_of file r
reading_root file r root = ap (λ (x : Result Root Damage). x >>= λ q. held_of file q) root

module _ {D : Type 0} (g : Ghosts D) (old mid : D) (x : Loaded) (is_shut : Bool)
    (was : Looks g old mid) (read : IsRead g old mid x is_shut)
    (reads : reading (g.seen old) ≡ Ok (held_in x)) where
  kept : Kept
  kept = kept_in x

  live : Live (kept_in x) (g.seen old)
  live = taken_is_live (g.seen old) (kept_in x) (root_found (g.seen old) x.root read.root).taken read.listing
      (sym (reading_root (g.seen old) x.root read.root) ∙ reads)

  opened : LeavesOnly g old mid (Opened g old)
  opened = widened g old mid (g.may_leave old) (Opened g old) (λ c left. inl left) was.run

  shut : is_shut ≡ true → Shut (kept_in x) (g.seen old)
  shut alone = record {
    live = live;
    closed =
        other_shut (g.seen old) x.root (root_found (g.seen old) x.root read.root).taken (sym read.shut_gate ∙ alone);
  }

  pub shuts : is_shut ≡ true → Leaves g mid (Shut (kept_in x))
  shuts alone = leaves_synced g mid (g.seen old) (Shut (kept_in x)) read.only (shut alone)

  -- no gate is shut
  pub both_loads : is_shut ≡ false → Loads g old mid (Ok x)
  both_loads alone =
      let rest : Rest (kept_in x) (g.seen old) =
      record {
        live = live;
        harmless =
            other_harmless (g.seen old) x.root (root_found (g.seen old) x.root read.root) (sym read.shut_gate ∙ alone);
      } in
      record {
        honest = was.honest;
        gives = reads;
        run = opened;
        ok = (
          read.room,
          leaves_synced g mid (g.seen old)
              (Calm (kept_in x)) read.only (inl rest),
        );
        err = tt;
      }

  -- the last sequence
  pub last_loads : is_shut ≡ true → sequence_max ≤ x.root.sequence → Loads g old mid (Ok x)
  last_loads alone last = record {
    honest = was.honest;
    gives = reads;
    run = opened;
    ok = (
      read.room,
      leaves_synced g mid (g.seen old)
          (Calm (kept_in x)) read.only (inr (shut alone, last)),
    );
    err = tt;
  }

  same_stands : (f : List ℕ) → Shut (kept_in x) f → Opened g old f
  same_stands f is = inr (shut_stands (kept_in x) f is ∙ sym reads)

  module _ (new : D) (result : Result (Unit {0}) LoadFault)
      (heals : Heals g mid new result (kept_in x)) where
    whole : LeavesOnly g old new (Opened g old)
    whole = joined g old mid new (Opened g old)
        (Shut (kept_in x)) same_stands opened heals.run

    -- the body is made whole
    pub healed_loads : Leaves g new (Rest (kept_in x)) → Loads g old new (Ok x)
    healed_loads rest = record {
      honest = heals.honest;
      gives = reads;
      run = whole;
      ok = (read.room, λ f left. inl (rest f left));
      err = tt;
    }

    -- or the device failed
    pub failed_loads : (fault : LoadFault) → Refuses fault (reading (g.seen old)) → Leaves g new (Shut (kept_in x))
        → Loads g old new (Err fault)
    failed_loads fault refuses still = record {
      honest = heals.honest;
      gives = refuses;
      run = whole;
      ok = tt;
      err = λ f left. same_stands f (still f left);
    }

-- a file of which one gate is shut, once the body behind it is written
pub body_writes : (file now new : List ℕ) (r : Root) → root_of file ≡ Ok r → has_shut_gate file ≡ true → now ≡ file
    → r.sequence < sequence_max → Torn (body_at (other r)) body_size now new → OpeningWrites file new
body_writes file now new r is alone same below torn =
    inr
    (record {
      root = r;
      is = is;
      shut = other_shut file r (root_found file r is).taken alone;
      below = below;
      torn = subst (λ (f : List ℕ). Torn (body_at (other r)) body_size f new) same torn;
    })

-- a run of which two things are known
pub both_left : {D : Type 0} (g : Ghosts D) (old new : D) (P Q : List ℕ → Type 0) → LeavesOnly g old new P
    → LeavesOnly g old new Q → LeavesOnly g old new (λ file. P file × Q file)
both_left g old new P Q one two = record {
  later = one.later;
  each = λ c left. (one.each c left, two.each c left);
  before = λ t c le left. ⊎_elim (λ was. inl was)
      (λ p. ⊎_elim (λ was. inl was) (λ q. inr (p, q)) (two.before t c le left)) (one.before t c le left);
}

-- after the first sync all is only read
pub only_read : {D : Type 0} (g : Ghosts D) (old mid new : D) → Looks g old mid → g.calls mid ≡ g.calls old + 1
    → Only (g.seen old) (g.may_leave mid) → Looks g mid new → IsSettled g old new
only_read g old mid new first one only rest = record {
  synced = mid;
  first = one;
  before = first.run;
  only = only;
  seen = rest.seen ∙ first.seen;
  after = widened g mid new (g.may_leave mid) (λ file. file ≡ g.seen old) only rest.run;
}

-- what was seen stands for itself
still_read : {D : Type 0} (g : Ghosts D) (old new : D) (settled : IsSettled g old new)
    → LeavesOnly g settled.synced new (StandsStill (g.seen old))
still_read g old new settled =
    widened g settled.synced new (λ file. file ≡ g.seen old) (StandsStill (g.seen old))
    (λ c same. (ap reading same, inl same)) settled.after

-- so it may end
pub phases_read : {D : Type 0} (g : Ghosts D) (old new : D) → IsSettled g old new → InPhases g old new
phases_read g old new settled = record {
  read = new;
  settled = settled;
  last = omega arith;
  after = still_read g old new settled;
}

-- and then a body is made whole
pub phases_healed : {D : Type 0} (g : Ghosts D) (old mid new : D) (x : Kept)
    → reading (g.seen old) ≡ Ok x.held → root_of (g.seen old) ≡ Ok x.root → has_shut_gate (g.seen old) ≡ true
    → x.root.sequence < sequence_max → IsSettled g old mid → g.calls new ≤ g.calls mid + 2
    → LeavesOnly g mid new (Shut x) → LeavesOnly g mid new (Torn (body_at (other x.root)) body_size (g.seen old))
    → InPhases g old new
phases_healed g old mid new x reads root alone below settled few run elsewhere = record {
  read = mid;
  settled = settled;
  last = few;
  after = joined g settled.synced mid new (StandsStill (g.seen old))
      (λ file. Shut x file × Torn (body_at (other x.root)) body_size (g.seen old) file)
      (λ c made. (
        shut_stands x c made.0 ∙ sym reads,
        body_writes (g.seen old) (g.seen old) c x.root root alone refl below made.1,
      ))
      (still_read g old mid settled) (both_left g mid new (Shut x) (Torn (body_at (other x.root)) body_size (g.seen old)) run elsewhere);
}

-- why opening ended early, as the store reports it
pub stops_reported : {D : Type 0} (g : Ghosts D) (old new : D) (fault : LoadFault) (reported : StoreFault)
    → reported ≡ store_fault_of fault → Stops g old (fault ≡ Device) new → Stops g old (reported ≡ stores.Device) new
stops_reported g old new fault reported is (inl (failed, one, run)) = inl (is ∙ ap store_fault_of failed, one, run)
stops_reported g old new fault reported is (inr phases) = inr phases

-- the body that opening leaves in the other slot, in each of its ends
module _ {D : Type 0} (g : Ghosts D) (new : D) (file : List ℕ) (r : Root) (is : root_of file ≡ Ok r) where
  pub none_completed : has_shut_gate file ≡ false → Leaves g new (IsCompleted file)
  none_completed alone c left = record { root = r; is = is; twin = inl (other_open file r alone) }

  pub last_completed : sequence_max ≤ r.sequence → Leaves g new (IsCompleted file)
  last_completed last c left = record { root = r; is = is; twin = inr (inl last) }

  pub twin_completed : Leaves g new (HoldsTwin r) → Leaves g new (IsCompleted file)
  twin_completed put c left = record { root = r; is = is; twin = inr (inr (put c left)) }

-- where nothing is to be completed
pub none_completes : {D : Type 0} (g : Ghosts D) (old new : D) → has_shut_gate (g.seen old) ≡ false
    → Completes g old new
none_completes g old new none to = absurd (to.shut (other_open (g.seen old) to.root none))

pub last_completes : {D : Type 0} (g : Ghosts D) (old new : D) (r : Root) → root_of (g.seen old) ≡ Ok r
    → sequence_max ≤ r.sequence → Completes g old new
last_completes g old new r is last to =
    let same : to.root ≡ r = cc (to.is, is) in
    absurd (omega (arith, last, to.below, ap (λ (q : Root). q.sequence) same))

-- the exit of a `?`
pub at_err : {X : Type 0} (P : Result X LoadFault → Type 0) (answer : Result X LoadFault) (fault : LoadFault)
    → IsErrAnd answer (λ e. e ≡ fault) → P (Err fault) → P answer
at_err P answer fault is holds =
    let p = err_from_is_err_and answer is in subst P (sym (p.1 ∙ ap Err p.2)) holds

-- a fault of another call, after calls that did not fail
pub causes_from : (X : Type 0) (fault : LoadFault) (old mid new : ℕ) → mid ≡ old → Causes {X = X} (Err fault) mid new
    → Causes {X = Loaded} (Err fault) old new
causes_from X Device old mid new same causes =
    subst (λ (n : ℕ). Causes {X = Loaded} (Err Device) n new) same causes
causes_from X OutOfMemory old mid new same causes = causes ∙ same
causes_from X (Damaged damage) old mid new same causes = causes ∙ same

-- want of memory, as the store reports it
pub memory_of : (fault : LoadFault) → store_fault_of fault ≡ stores.OutOfMemory → fault ≡ OutOfMemory
memory_of Device is = absurd (cc is)
memory_of OutOfMemory is = refl
memory_of (Damaged damage) is = absurd (cc is)

-- nothing is read
pub unread_loads : {D : Type 0} (g : Ghosts D) (old new : D) (fault : LoadFault) → Refuses fault (reading (g.seen old))
    → Looks g old new → Loads g old new (Err fault)
unread_loads g old new fault refuses was = record {
  honest = was.honest;
  gives = refuses;
  run = widened g old new (g.may_leave old) (Opened g old) (λ c left. inl left) was.run;
  ok = tt;
  err = λ c left. inl (was.fewer c left);
}

-- a fault, as the store reports it
pub tells_of : (fault : LoadFault) (reported : StoreFault) (read : Result Held Damage) → reported ≡ store_fault_of fault
    → Refuses fault read → Tells reported read
tells_of fault reported read is refuses = subst (λ (f : StoreFault). Tells f read) (sym is) (by_case fault read refuses)
  where
    by_case : (fault : LoadFault) (read : Result Held Damage) → Refuses fault read → Tells (store_fault_of fault) read
    by_case Device read refuses = tt
    by_case OutOfMemory read refuses = tt
    by_case (Damaged damage) read refuses = refuses

pub failed_of : (fault : LoadFault) (reported : StoreFault) (old new : ℕ) → reported ≡ store_fault_of fault
    → Causes {X = Loaded} (Err fault) old new → FailedBy reported old new
failed_of fault reported old new is causes = subst (λ (f : StoreFault). FailedBy f old new) (sym is) (by_case fault causes)
  where
    by_case : (fault : LoadFault) → Causes {X = Loaded} (Err fault) old new → FailedBy (store_fault_of fault) old new
    by_case Device causes = causes
    by_case OutOfMemory causes = causes
    by_case (Damaged damage) causes = causes
