-- For what a store fails, over the calls of its keeper.
use Rattle.std.proofs.Common.{◌≡◌, ◌≤◌, ◌⊎◌, inl, inr, List, Result, Ok, Err, IfErr, true, false, refl, sym, ap, subst, ◌∙◌}
use mathlib.Core.Bool.{false≢true}
use Rattle.disk_model.specs.declared.disk.Disk.{Ghosts}
use Rattle.disk_model.specs.Disk as device
use Rattle.overlay_terms.specs.Histories.{Version, Entry, History}
use Rattle.book_history.specs.Logs.{history_of, newest_in}
use Rattle.book_history.specs.declared.fault.ReportedFault.{ReportedFault}
use Rattle.book_history.specs.declared.fault.ReportedFault.TheVariants as reported
use Rattle.commit_plan.specs.declared.fault.StoreFault.{StoreFault}
use Rattle.commit_plan.specs.declared.fault.StoreFault.TheVariants as faults
use Rattle.root_store.specs.declared.phase.Phase.{Phase}
use Rattle.root_store.specs.declared.phase.Progress.{Progress}
use Rattle.root_store.specs.declared.phase.Phase.TheVariants.{Idle, Close, Settle, Put, Open, Finish, Failed}
use Rattle.root_store.specs.Beginning.{IsReason}
use Rattle.root_store.specs.Running.{FailsByDevice, fault_in, is_busy}
use Rattle.flush_core.specs.Stored.{HasNoRoomFor}
use Rattle.flush_core.specs.declared.flusher.Flusher.{Flusher}
use Rattle.kept_store.specs.Failing.{FailsToWrite, HoldsOfFailed, FailedAt}
use Rattle.kept_store.specs.Storing.{IsFollowed, IsStoreOf, KeepsLimit}
use Rattle.kept_store.specs.ReportedFaults.{reported_fault_of}
use Rattle.kept_store.proofs.Following.{further}
use Rattle.kept_store.proofs.Storage.{fails_twice, rose_after}

-- equal refusals are of one fault
abbrev value_in : {T E : Type 0} → E → Result T E → E
value_in other (Ok value) = other
value_in other (Err fault) = fault

pub err_is : {T E : Type 0} (r : Result T E) (a b : E) → r ≡ Err a → r ≡ Err b → a ≡ b
err_is r a b is too = ap (value_in a) (sym is ∙ too)

-- what holds of a refusal
pub on_err : {T E : Type 0} (P : E → Type 0) (r : Result T E) (fault : E) → r ≡ Err fault → IfErr r P → P fault
on_err P r fault is holds = subst (λ (r : Result _ _). IfErr r P) is holds

-- no commit is under way, and the device did not fail
idle_of : (p : Phase) → is_busy p ≡ false → (p ≡ Failed → ⊥) → p ≡ Idle
idle_of Idle rests sound = refl
idle_of Close rests sound = absurd (false≢true (sym rests))
idle_of Settle rests sound = absurd (false≢true (sym rests))
idle_of Put rests sound = absurd (false≢true (sym rests))
idle_of Open rests sound = absurd (false≢true (sym rests))
idle_of Finish rests sound = absurd (false≢true (sym rests))
idle_of Failed rests sound = absurd (sound refl)

-- a step answers the device's fault, or that it failed before
two_faults : (p : Phase) → (fault_in p ≡ faults.Device) ⊎ (fault_in p ≡ faults.Failed)
two_faults Idle = inl refl
two_faults Close = inl refl
two_faults Settle = inl refl
two_faults Put = inl refl
two_faults Open = inl refl
two_faults Finish = inl refl
two_faults Failed = inr refl

module _ {D : Type 0} (g : Ghosts D) where
  -- a commit that is not begun
  pub refused_fails : (s : Flusher D g) (v : Version) (fault : StoreFault) → is_busy s.commit.phase ≡ false → (s.commit.phase ≡ Failed → fault ≡ faults.Failed)
      → IsReason s.commit.phase s.commit.root (HasNoRoomFor s.commit v) fault → FailsToWrite s s v (reported_fault_of fault)
  refused_fails s v faults.Device rests only is = absurd is
  refused_fails s v faults.Full rests only is = (idle_of s.commit.phase rests (λ at. absurd (cc (only at))), is)
  refused_fails s v (faults.Damaged damage) rests only is = absurd is
  refused_fails s v faults.NotEmpty rests only is = absurd is
  refused_fails s v faults.Failed rests only is = is
  refused_fails s v faults.SequenceLimit rests only is = (idle_of s.commit.phase rests is.0, is.1)
  refused_fails s v faults.OutOfMemory rests only is = tt

  -- a device call that fails
  pub step_fails : (s t : Flusher D g) (v : Version) (fault : StoreFault) → t.commit.phase ≡ Failed
      → (fault ≡ faults.Failed) ⊎ ((fault ≡ faults.Device) × device.Failed (g.faults s.commit.disk) (g.faults t.commit.disk)) → FailsToWrite s t v (reported_fault_of fault)
  step_fails s t v fault failed (inl before) = subst (λ (f : StoreFault). FailsToWrite s t v (reported_fault_of f)) (sym before) failed
  step_fails s t v fault failed (inr (device, rose)) = subst (λ (f : StoreFault). FailsToWrite s t v (reported_fault_of f)) (sym device) rose

  by_phase : (s t : Flusher D g) (fault : StoreFault) → fault ≡ fault_in s.commit.phase → (fault ≡ faults.Device → device.Failed (g.faults s.commit.disk) (g.faults t.commit.disk))
      → (fault_in s.commit.phase ≡ faults.Device) ⊎ (fault_in s.commit.phase ≡ faults.Failed)
      → (fault ≡ faults.Failed) ⊎ ((fault ≡ faults.Device) × device.Failed (g.faults s.commit.disk) (g.faults t.commit.disk))
  by_phase s t fault is cause (inl device) = inr (is ∙ device, cause (is ∙ device))
  by_phase s t fault is cause (inr before) = inl (is ∙ before)

  -- why it fails
  pub step_cause : (s t : Flusher D g) (r : Result Progress StoreFault) → IfErr r (λ fault. fault ≡ fault_in s.commit.phase)
      → (r ≡ Err faults.Device → device.Failed (g.faults s.commit.disk) (g.faults t.commit.disk))
      → IfErr r (λ fault. (fault ≡ faults.Failed) ⊎ ((fault ≡ faults.Device) × device.Failed (g.faults s.commit.disk) (g.faults t.commit.disk)))
  step_cause s t (Ok progress) is cause = tt
  step_cause s t (Err fault) is cause = by_phase s t fault is (λ e. cause (ap Err e)) (two_faults s.commit.phase)

  -- since an earlier time
  pub fails_since : (s t u : Flusher D g) (v : Version) (fault : ReportedFault) → g.faults s.commit.disk ≤ g.faults t.commit.disk → FailsToWrite t u v fault → FailsToWrite s u v fault
  fails_since s t u v reported.Device before is = rose_after g (g.faults s.commit.disk) (g.faults t.commit.disk) (g.faults u.commit.disk) before is
  fails_since s t u v reported.Full before is = is
  fails_since s t u v reported.Failed before is = is
  fails_since s t u v reported.SequenceLimit before is = is
  fails_since s t u v reported.OutOfMemory before is = is

  -- how a store came to be: it was followed, failed by its device alone, and its file may have as many blocks
  abbrev pub CameBy : History → Flusher D g → History → Flusher D g → Type 0
  CameBy was s now t = IsFollowed g was s now t × FailsByDevice g s.commit t.commit × KeepsLimit s t

  pub failed_then : (was now : History) (s t : Flusher D g) (log : List Entry) (fault : ReportedFault) → CameBy was s now t → FailedAt g now t log fault → FailedAt g was s log fault
  failed_then was now s t log fault (first, by, limit) is = record {
    store = is.store;
    followed = further g was now (history_of log) s t is.store first is.followed;
    by_device = fails_twice g s.commit t.commit is.store.commit by is.by_device;
    blocks = λ n so. is.blocks n (limit n so);
    fails = fails_since s t is.store (newest_in log) fault by.no_less is.fails;
  }

  -- what holds of all for which a store fails holds of that from a later moment on
  pub failed_on : (failed : List Entry → ReportedFault → Type 0) (was now : History) (s t : Flusher D g) → (IsStoreOf g was s → CameBy was s now t)
      → HoldsOfFailed g failed was s → HoldsOfFailed g failed now t
  failed_on failed was now s t so_far all log fault on =
      all log fault (λ is. let came : CameBy was s now t = so_far is in failed_then was now s t log fault came (on came.0.store))
