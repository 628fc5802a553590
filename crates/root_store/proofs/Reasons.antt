-- Why a commit is not begun.
use Rattle.std.proofs.Common.{◌≡◌, ◌⊎◌, inl, inr, Result, Ok, Err, IfErr, IsErrAnd, sym, ap, subst}
use Rattle.store_terms.specs.declared.root.Root.{Root}
use Rattle.commit_plan.specs.declared.fault.StoreFault.{StoreFault}
use Rattle.commit_plan.specs.declared.fault.StoreFault.TheVariants.{Device, Full, Damaged, NotEmpty, Failed, SequenceLimit, OutOfMemory}
use Rattle.root_store.specs.declared.phase.Phase.{Phase}
use Rattle.root_store.specs.Beginning.{IsRefusal, IsReason}
use Rattle.commit_plan.proofs.Drafts.{error_in}

-- where no commit begins at all, that is the reason
pub refused_so : (phase : Phase) (root : Root) (no_room : Type 0) (fault : StoreFault) → IsRefusal phase root fault
    → IsReason phase root no_room fault
refused_so phase root no_room Device is = absurd is
refused_so phase root no_room Full is = absurd is
refused_so phase root no_room (Damaged damage) is = absurd is
refused_so phase root no_room NotEmpty is = absurd is
refused_so phase root no_room Failed is = is
refused_so phase root no_room SequenceLimit is = is
refused_so phase root no_room OutOfMemory is = absurd is

-- what is said of no room may be said in other words
wider : (phase : Phase) (root : Root) (A B : Type 0) → (A → B) → (fault : StoreFault) → IsReason phase root A fault
    → IsReason phase root B fault
wider phase root A B more Device is = absurd is
wider phase root A B more Full is = more is
wider phase root A B more (Damaged damage) is = absurd is
wider phase root A B more NotEmpty is = absurd is
wider phase root A B more Failed is = is
wider phase root A B more SequenceLimit is = is
wider phase root A B more OutOfMemory is = is

pub reason_of : {T : Type 0} (r : Result T StoreFault) (phase : Phase) (root : Root) (A B : Type 0) → (A → B)
    → IfErr r (IsReason phase root A) → IfErr r (IsReason phase root B)
reason_of (Ok x) phase root A B more is = tt
reason_of (Err fault) phase root A B more is = wider phase root A B more fault is

-- the fault that `?` passes on has what the one that was met has
pub passed_on : {T : Type 0} (P : StoreFault → Type 0) (r : Result T StoreFault) (x : StoreFault)
    → IsErrAnd r (λ y. y ≡ x) → P x → IfErr r P
passed_on P (Ok y) x and is = tt
passed_on P (Err y) x and is = subst P (sym and) is

pub no_room_or_memory : (T : Type 0) (phase : Phase) (root : Root) (no_room : Type 0) (x : StoreFault)
    → (x ≡ Full) ⊎ (x ≡ OutOfMemory) → (error_in T x ≡ error_in T Full → no_room) → IsReason phase root no_room x
no_room_or_memory T phase root no_room x (inl full) why =
    subst (IsReason phase root no_room) (sym full) (why (ap (error_in T) full))
no_room_or_memory T phase root no_room x (inr memory) why = subst (IsReason phase root no_room) (sym memory) tt
