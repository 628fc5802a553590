-- The completing write, call by call.
use Rattle.std.proofs.Common.{◌≡◌, ℕ, ◌^◌, ◌<◌, List, length, Result, Ok, Err, refl, sym, ◌∙◌, ap, subst}
use Rattle.std.specs.Prelude.{IsErr}
use Rattle.disk_model.specs.declared.disk.Disk.{Ghosts}
use Rattle.disk_model.specs.Disk.{Holds, Torn, OneStepOn, Fewer, Only}
use Rattle.disk_model.specs.Moments.{Leaves, LeavesOnly}
use Rattle.disk_model.proofs.Runs.{goes_on}
use Rattle.store_terms.specs.declared.root.Root.{Root}
use Rattle.store_terms.specs.Roots.{body_size, body_text, sequence_max}
use Rattle.store_terms.specs.StandsFor.{body_at}
use Rattle.root_reading.specs.declared.load_fault.LoadFault.{LoadFault}
use Rattle.commit_plan.specs.Kept.{Kept, other, Rest, Shut}
use Rattle.root_store.specs.Healing.{twin, HoldsTwin, Heals}
use Rattle.root_store.proofs.Healed.{twin_heals}
use Rattle.commit_plan.proofs.Plan.{body_spares}
use Rattle.root_store.proofs.Steps.{Now, Passes, one_call, leaves_torn, leaves_fewer}
use Rattle.root_store.proofs.WritingLemmas.{torn_same}

-- calls that write nothing but a body in the slot that the root is not in, whole or in part, whatever its bytes
pub record WroteBody {D : Type 0} (g : Ghosts D) (r : Root) (old new : D) : Type 0 where
  pub torn : Torn (body_at (other r)) body_size (g.seen old) (g.seen new)
  -- of a file that is all on the disk, what a crash leaves
  pub left : (file : List ℕ) → Only file (g.may_leave old) → Leaves g new (Torn (body_at (other r)) body_size file)
  pub run : (file : List ℕ) → Only file (g.may_leave old) → LeavesOnly g old new (Torn (body_at (other r)) body_size file)
  -- of a file whose other gate is shut
  pub shut : (x : Kept) → x.root ≡ r → Leaves g old (Shut x) → Leaves g new (Shut x)
  pub stays : (x : Kept) → x.root ≡ r → Leaves g old (Shut x) → LeavesOnly g old new (Shut x)

-- a write of the body
pub body_written : {D : Type 0} (g : Ghosts D) (r : Root) (old new : D) (at : ℕ) (bytes : List ℕ) → at ≡ body_at (other r)
    → length bytes ≡ 48 → Now g old → Passes g old new → Torn at (length bytes) (g.seen old) (g.seen new)
    → OneStepOn (Torn at (length bytes)) (g.may_leave old) (g.may_leave new) → WroteBody g r old new
body_written g r old new at bytes there long now time others follows = record {
  torn = here r refl (g.seen old) (g.seen new) others;
  left = left;
  run = λ file only.
      one_call g old new (Torn (body_at (other r)) body_size file) now
      (λ c may. subst (λ (f : List ℕ). Torn (body_at (other r)) body_size file f) (sym (only c may))
      (torn_same (body_at (other r)) body_size file)) time (left file only);
  shut = shut;
  stays = λ x is all. one_call g old new (Shut x) now all time (shut x is all);
}
  where
    here : (q : Root) → q ≡ r → (c d : List ℕ) → Torn at (length bytes) c d → Torn (body_at (other q)) body_size c d
    here q is c d torn =
        subst (λ (a : ℕ). Torn a 48 c d) (there ∙ ap (λ (r : Root). body_at (other r)) (sym is))
        (subst (λ (n : ℕ). Torn at n c d) long torn)

    left : (file : List ℕ) → Only file (g.may_leave old) → Leaves g new (Torn (body_at (other r)) body_size file)
    left file only c may =
        let from = follows c may in
        subst (λ (f : List ℕ). Torn (body_at (other r)) body_size f c) (only from.0 from.1) (here r refl from.0 c from.2)

    shut : (x : Kept) → x.root ≡ r → Leaves g old (Shut x) → Leaves g new (Shut x)
    shut x is all =
        leaves_torn g old new (Shut x) at (length bytes) all follows
        (λ c d shut torn. body_spares x c d shut (here x.root is c d torn))

-- and a sync after it
pub body_synced : {D : Type 0} (g : Ghosts D) (r : Root) (old mid new : D) → WroteBody g r old mid → Passes g mid new
    → g.seen new ≡ g.seen mid → Fewer (g.may_leave mid) (g.may_leave new) → WroteBody g r old new
body_synced g r old mid new put time seen fewer = record {
  torn = subst (λ (f : List ℕ). Torn (body_at (other r)) body_size (g.seen old) f) (sym seen) put.torn;
  left = left;
  run = λ file only. goes_on g old mid new (Torn (body_at (other r)) body_size file) (put.run file only) time (left file only);
  shut = shut;
  stays = λ x is all. goes_on g old mid new (Shut x) (put.stays x is all) time (shut x is all);
}
  where
    left : (file : List ℕ) → Only file (g.may_leave old) → Leaves g new (Torn (body_at (other r)) body_size file)
    left file only = leaves_fewer g mid new (Torn (body_at (other r)) body_size file) (put.left file only) fewer

    shut : (x : Kept) → x.root ≡ r → Leaves g old (Shut x) → Leaves g new (Shut x)
    shut x is all = leaves_fewer g mid new (Shut x) (put.shut x is all) fewer

-- put whole, the twin's body is there
pub holds_twin : (x : Kept) (r : Root) (at : ℕ) (bytes : List ℕ) → x.root ≡ r → at ≡ body_at (other r)
    → bytes ≡ body_text (twin r) → (d : List ℕ) → Holds d at bytes → HoldsTwin x.root d
holds_twin x r at bytes is there text d holds =
    subst (λ (q : Root). HoldsTwin q d) (sym is)
    (subst (λ (a : ℕ). Holds d a (body_text (twin r))) there (subst (λ (bs : List ℕ). Holds d at bs) text holds))

-- put whole, that body does no harm
pub at_rest : (x : Kept) (r : Root) → x.root ≡ r → r.sequence < sequence_max → r.catalog.block < 2 ^ 64
    → r.catalog.size < 2 ^ 32 → (c d : List ℕ) → Shut x c → Torn (body_at (other r)) body_size c d → HoldsTwin x.root d → Rest x d
at_rest x r is below low small c d shut torn holds =
    twin_heals x c d (subst (λ (q : Root). q.sequence < sequence_max) (sym is) below)
    (subst (λ (q : Root). q.catalog.block < 2 ^ 64) (sym is) low)
    (subst (λ (q : Root). q.catalog.size < 2 ^ 32) (sym is) small) shut
    (subst (λ (q : Root). Torn (body_at (other q)) body_size c d) (sym is) torn) holds

-- the device failed
pub not_healed : {D : Type 0} (g : Ghosts D) (r : Root) (old new : D) (result : Result (Unit {0}) LoadFault)
    → IsErr result → g.is_honest new → WroteBody g r old new
    → (x : Kept) → x.root ≡ r → Leaves g old (Shut x) → Heals g old new result x
not_healed g r old new (Ok u) failed honest put x is all = absurd (cc failed)
not_healed g r old new (Err e) failed honest put x is all =
    record { honest = honest; run = put.stays x is all; ok = tt; twin = tt; err = put.shut x is all }
