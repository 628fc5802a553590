-- What a keeper knows of its store, over its calls.
use Rattle.std.proofs.Common.{◌≡◌, Option, Some, None, Result, Ok, Err, IfOk, IfNone, OnErr, sym, subst}
use Rattle.std.proofs.Math.Logic.{∥∥₁_elim, ∥∥₁_prop}
use Rattle.std.specs.Coded.{Coded-set}
use Rattle.logbook.specs.Pages.{book_coded}
use Rattle.disk_model.specs.declared.disk.Disk.{Ghosts}
use Rattle.book_lock.specs.Heard.{Heard}
use Rattle.store_flushing.specs.declared.keeper.Keeper.{Keeper}
use Rattle.kept_store.specs.declared.held_store.HeldStore.{HeldStore}

module _ {D : Type 0} {g : Ghosts D} (k : Keeper D g) where
  -- the store is of the reporter's book
  pub of_book : k.reporter.book ≡ k.held.seen_log.book
  of_book = ∥∥₁_elim k.same_book (Coded-set book_coded _ _) (λ same. sym same)

  as_it_was : (same : ∥ k.held.seen_log.book ≡ k.reporter.book ∥₁)
      → record { reporter = k.reporter; held = k.held; notes = k.notes; same_book = same } ≡ k
  as_it_was same = λ i. record { reporter = k.reporter; held = k.held; notes = k.notes; same_book = ∥∥₁_prop same k.same_book i }

  -- a keeper whose reporter and store are as they were is as it was
  pub same_keeper : (reporter : Heard) (held : HeldStore D g) → reporter ≡ k.reporter → held ≡ k.held
      → (same : ∥ held.seen_log.book ≡ reporter.book ∥₁) → record { reporter = reporter; held = held; notes = k.notes; same_book = same } ≡ k
  same_keeper reporter held is too =
      subst (λ (r : Heard). (same : ∥ held.seen_log.book ≡ r.book ∥₁) → record { reporter = r; held = held; notes = k.notes; same_book = same } ≡ k) (sym is)
      (subst (λ (s : HeldStore D g). (same : ∥ s.seen_log.book ≡ k.reporter.book ∥₁) → record { reporter = k.reporter; held = s; notes = k.notes; same_book = same } ≡ k) (sym too)
      as_it_was)

-- what holds where nothing was given follows from what does
pub none_so : {V E A B : Type 0} (result : Result (Option V) E) → (A → B) → IfOk result (λ o. IfNone o A) → IfOk result (λ o. IfNone o B)
none_so (Ok None) so is = so is
none_so (Ok (Some v)) so is = is
none_so (Err e) so is = is

-- what holds where a call was refused follows from what does
pub refused_so : {V E A B : Type 0} (result : Result V E) → (A → B) → OnErr result A → OnErr result B
refused_so (Ok v) so is = is
refused_so (Err e) so is = so is
