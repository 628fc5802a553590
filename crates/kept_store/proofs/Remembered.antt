-- What is remembered of a store's roots, over its calls.
use Rattle.std.proofs.Common.{◌≡◌, sym, subst}
use Rattle.std.proofs.Math.Logic.{∥∥₁_prop}
use Rattle.disk_model.specs.declared.disk.Disk.{Ghosts}
use Rattle.commit_plan.specs.Live.{live_content}
use Rattle.flush_core.specs.declared.flusher.Flusher.{Flusher}
use Rattle.kept_store.specs.Since.{IsRemembered}
use Rattle.kept_store.specs.declared.held_store.HeldStore.{HeldStore}

module _ {D : Type 0} {g : Ghosts D} (h : HeldStore D g) where
  -- two proofs of what is remembered are one
  store_as_it_was : (live : ∥ IsRemembered h.seen_log.book (live_content h.flusher.commit.live) h.live ∥₁)
      (next : ∥ IsRemembered h.seen_log.book (live_content h.flusher.commit.next_live) h.next ∥₁)
      → record {
        flusher = h.flusher;
        seen_log = h.seen_log;
        live = h.live;
        next = h.next;
        live_tiles = live;
        next_tiles = next;
      } ≡ h
  store_as_it_was live next = λ i. record {
    flusher = h.flusher;
    seen_log = h.seen_log;
    live = h.live;
    next = h.next;
    live_tiles = ∥∥₁_prop live h.live_tiles i;
    next_tiles = ∥∥₁_prop next h.next_tiles i;
  }

  -- a held store whose flusher is as it was is as it was
  pub same_store : (flusher : Flusher D g) → flusher ≡ h.flusher
      → (live : ∥ IsRemembered h.seen_log.book (live_content flusher.commit.live) h.live ∥₁)
      (next : ∥ IsRemembered h.seen_log.book (live_content flusher.commit.next_live) h.next ∥₁)
      → record {
        flusher = flusher;
        seen_log = h.seen_log;
        live = h.live;
        next = h.next;
        live_tiles = live;
        next_tiles = next;
      } ≡ h
  same_store flusher is =
      subst (λ (f : Flusher D g). (live : ∥ IsRemembered h.seen_log.book (live_content f.commit.live) h.live ∥₁)
      (next : ∥ IsRemembered h.seen_log.book (live_content f.commit.next_live) h.next ∥₁)
      → record { flusher = f; seen_log = h.seen_log; live = h.live; next = h.next; live_tiles = live; next_tiles = next } ≡ h) (sym is)
      store_as_it_was
