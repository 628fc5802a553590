-- How a run of device calls goes on.
use Rattle.std.proofs.Common.{inl, inr, ⊎_elim, ℕ, List, arith}
use Rattle.disk_model.specs.declared.disk.Disk.{Ghosts}
use Rattle.disk_model.specs.Disk.{Elapses}
use Rattle.disk_model.specs.Moments.{Leaves, LeavesOnly}

module _ {D : Type 0} (g : Ghosts D) where
  -- before the first call
  pub started : (old : D) (P : List ℕ → Type 0) → ((c : List ℕ) → g.left_since old (g.moment old) c → P c) → LeavesOnly g old old P
  started old P here = record { later = omega arith; each = here; before = λ t c le left. inl left }

  -- one call more, after which a crash leaves what has P
  pub goes_on : (old mid new : D) (P : List ℕ → Type 0) → LeavesOnly g old mid P
      → Elapses (g.moment mid) (g.moment new) (g.left_since mid) (g.left_since new) (g.may_leave new) → Leaves g new P → LeavesOnly g old new P
  goes_on old mid new P so_far time here = record {
    later = omega (arith, so_far.later, time.later);
    each = λ c left. ⊎_elim (so_far.each c) (here c) (time.nothing_else (g.moment old) c so_far.later left);
    before = λ t c le left. ⊎_elim (so_far.before t c le) (λ now. inr (here c now)) (time.nothing_else t c (omega (arith, le, so_far.later)) left);
  }

  -- two runs, one after the other
  pub joined : (old mid new : D) (P Q : List ℕ → Type 0) → ((c : List ℕ) → Q c → P c) → LeavesOnly g old mid P → LeavesOnly g mid new Q → LeavesOnly g old new P
  joined old mid new P Q wider first second = record {
    later = omega (arith, first.later, second.later);
    each = λ c left. ⊎_elim (first.each c) (wider c) (second.before (g.moment old) c first.later left);
    before = λ t c le left. ⊎_elim (first.before t c le) (λ q. inr (wider c q)) (second.before t c (omega (arith, le, first.later)) left);
  }

  pub widened : (old new : D) (P Q : List ℕ → Type 0) → ((c : List ℕ) → P c → Q c) → LeavesOnly g old new P → LeavesOnly g old new Q
  widened old new P Q wider run = record {
    later = run.later;
    each = λ c left. wider c (run.each c left);
    before = λ t c le left. ⊎_elim (λ was. inl was) (λ p. inr (wider c p)) (run.before t c le left);
  }
