-- A step that only adds to the published log keeps the rule.
use Rattle.std.proofs.Common.{◌≡◌, ℕ, ◌<◌, ◌≢◌, List, [], ◌∷◌, length, set, fold, refl, ap, sym, ◌∙◌, subst, ⊎_elim, arith}
use mathlib.Core.Option.{some}
use lib.ListN.{get_elem?}
use Rattle.crossbeam_utils.specs.Register.{Admits, TurnsAt, Forks, Merges}
use Rattle.atomic_table.proofs.Lists.{at_set, at_snoc, set_again}
use Rattle.book_history.specs.BookLogs.{BookLog, newcomer, Within, AllWithin, Begins, IsOf}
use Rattle.book_history.proofs.Fronts.{prefix_self, prefix_trans, prefix_length}

pub within_self : (t : BookLog) → Within t t
within_self t = ((λ _. refl), prefix_self t.log)

pub within_longer : (v t u : BookLog) → Within v t → Begins t u → Within v u
within_longer v t u p q = ((λ some_there. p.0 some_there ∙ q.1), prefix_trans v.log t.log u.log p.1 q.2)

pub begins_within : (v t u : BookLog) → Begins v t → Within t u → Begins v u
begins_within v t u p q =
    let long : 0 < length t.log = let le = prefix_length v.log t.log p.2 in let some_there = p.0 in omega arith in
    (p.0, p.1 ∙ q.0 long, prefix_trans v.log t.log u.log p.2 q.1)

pub begins_self : (v : BookLog) → 0 < length v.log → Begins v v
begins_self v some_there = (some_there, refl, prefix_self v.log)

pub begins_same : (v t : BookLog) → v ≡ t → 0 < length v.log → Begins v t
begins_same v t same some_there = subst (λ (u : BookLog). Begins v u) same (begins_self v some_there)

pub is_of_begins : (v t : BookLog) → Begins v t → IsOf v.book t
is_of_begins v t p = let le = prefix_length v.log t.log p.2 in let some_there = p.0 in (omega arith, sym p.1)

module _ {T : Type 0} (book_log : T → BookLog) where
  pub admits : Admits (λ (p : T). AllWithin (book_log p)) newcomer
  admits x views h seat v at = ⊎_elim (h seat v) (λ (e : newcomer ≡ v). subst (λ (z : BookLog). Within z (book_log x)) e ((λ none. absurd (omega arith)), ((book_log x).log, refl))) (at_snoc views newcomer v seat at)

  pub looks : (seat : ℕ) (v : BookLog) (x : T) → TurnsAt (λ (p : T). AllWithin (book_log p)) seat v x x (λ v x y w. Within v (book_log x) × (w ≡ book_log y))
  looks seat v x views h at = (
    book_log x,
    (λ j u e. ⊎_elim
        (λ (t : (j ≡ seat) × (book_log x ≡ u)). subst (λ (z : BookLog). Within z (book_log x)) t.1 (within_self (book_log x)))
        (λ (t : (j ≢ seat) × (get_elem? views j ≡ some u)). h j u t.1)
        (at_set views seat j (book_log x) u e)),
    (h seat v at, refl),
  )

  pub grows : (seat : ℕ) (v : BookLog) (x y : T) → Begins (book_log x) (book_log y)
      → TurnsAt (λ (p : T). AllWithin (book_log p)) seat v x y (λ v x y w. Within v (book_log x) × (w ≡ book_log y))
  grows seat v x y up views h at = (
    book_log y,
    (λ j u e. ⊎_elim
        (λ (t : (j ≡ seat) × (book_log y ≡ u)). subst (λ (z : BookLog). Within z (book_log y)) t.1 (within_self (book_log y)))
        (λ (t : (j ≢ seat) × (get_elem? views j ≡ some u)). within_longer u (book_log x) (book_log y) (h j u t.1) up)
        (at_set views seat j (book_log y) u e)),
    (h seat v at, refl),
  )

  -- what waits may be shown after x: a step to the state that it gives keeps the rule
  abbrev pub MayShow : (seat : ℕ) (v : BookLog) (x : T) (waiting : List T) → Type 0
  MayShow seat v x waiting = (y : T) → book_log y ≡ fold (λ t p. book_log p) (book_log x) waiting
      → TurnsAt (λ (p : T). AllWithin (book_log p)) seat v x y (λ v x y w. Within v (book_log x) × (w ≡ book_log y))

  pub may_show : (seat : ℕ) (v : BookLog) (first x next : T) (waiting : List T) → Begins (book_log first) (book_log next) → x ≡ first → waiting ≡ next ∷ [] → MayShow seat v x waiting
  may_show seat v first x next waiting up same one y reported =
      let is : book_log next ≡ book_log y = sym (reported ∙ ap (λ l. fold (λ t p. book_log p) (book_log x) l) one) in
      grows seat v x y (subst (λ (z : T). Begins (book_log z) (book_log y)) (sym same) (subst (λ (t : BookLog). Begins (book_log first) t) is up))

  pub forks : (seat : ℕ) (v : BookLog) → Forks (λ (p : T). AllWithin (book_log p)) seat v v v
  forks seat v x views h at j u e = ⊎_elim (λ was. h j u (subst (λ l. get_elem? l j ≡ some u) (set_again views seat v at) was))
      (λ (same : v ≡ u). subst (λ (z : BookLog). Within z (book_log x)) same (h seat v at)) (at_snoc (set views seat v) v u j e)

  set_within : (x : T) (views : List BookLog) (seat : ℕ) (v : BookLog) → AllWithin (book_log x) views → Within v (book_log x) → AllWithin (book_log x) (set views seat v)
  set_within x views seat v h low j u e = ⊎_elim (λ (t : (j ≡ seat) × (v ≡ u)). subst (λ (z : BookLog). Within z (book_log x)) t.1 low) (λ (t : (j ≢ seat) × (get_elem? views j ≡ some u)). h j u t.1) (at_set views seat j v u e)

  pub merges : (seat : ℕ) (v : BookLog) (other : ℕ) (w : BookLog) → Merges (λ (p : T). AllWithin (book_log p)) seat v other w w newcomer
  merges seat v other w x views h at apart there =
      let b : Within w (book_log x) = ⊎_elim (λ (t : (other ≡ seat) × (w ≡ w)). absurd (apart t.0)) (λ (t : (other ≢ seat) × (get_elem? views other ≡ some w)). h other w t.1) (at_set views seat other w w there) in
      set_within x (set views seat w) other newcomer (set_within x views seat w h b) ((λ none. absurd (omega arith)), ((book_log x).log, refl))
