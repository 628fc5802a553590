-- Each device call of a commit, done or failed.
use Rattle.std.proofs.Common.{◌≡◌, inl, inr, arith, ℕ, ◌+◌, ◌<◌, ◌≤◌, List, ◌∷◌, length, drop, get_or, Result, Ok, Err, sym, ◌∙◌, ap, subst}
use Rattle.std.proofs.lemmas.List.{at_drop_more, at_drop_all, drop-set-lt}
use Rattle.disk_model.specs.declared.disk.Disk.{Ghosts}
use Rattle.disk_model.specs.Disk.{Holds, Torn, OneStepOn, Fewer, Only, Elapses}
use Rattle.disk_model.specs.Moments.{Leaves, LeavesOnly}
use Rattle.disk_model.proofs.Runs.{started, goes_on}
use Rattle.commit_plan.specs.declared.write.Write.{Write}
use Rattle.store_terms.specs.Roots.{sequence_max}
use Rattle.store_terms.specs.StandsFor.{gate, gate_at}
use Rattle.std.specs.Prelude.{slice_set, IsErr, OnOk}
use Rattle.commit_plan.specs.declared.fault.StoreFault.{StoreFault}
use Rattle.root_store.specs.declared.phase.Progress.{Progress}
use Rattle.root_store.specs.declared.phase.Phase.TheVariants.{Failed}
use Rattle.root_store.specs.declared.commit.Commit.{Commit}
use Rattle.commit_plan.specs.Kept.{Kept, other, Rest, Shut, Calm, Ready, Either}
use Rattle.root_store.specs.Running.{Stepped}
use Rattle.commit_plan.specs.Planning.{Leads, Spare}
use Rattle.commit_plan.proofs.Reading.{rest_stands, shut_stands, ready_either}
use Rattle.commit_plan.proofs.Kept.{rest_kept, ready_kept}

-- below the last sequence a store that is calm is at rest
pub calm_rest : (x : Kept) (file : List ℕ) → x.root.sequence < sequence_max → Calm x file → Rest x file
calm_rest x file below (inl rest) = rest
calm_rest x file below (inr last) = absurd (omega (arith, below, last.1))

-- after a write that is changed the plan is as it was
pub behind_set : (plan : List Write) (i : ℕ) (w : Write) → drop (i + 1) (slice_set plan i w) ≡ drop (i + 1) plan
behind_set plan i w = drop-set-lt (i + 1) plan i w (omega arith)

module _ {D : Type 0} (g : Ghosts D) where
  -- a crash now leaves nothing else than one that began now
  abbrev pub Now : D → Type 0
  Now disk = (c : List ℕ) → g.left_since disk (g.moment disk) c → g.may_leave disk c

  -- so it is on an honest disk
  abbrev pub OnlyNow : Type 0
  OnlyNow = (disk : D) (c : List ℕ) → g.is_honest disk → g.left_since disk (g.moment disk) c → g.may_leave disk c

  -- time goes on over a call
  abbrev pub Passes : D → D → Type 0
  Passes old new = Elapses (g.moment old) (g.moment new) (g.left_since old) (g.left_since new) (g.may_leave new)

  pub leaves_torn : (old new : D) (P : List ℕ → Type 0) (at n : ℕ) → Leaves g old P
      → OneStepOn (Torn at n) (g.may_leave old) (g.may_leave new) → ((c d : List ℕ) → P c → Torn at n c d → P d)
      → Leaves g new P
  leaves_torn old new P at n all follows keeps c left =
      let from = follows c left in keeps from.0 c (all from.0 from.1) from.2

  pub leaves_fewer : (old new : D) (P : List ℕ → Type 0) → Leaves g old P → Fewer (g.may_leave old) (g.may_leave new)
      → Leaves g new P
  leaves_fewer old new P all fewer c left = all c (fewer c left)

  pub leaves_synced : (new : D) (file : List ℕ) (P : List ℕ → Type 0) → Only file (g.may_leave new) → P file
      → Leaves g new P
  leaves_synced new file P only here c left = subst P (sym (only c left)) here

  -- the last sync of a run
  pub synced : {T E : Type 0} (new : D) (file : List ℕ) (P : List ℕ → Type 0) (result : Result T E)
      → OnOk result (Only file (g.may_leave new)) → P file → OnOk result (Leaves g new P)
  synced new file P (Ok x) only here = leaves_synced new file P only here
  synced new file P (Err e) only here = tt

  pub leaves_weaker : (disk : D) (P Q : List ℕ → Type 0) → ((c : List ℕ) → P c → Q c) → Leaves g disk P
      → Leaves g disk Q
  leaves_weaker disk P Q wider all c left = wider c (all c left)

  -- one call
  pub one_call : (old new : D) (P : List ℕ → Type 0) → Now old → Leaves g old P → Passes old new → Leaves g new P
      → LeavesOnly g old new P
  one_call old new P now before time after =
      goes_on g old old new P (started g old P (λ c left. before c (now c left))) time after

  module _ (x y : Kept) where
    pub rest_either : (disk : D) → Leaves g disk (Rest x) → Leaves g disk (Either x y)
    rest_either disk all c left = inl (rest_stands x c (all c left))

    pub shut_either : (disk : D) → Leaves g disk (Shut x) → Leaves g disk (Either x y)
    shut_either disk all c left = inl (shut_stands x c (all c left))

    pub both_either : (disk : D) → Leaves g disk (Ready x y) → Leaves g disk (Either x y)
    both_either disk all c left = ready_either x y c (all c left)

    -- the gate shuts, or may be anything
    pub closing : (old new : D) → Leaves g old (Rest x)
        → OneStepOn (Torn (gate_at (other x.root)) 1) (g.may_leave old) (g.may_leave new) → Leaves g new (Rest x)
    closing old new all follows = leaves_torn old new (Rest x) (gate_at (other x.root)) 1 all follows (rest_kept x)

    pub opening : (old new : D) → Leaves g old (Ready x y)
        → OneStepOn (Torn (gate_at (other x.root)) 1) (g.may_leave old) (g.may_leave new) → Leaves g new (Ready x y)
    opening old new all follows =
        leaves_torn old new (Ready x y) (gate_at (other x.root)) 1 all follows (ready_kept x y)

    -- a file at rest whose other gate is shut
    pub settles : (file : List ℕ) → Rest x file → gate file (other x.root) ≡ 0 → Shut x file
    settles file rest closed = record { live = rest.live; closed = λ is. absurd (cc (closed, is)) }

    -- the plan's next write
    pub next_leads : (P : List ℕ → Type 0) (plan : List Write) (i : ℕ) (w : Write) (old new : List ℕ) → i < length plan
        → w ≡ get_or plan i w → Leads P (drop i plan) old
        → Torn w.at (length w.bytes.items) old new → Holds new w.at w.bytes.items → Leads P (drop (i + 1) plan) new
    next_leads P plan i w old new h is leads torn holds =
        let here : drop i plan ≡ w ∷ drop (i + 1) plan =
        at_drop_more (λ (ws : List Write). ws) plan i w h ∙ ap (λ (v : Write). v ∷ drop (i + 1) plan) (sym is) in
        let first : Leads P (w ∷ drop (i + 1) plan) old = subst (λ (ws : List Write). Leads P ws old) here leads in
        first new torn holds

    pub next_spares : (P : List ℕ → Type 0) (plan : List Write) (i : ℕ) (w : Write) → i < length plan
        → w ≡ get_or plan i w → Spare P (drop i plan)
        → ((old new : List ℕ) → P old → Torn w.at (length w.bytes.items) old new → P new) × Spare P (drop (i + 1) plan)
    next_spares P plan i w h is spare =
        let here : drop i plan ≡ w ∷ drop (i + 1) plan =
        at_drop_more (λ (ws : List Write). ws) plan i w h ∙ ap (λ (v : Write). v ∷ drop (i + 1) plan) (sym is) in
        subst (λ (ws : List Write). Spare P ws) here spare

    pub led : (P : List ℕ → Type 0) (plan : List Write) (i : ℕ) (file : List ℕ) → length plan ≤ i
        → Leads P (drop i plan) file → P file
    led P plan i file past leads =
        subst (λ (ws : List Write). Leads P ws file) (at_drop_all (λ (ws : List Write). ws) plan i past) leads

  -- a step whose call failed
  pub failed : (old new : Commit D g) (result : Result Progress StoreFault) (x y : Kept) → IsErr result
      → new.phase ≡ Failed → LeavesOnly g old.disk new.disk (Either x y) × Leaves g new.disk (Either x y)
      → Stepped g old new result x y
  failed old new (Ok p) x y is phase survives = absurd (cc is)
  failed old new (Err e) x y is phase survives =
      record { moments = survives.0; ok = tt; err = (survives.1, phase) }
