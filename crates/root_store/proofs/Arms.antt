-- What each device call of a commit makes of what is known before it.
use Rattle.std.proofs.Common.{◌≡◌, length, drop, get_or, List, [], ◌∷◌, ℕ, ◌+◌, ◌<◌, ◌≤◌, sym, ◌∙◌, ap, subst}
use Rattle.disk_model.specs.declared.disk.Disk.{Ghosts}
use Rattle.disk_model.specs.Disk.{Torn, Holds, OneStepOn, Fewer, Only}
use Rattle.disk_model.specs.Moments.{Leaves, LeavesOnly}
use Rattle.store_terms.specs.StandsFor.{gate_at}
use Rattle.store_terms.specs.declared.root.Root.{Root}
use Rattle.commit_plan.specs.declared.write.Write.{Write}
use Rattle.commit_plan.specs.Kept.{Kept, other, Rest, Shut, Ready, Either}
use Rattle.commit_plan.specs.Planning.{Leads, Spare}
use Rattle.commit_plan.proofs.Kept.{gate_written}
use Rattle.commit_plan.proofs.Reading.{opened_rest}
use Rattle.root_store.specs.declared.commit.Commit.{Commit}
use Rattle.root_store.specs.declared.phase.Phase.{Phase}
use Rattle.root_store.specs.declared.phase.Phase.TheVariants.{Close, Settle, Put, Open, Finish}
use Rattle.root_store.specs.Content.{IsBefore, IsUnderWay}
use Rattle.root_store.specs.Running.{Before, RunsFrom}
use Rattle.root_store.specs.Writing.{writes_left}
use Rattle.root_store.proofs.Steps.{OnlyNow, Passes, one_call, leaves_torn, leaves_fewer, leaves_synced, rest_either, shut_either, both_either, closing, opening, settles, next_leads, next_spares, led}

module _ {D : Type 0} (g : Ghosts D) (s : Commit D g) (new : D) (x y : Kept) (runs : RunsFrom g s x y) where
  -- what is known before the call of this phase
  known : (this : Phase) → s.phase ≡ this → Before g this s x y
  known this is = subst (λ (p : Phase). Before g p s x y) is runs.before

  -- the commit goes on: the next phase, and the writes that are left
  abbrev pub GoesOn : Phase → List Write → Type 0
  GoesOn next rest = IsUnderWay g new next s.root s.next_root s.next_live rest x y

  carried : (next : Phase) (rest : List Write) → g.is_honest new → IsBefore g next new rest x y → GoesOn next rest
  carried next rest honest before = record {
    honest = honest;
    root = runs.root;
    next_root = runs.next_root;
    next_holds = runs.next_holds;
    next_room = runs.next_room;
    before = before;
  }

  -- done or failed, a crash leaves one or the other, at each moment of the call and after it
  module _ (only_now : OnlyNow g) (time : Passes g s.disk new) where
    abbrev pub Survives : Type 0
    Survives = LeavesOnly g s.disk new (Either x y) × Leaves g new (Either x y)

    survives : Leaves g s.disk (Either x y) → Leaves g new (Either x y) → Survives
    survives early late =
        (one_call g s.disk new (Either x y) (λ f left. only_now s.disk f runs.honest left) early time late, late)

    pub settle_survives : s.phase ≡ Settle → Fewer (g.may_leave s.disk) (g.may_leave new) → Survives
    settle_survives is fewer =
        let b = known Settle is in
        survives (rest_either g x y s.disk b.0) (rest_either g x y new (leaves_fewer g s.disk new (Rest x) b.0 fewer))

    pub put_survives : s.phase ≡ Put → (w : Write) (bytes : List ℕ) → s.next < length s.plan.items
        → w ≡ get_or s.plan.items s.next w → bytes ≡ w.bytes.items
        → OneStepOn (Torn w.at (length bytes)) (g.may_leave s.disk) (g.may_leave new) → Survives
    put_survives is w bytes inside at same crash =
        let b = known Put is in
        let torn = subst (λ (v : List ℕ). OneStepOn (Torn w.at (length v)) (g.may_leave s.disk) (g.may_leave new)) same crash in
        let spares = next_spares g x y (Shut x) s.plan.items s.next w inside at b.2 in
        survives (shut_either g x y s.disk b.0)
        (shut_either g x y new (leaves_torn g s.disk new (Shut x) w.at (length w.bytes.items) b.0 torn spares.0))

    pub sync_survives : s.phase ≡ Put → Fewer (g.may_leave s.disk) (g.may_leave new) → Survives
    sync_survives is fewer =
        let b = known Put is in
        survives (shut_either g x y s.disk b.0) (shut_either g x y new (leaves_fewer g s.disk new (Shut x) b.0 fewer))

    pub finish_survives : s.phase ≡ Finish → Fewer (g.may_leave s.disk) (g.may_leave new) → Survives
    finish_survives is fewer =
        let b = known Finish is in
        survives (both_either g x y s.disk b.0) (both_either g x y new (leaves_fewer g s.disk new (Ready x y) b.0 fewer))

  -- a write of a gate
  module _ (at : ℕ) (there : at ≡ gate_at (other s.root))
      (crash : OneStepOn (Torn at 1) (g.may_leave s.disk) (g.may_leave new)) where
    here : at ≡ gate_at (other x.root)
    here = there ∙ ap (λ (r : Root). gate_at (other r)) runs.root

    torn : OneStepOn (Torn (gate_at (other x.root)) 1) (g.may_leave s.disk) (g.may_leave new)
    torn = subst (λ (a : ℕ). OneStepOn (Torn a 1) (g.may_leave s.disk) (g.may_leave new)) here crash

    pub close_survives : (only_now : OnlyNow g) (time : Passes g s.disk new) → s.phase ≡ Close → Survives only_now time
    close_survives only_now time is =
        let b = known Close is in
        survives only_now time (rest_either g x y s.disk b.0)
        (rest_either g x y new (closing g x y s.disk new b.0 torn))

    pub open_survives : (only_now : OnlyNow g) (time : Passes g s.disk new) → s.phase ≡ Open → Survives only_now time
    open_survives only_now time is =
        let b = known Open is in
        survives only_now time (both_either g x y s.disk b)
        (both_either g x y new (opening g x y s.disk new b torn))

    pub closed : s.phase ≡ Close → g.is_honest new → Holds (g.seen new) at (0 ∷ []) → GoesOn Settle (writes_left s)
    closed is honest put =
        let b = known Close is in
        carried Settle (writes_left s) honest (
          closing g x y s.disk new b.0 torn,
          gate_written (g.seen new) (other x.root) 0 (subst (λ (a : ℕ). Holds (g.seen new) a (0 ∷ [])) here put),
          b.1,
          b.2,
        )

    pub opened : s.phase ≡ Open → g.is_honest new → Holds (g.seen new) at (167 ∷ []) → GoesOn Finish (writes_left s)
    opened is honest put =
        let b = known Open is in
        carried Finish (writes_left s) honest (
          opening g x y s.disk new b torn,
          gate_written (g.seen new) (other x.root) 167 (subst (λ (a : ℕ). Holds (g.seen new) a (167 ∷ [])) here put),
        )

  -- a sync
  module _ (only : Only (g.seen s.disk) (g.may_leave new)) (may : g.may_leave s.disk (g.seen s.disk)) where
    pub settled : s.phase ≡ Settle → g.is_honest new → g.seen new ≡ g.seen s.disk → GoesOn Put (writes_left s)
    settled is honest seen =
        let b = known Settle is in
        let here = settles g x y (g.seen s.disk) (b.0 (g.seen s.disk) may) b.1 in
        carried Put (writes_left s) honest (
          leaves_synced g new (g.seen s.disk) (Shut x) only here,
          subst (Leads (Ready x y) (writes_left s)) (sym seen) (b.2 (g.seen s.disk) here),
          b.3,
        )

    pub all_put : s.phase ≡ Put → g.is_honest new → length s.plan.items ≤ s.next → GoesOn Open (writes_left s)
    all_put is honest past =
        carried Open (writes_left s) honest
        (leaves_synced g new (g.seen s.disk) (Ready x y) only
        (led g x y (Ready x y) s.plan.items s.next (g.seen s.disk) past (known Put is).1))

    pub finished : s.phase ≡ Finish → Leaves g new (Rest y)
    finished is =
        let b = known Finish is in
        leaves_synced g new (g.seen s.disk) (Rest y) only
        (opened_rest x y (g.seen s.disk) (b.0 (g.seen s.disk) may) b.1)

  -- the next write of the plan
  pub put_next : s.phase ≡ Put → g.is_honest new → (rest : List Write) (w : Write) (bytes : List ℕ)
      → s.next < length s.plan.items → w ≡ get_or s.plan.items s.next w → bytes ≡ w.bytes.items
      → rest ≡ drop (s.next + 1) s.plan.items
      → OneStepOn (Torn w.at (length bytes)) (g.may_leave s.disk) (g.may_leave new)
      → Torn w.at (length bytes) (g.seen s.disk) (g.seen new) → Holds (g.seen new) w.at bytes → GoesOn Put rest
  put_next is honest rest w bytes inside at same behind crash others put =
      let b = known Put is in
      let torn = subst (λ (v : List ℕ). OneStepOn (Torn w.at (length v)) (g.may_leave s.disk) (g.may_leave new)) same crash in
      let spares = next_spares g x y (Shut x) s.plan.items s.next w inside at b.2 in
      let leads = next_leads g x y (Ready x y) s.plan.items s.next w (g.seen s.disk) (g.seen new) inside at b.1
      (subst (λ (v : List ℕ). Torn w.at (length v) (g.seen s.disk) (g.seen new)) same others)
      (subst (Holds (g.seen new) w.at) same put) in
      carried Put rest honest (
        leaves_torn g s.disk new (Shut x) w.at (length w.bytes.items) b.0 torn spares.0,
        subst (λ (ws : List Write). Leads (Ready x y) ws (g.seen new)) (sym behind) leads,
        subst (λ (ws : List Write). Spare (Shut x) ws) (sym behind) spares.1,
      )
