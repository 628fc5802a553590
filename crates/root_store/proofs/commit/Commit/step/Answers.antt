use Rattle.std.proofs.Common.{◌≡◌, ◌+◌, drop, [], ◌∷◌, ℕ, inl, Some, Ok, refl, sym, ◌∙◌, ap, subst, rules, List}
use Rattle.std.proofs.lemmas.Grind.{merely}
use Rattle.store_terms.specs.declared.root.Root.{Root}
use Rattle.extent_map.specs.Taken.{taken_of, limit_of}
use Rattle.root_reading.specs.RootRuns.{IsMapOf}
use Rattle.commit_plan.specs.declared.live_records.LiveRecords.{LiveRecords}
use Rattle.commit_plan.specs.declared.room.Room.{Room}
use Rattle.commit_plan.specs.Live.{live_content}
use Rattle.commit_plan.specs.Kept.{extents_in}
use Rattle.root_store.specs.declared.phase.Phase.TheVariants as phases
use Rattle.root_store.specs.declared.phase.Progress.TheVariants as prog
use Rattle.root_store.specs.Content.{content_of, IsAtRest}
use Rattle.root_store.specs.Running.{is_busy}
use Rattle.root_store.proofs.Known.{runs_known}
use Rattle.root_store.proofs.Steps.{failed}
use Rattle.root_store.proofs.Arms.{close_survives, settle_survives, put_survives, sync_survives, open_survives, finish_survives, closed, settled, put_next, all_put, opened, finished}
use Rattle.root_store.proofs.WritingLemmas.{writes_this, writes_none, first_from, none_from, not_ok}
use Rattle.root_store.proofs.commit.Commit.step.Goals as goal

-- ---- a call that failed: what a crash leaves

pub returns-in_err-write_at-in-Close-clause-moves : goal.returns-in_err-write_at-in-Close-clause-moves
returns-in_err-write_at-in-Close-clause-moves g c x y runs =
    let s = c.args.self.now in
    let w = c.write_at.ensures in
    failed g.D.Disk s _ c.from_residual.result x y c.from_residual.ensures.0 refl
    (close_survives g.D.Disk s c.write_at.new.self x y runs c.other_gate.result c.other_gate.ensures (w.crash runs.honest)
    g.met.D.Disk.only_now (w.time runs.honest) c.in-Close.is)

pub returns-in_err-sync-in-Settle-clause-moves : goal.returns-in_err-sync-in-Settle-clause-moves
returns-in_err-sync-in-Settle-clause-moves g c x y runs =
    let s = c.args.self.now in
    let w = c.sync.ensures in
    failed g.D.Disk s _ c.from_residual-in_err-sync-in-Settle.result x y c.from_residual-in_err-sync-in-Settle.ensures.0 refl
    (settle_survives g.D.Disk s c.sync.new.self x y runs g.met.D.Disk.only_now (w.time runs.honest) c.in-Settle.is
    (w.crash runs.honest))

pub returns-in_err-write_at-in-Put-clause-moves : goal.returns-in_err-write_at-in-Put-clause-moves
returns-in_err-write_at-in-Put-clause-moves g c x y runs =
    let s = c.args.self.now in
    let w = c.write_at-then-self-len.ensures in
    let v = c.index-write.result.now in
    failed g.D.Disk s _ c.from_residual-in_err-write_at-in-Put.result x y c.from_residual-in_err-write_at-in-Put.ensures.0 refl
    (put_survives g.D.Disk s c.write_at-then-self-len.new.self x y runs g.met.D.Disk.only_now (w.time runs.honest) c.in-Put.is
    v c.deref.result.now (search rules) (search rules) (search rules) (w.crash runs.honest))

pub returns-in_err-sync-in-Put-clause-moves : goal.returns-in_err-sync-in-Put-clause-moves
returns-in_err-sync-in-Put-clause-moves g c x y runs =
    let s = c.args.self.now in
    let w = c.sync-else-self-len.ensures in
    failed g.D.Disk s _ c.from_residual-in_err-sync-in-Put.result x y c.from_residual-in_err-sync-in-Put.ensures.0 refl
    (sync_survives g.D.Disk s c.sync-else-self-len.new.self x y runs g.met.D.Disk.only_now (w.time runs.honest) c.in-Put.is
    (w.crash runs.honest))

pub returns-in_err-write_at-in-Open-clause-moves : goal.returns-in_err-write_at-in-Open-clause-moves
returns-in_err-write_at-in-Open-clause-moves g c x y runs =
    let s = c.args.self.now in
    let w = c.write_at-in-Open.ensures in
    failed g.D.Disk s _ c.from_residual-in_err-write_at-in-Open.result x y c.from_residual-in_err-write_at-in-Open.ensures.0 refl
    (open_survives g.D.Disk s c.write_at-in-Open.new.self x y runs c.other_gate-in-Open.result c.other_gate-in-Open.ensures (w.crash runs.honest)
    g.met.D.Disk.only_now (w.time runs.honest) c.in-Open.is)

pub returns-in_err-sync-in-Finish-clause-moves : goal.returns-in_err-sync-in-Finish-clause-moves
returns-in_err-sync-in-Finish-clause-moves g c x y runs =
    let s = c.args.self.now in
    let w = c.sync-in-Finish.ensures in
    failed g.D.Disk s _ c.from_residual-in_err-sync-in-Finish.result x y c.from_residual-in_err-sync-in-Finish.ensures.0 refl
    (finish_survives g.D.Disk s c.sync-in-Finish.new.self x y runs g.met.D.Disk.only_now (w.time runs.honest) c.in-Finish.is
    (w.crash runs.honest))

-- ---- a call that was made: the next phase

pub returns-in_ok-write_at-in-Close-clause-moves : goal.returns-in_ok-write_at-in-Close-clause-moves
returns-in_ok-write_at-in-Close-clause-moves g c x y runs =
    let k = g.D.Disk in
    let s = c.args.self.now in
    let new = c.write_at.new.self in
    let w = c.write_at.ensures in
    let crash = w.crash runs.honest in
    record {
      moments =
          (close_survives k s new x y runs c.other_gate.result c.other_gate.ensures crash g.met.D.Disk.only_now
          (w.time runs.honest) c.in-Close.is).0;
      ok =
          closed k s new x y runs c.other_gate.result c.other_gate.ensures crash c.in-Close.is (w.honest.1 runs.honest)
          (c.in_ok-write_at-in-Close.ensures.written runs.honest);
      err = tt;
    }

pub returns-in_ok-sync-in-Settle-clause-moves : goal.returns-in_ok-sync-in-Settle-clause-moves
returns-in_ok-sync-in-Settle-clause-moves g c x y runs =
    let k = g.D.Disk in
    let s = c.args.self.now in
    let new = c.sync.new.self in
    let w = c.sync.ensures in
    record {
      moments = (settle_survives k s new x y runs g.met.D.Disk.only_now (w.time runs.honest) c.in-Settle.is (w.crash runs.honest)).0;
      ok =
          settled k s new x y runs (c.in_ok-sync-in-Settle.ensures.durable runs.honest)
          (g.met.D.Disk.seen_may_stay s.disk runs.honest) c.in-Settle.is (w.honest.1 runs.honest) (w.seen runs.honest);
      err = tt;
    }

pub returns-in_ok-write_at-in-Put-clause-moves : goal.returns-in_ok-write_at-in-Put-clause-moves
returns-in_ok-write_at-in-Put-clause-moves g c x y runs =
    let k = g.D.Disk in
    let s = c.args.self.now in
    let new = c.write_at-then-self-len.new.self in
    let w = c.write_at-then-self-len.ensures in
    let v = c.index-write.result.now in
    let bytes = c.deref.result.now in
    let same : bytes ≡ v.bytes.items = search rules in
    record {
      moments =
          (put_survives k s new x y runs g.met.D.Disk.only_now (w.time runs.honest) c.in-Put.is
          v bytes (search rules) (search rules) same (w.crash runs.honest)).0;
      ok =
          put_next k s new x y runs c.in-Put.is (w.honest.1 runs.honest) (drop (s.next + 1) c.let_go.new.plan.items) v bytes
          (search rules) (search rules) same c.let_go.ensures.rest (w.crash runs.honest) (w.others runs.honest)
          (c.in_ok-write_at-in-Put.ensures.written runs.honest);
      err = tt;
    }

pub returns-in_ok-sync-in-Put-clause-moves : goal.returns-in_ok-sync-in-Put-clause-moves
returns-in_ok-sync-in-Put-clause-moves g c x y runs =
    let k = g.D.Disk in
    let s = c.args.self.now in
    let new = c.sync-else-self-len.new.self in
    let w = c.sync-else-self-len.ensures in
    record {
      moments = (sync_survives k s new x y runs g.met.D.Disk.only_now (w.time runs.honest) c.in-Put.is (w.crash runs.honest)).0;
      ok =
          all_put k s new x y runs (c.in_ok-sync-in-Put.ensures.durable runs.honest)
          (g.met.D.Disk.seen_may_stay s.disk runs.honest) c.in-Put.is (w.honest.1 runs.honest) (search rules);
      err = tt;
    }

pub returns-in_ok-write_at-in-Open-clause-moves : goal.returns-in_ok-write_at-in-Open-clause-moves
returns-in_ok-write_at-in-Open-clause-moves g c x y runs =
    let k = g.D.Disk in
    let s = c.args.self.now in
    let new = c.write_at-in-Open.new.self in
    let w = c.write_at-in-Open.ensures in
    let crash = w.crash runs.honest in
    record {
      moments =
          (open_survives k s new x y runs c.other_gate-in-Open.result c.other_gate-in-Open.ensures crash g.met.D.Disk.only_now
          (w.time runs.honest) c.in-Open.is).0;
      ok =
          opened k s new x y runs c.other_gate-in-Open.result c.other_gate-in-Open.ensures crash c.in-Open.is (w.honest.1 runs.honest)
          (c.in_ok-write_at-in-Open.ensures.written runs.honest);
      err = tt;
    }

pub returns-in_ok-sync-in-Finish-clause-moves : goal.returns-in_ok-sync-in-Finish-clause-moves
returns-in_ok-sync-in-Finish-clause-moves g c x y runs =
    let k = g.D.Disk in
    let s = c.args.self.now in
    let new = c.sync-in-Finish.new.self in
    let w = c.sync-in-Finish.ensures in
    let all = finished k s new x y runs (c.in_ok-sync-in-Finish.ensures.durable runs.honest)
    (g.met.D.Disk.seen_may_stay s.disk runs.honest) c.in-Finish.is in
    record {
      moments = (finish_survives k s new x y runs g.met.D.Disk.only_now (w.time runs.honest) c.in-Finish.is (w.crash runs.honest)).0;
      ok = (
        record {
          honest = w.honest.1 runs.honest;
          idle = refl;
          root = runs.next_root;
          holds = ap live_content c.swap.ensures.x_after ∙ runs.next_holds;
          room =
              subst (λ (r : LiveRecords). IsMapOf (extents_in y) (taken_of r.room.map)) (sym c.swap.ensures.x_after) runs.next_room;
          leaves = λ f left. inl (all f left);
        },
        ap (λ (r : Root). r.version) runs.next_root,
      );
      err = tt;
    }

pub returns-in_ok-sync-in-Finish-clause-blocks : goal.returns-in_ok-sync-in-Finish-clause-blocks
returns-in_ok-sync-in-Finish-clause-blocks g c limit keeps = (
  ap (λ (r : LiveRecords). limit_of r.room.map) c.swap.ensures.x_after ∙ keeps.1,
  ap (λ (r : Room). limit_of r.map) c.let_go-in-Finish.ensures.room ∙ ap (λ (r : LiveRecords). limit_of r.room.map) c.swap.ensures.y_after ∙ keeps.0,
)

-- ---- what a call writes, made or failed

pub returns-in_err-write_at-in-Close-clause-wrote : goal.returns-in_err-write_at-in-Close-clause-wrote
returns-in_err-write_at-in-Close-clause-wrote g c honest =
    let w = c.write_at.ensures in
    writes_this g.D.Disk c.args.self.now c.write_at.new.self c.from_residual.result g.met.D.Disk.only_now honest (w.time honest)
    phases.Close c.in-Close.is c.other_gate.result (0 ∷ []) (ap (λ (a : ℕ). Some (a, 0 ∷ [])) (sym c.other_gate.ensures))
    (not_ok c.from_residual.result _ c.from_residual.ensures.0) (w.others honest) (w.crash honest)

pub returns-in_err-sync-in-Settle-clause-wrote : goal.returns-in_err-sync-in-Settle-clause-wrote
returns-in_err-sync-in-Settle-clause-wrote g c honest =
    let w = c.sync.ensures in
    writes_none g.D.Disk c.args.self.now c.sync.new.self c.from_residual-in_err-sync-in-Settle.result g.met.D.Disk.only_now honest (w.time honest)
    phases.Settle c.in-Settle.is refl (w.seen honest) (w.crash honest)

pub returns-in_err-write_at-in-Put-clause-wrote : goal.returns-in_err-write_at-in-Put-clause-wrote
returns-in_err-write_at-in-Put-clause-wrote g c honest =
    let s = c.args.self.now in
    let w = c.write_at-then-self-len.ensures in
    let v = c.index-write.result.now in
    let bytes = c.deref.result.now in
    let same : bytes ≡ v.bytes.items = search rules in
    writes_this g.D.Disk s c.write_at-then-self-len.new.self c.from_residual-in_err-write_at-in-Put.result g.met.D.Disk.only_now honest (w.time honest)
    phases.Put c.in-Put.is v.at bytes
    (first_from s.plan.items s.next v (search rules) (search rules) ∙ ap (λ (b : List ℕ). Some (v.at, b)) (sym same))
    (not_ok c.from_residual-in_err-write_at-in-Put.result _ c.from_residual-in_err-write_at-in-Put.ensures.0) (w.others honest) (w.crash honest)

pub returns-in_err-sync-in-Put-clause-wrote : goal.returns-in_err-sync-in-Put-clause-wrote
returns-in_err-sync-in-Put-clause-wrote g c honest =
    let w = c.sync-else-self-len.ensures in
    writes_none g.D.Disk c.args.self.now c.sync-else-self-len.new.self c.from_residual-in_err-sync-in-Put.result g.met.D.Disk.only_now honest (w.time honest)
    phases.Put c.in-Put.is (none_from c.args.self.now.plan.items c.args.self.now.next (search rules)) (w.seen honest) (w.crash honest)

pub returns-in_err-write_at-in-Open-clause-wrote : goal.returns-in_err-write_at-in-Open-clause-wrote
returns-in_err-write_at-in-Open-clause-wrote g c honest =
    let w = c.write_at-in-Open.ensures in
    writes_this g.D.Disk c.args.self.now c.write_at-in-Open.new.self c.from_residual-in_err-write_at-in-Open.result g.met.D.Disk.only_now honest (w.time honest)
    phases.Open c.in-Open.is c.other_gate-in-Open.result (167 ∷ []) (ap (λ (a : ℕ). Some (a, 167 ∷ [])) (sym c.other_gate-in-Open.ensures))
    (not_ok c.from_residual-in_err-write_at-in-Open.result _ c.from_residual-in_err-write_at-in-Open.ensures.0) (w.others honest) (w.crash honest)

pub returns-in_err-sync-in-Finish-clause-wrote : goal.returns-in_err-sync-in-Finish-clause-wrote
returns-in_err-sync-in-Finish-clause-wrote g c honest =
    let w = c.sync-in-Finish.ensures in
    writes_none g.D.Disk c.args.self.now c.sync-in-Finish.new.self c.from_residual-in_err-sync-in-Finish.result g.met.D.Disk.only_now honest (w.time honest)
    phases.Finish c.in-Finish.is refl (w.seen honest) (w.crash honest)

pub returns-in_ok-write_at-in-Close-clause-wrote : goal.returns-in_ok-write_at-in-Close-clause-wrote
returns-in_ok-write_at-in-Close-clause-wrote g c honest =
    let w = c.write_at.ensures in
    writes_this g.D.Disk c.args.self.now c.write_at.new.self (Ok prog.Going) g.met.D.Disk.only_now honest (w.time honest)
    phases.Close c.in-Close.is c.other_gate.result (0 ∷ []) (ap (λ (a : ℕ). Some (a, 0 ∷ [])) (sym c.other_gate.ensures))
    (c.in_ok-write_at-in-Close.ensures.written honest) (w.others honest) (w.crash honest)

pub returns-in_ok-sync-in-Settle-clause-wrote : goal.returns-in_ok-sync-in-Settle-clause-wrote
returns-in_ok-sync-in-Settle-clause-wrote g c honest =
    let w = c.sync.ensures in
    writes_none g.D.Disk c.args.self.now c.sync.new.self (Ok prog.Going) g.met.D.Disk.only_now honest (w.time honest)
    phases.Settle c.in-Settle.is refl (w.seen honest) (w.crash honest)

pub returns-in_ok-write_at-in-Put-clause-wrote : goal.returns-in_ok-write_at-in-Put-clause-wrote
returns-in_ok-write_at-in-Put-clause-wrote g c honest =
    let s = c.args.self.now in
    let w = c.write_at-then-self-len.ensures in
    let v = c.index-write.result.now in
    let bytes = c.deref.result.now in
    let same : bytes ≡ v.bytes.items = search rules in
    writes_this g.D.Disk s c.write_at-then-self-len.new.self (Ok prog.Going) g.met.D.Disk.only_now honest (w.time honest)
    phases.Put c.in-Put.is v.at bytes
    (first_from s.plan.items s.next v (search rules) (search rules) ∙ ap (λ (b : List ℕ). Some (v.at, b)) (sym same))
    (c.in_ok-write_at-in-Put.ensures.written honest) (w.others honest) (w.crash honest)

pub returns-in_ok-sync-in-Put-clause-wrote : goal.returns-in_ok-sync-in-Put-clause-wrote
returns-in_ok-sync-in-Put-clause-wrote g c honest =
    let w = c.sync-else-self-len.ensures in
    writes_none g.D.Disk c.args.self.now c.sync-else-self-len.new.self (Ok prog.Going) g.met.D.Disk.only_now honest (w.time honest)
    phases.Put c.in-Put.is (none_from c.args.self.now.plan.items c.args.self.now.next (search rules)) (w.seen honest) (w.crash honest)

pub returns-in_ok-write_at-in-Open-clause-wrote : goal.returns-in_ok-write_at-in-Open-clause-wrote
returns-in_ok-write_at-in-Open-clause-wrote g c honest =
    let w = c.write_at-in-Open.ensures in
    writes_this g.D.Disk c.args.self.now c.write_at-in-Open.new.self (Ok prog.Going) g.met.D.Disk.only_now honest (w.time honest)
    phases.Open c.in-Open.is c.other_gate-in-Open.result (167 ∷ []) (ap (λ (a : ℕ). Some (a, 167 ∷ [])) (sym c.other_gate-in-Open.ensures))
    (c.in_ok-write_at-in-Open.ensures.written honest) (w.others honest) (w.crash honest)

pub returns-in_ok-sync-in-Finish-clause-wrote : goal.returns-in_ok-sync-in-Finish-clause-wrote
returns-in_ok-sync-in-Finish-clause-wrote g c honest =
    let w = c.sync-in-Finish.ensures in
    writes_none g.D.Disk c.args.self.now c.sync-in-Finish.new.self _ g.met.D.Disk.only_now honest (w.time honest)
    phases.Finish c.in-Finish.is refl (w.seen honest) (w.crash honest)

-- ---- what the type keeps

pub invariant_of-self-in-Close : goal.invariant_of-self-in-Close
invariant_of-self-in-Close g c = record {
  keeps = λ honest.
      let s = c.args.self.now in
      let w = c.write_at.ensures in
      let was = w.honest.0 honest in
      merely (closed g.D.Disk s c.write_at.new.self _ _ (runs_known g.D.Disk s was (ap is_busy c.in-Close.is))
      c.other_gate.result c.other_gate.ensures (w.crash was) c.in-Close.is honest (c.in_ok-write_at-in-Close.ensures.written was));
}

pub invariant_of-self-in-Settle : goal.invariant_of-self-in-Settle
invariant_of-self-in-Settle g c = record {
  keeps = λ honest.
      let s = c.args.self.now in
      let w = c.sync.ensures in
      let was = w.honest.0 honest in
      merely (settled g.D.Disk s c.sync.new.self _ _ (runs_known g.D.Disk s was (ap is_busy c.in-Settle.is))
      (c.in_ok-sync-in-Settle.ensures.durable was) (g.met.D.Disk.seen_may_stay s.disk was) c.in-Settle.is honest (w.seen was));
}

pub invariant_of-self-then-self-len : goal.invariant_of-self-then-self-len
invariant_of-self-then-self-len g c = record {
  keeps = λ honest.
      let s = c.args.self.now in
      let w = c.write_at-then-self-len.ensures in
      let was = w.honest.0 honest in
      merely (put_next g.D.Disk s c.write_at-then-self-len.new.self _ _ (runs_known g.D.Disk s was (ap is_busy c.in-Put.is))
      c.in-Put.is honest (drop (s.next + 1) c.let_go.new.plan.items) c.index-write.result.now c.deref.result.now (search rules)
      (search rules) (search rules) c.let_go.ensures.rest (w.crash was) (w.others was) (c.in_ok-write_at-in-Put.ensures.written was));
}

pub invariant_of-self-else-self-len : goal.invariant_of-self-else-self-len
invariant_of-self-else-self-len g c = record {
  keeps = λ honest.
      let s = c.args.self.now in
      let w = c.sync-else-self-len.ensures in
      let was = w.honest.0 honest in
      merely (all_put g.D.Disk s c.sync-else-self-len.new.self _ _ (runs_known g.D.Disk s was (ap is_busy c.in-Put.is))
      (c.in_ok-sync-in-Put.ensures.durable was) (g.met.D.Disk.seen_may_stay s.disk was) c.in-Put.is honest (search rules));
}

pub invariant_of-self-in-Open : goal.invariant_of-self-in-Open
invariant_of-self-in-Open g c = record {
  keeps = λ honest.
      let s = c.args.self.now in
      let w = c.write_at-in-Open.ensures in
      let was = w.honest.0 honest in
      merely (opened g.D.Disk s c.write_at-in-Open.new.self _ _ (runs_known g.D.Disk s was (ap is_busy c.in-Open.is))
      c.other_gate-in-Open.result c.other_gate-in-Open.ensures (w.crash was) c.in-Open.is honest (c.in_ok-write_at-in-Open.ensures.written was));
}

pub invariant_of-self-in-Finish : goal.invariant_of-self-in-Finish
invariant_of-self-in-Finish g c = record {
  keeps = λ honest.
      let k = g.D.Disk in
      let s = c.args.self.now in
      let new = c.sync-in-Finish.new.self in
      let was = c.sync-in-Finish.ensures.honest.0 honest in
      let runs = runs_known k s was (ap is_busy c.in-Finish.is) in
      let y = content_of s.next_root s.next_live in
      let all = finished k s new _ y runs (c.in_ok-sync-in-Finish.ensures.durable was) (g.met.D.Disk.seen_may_stay s.disk was)
      c.in-Finish.is in
      let rest : IsAtRest k new phases.Idle s.next_root s.next_live y = record {
        honest = honest;
        idle = refl;
        root = refl;
        holds = refl;
        room = runs.next_room;
        leaves = λ f left. inl (all f left);
      } in
      merely (subst (λ (live : LiveRecords). IsAtRest k new phases.Idle s.next_root live (content_of s.next_root live))
      (sym c.swap.ensures.x_after) rest);
}
