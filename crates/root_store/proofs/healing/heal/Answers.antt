use Rattle.std.proofs.Common.{rules, arith}
use Rattle.commit_plan.specs.Kept.{Rest}
use Rattle.root_store.specs.Healing.{HoldsTwin}
use Rattle.root_store.proofs.Steps.{leaves_synced}
use Rattle.root_store.proofs.HealingLemmas.{body_written, body_synced, holds_twin, at_rest, not_healed}
use Rattle.root_store.proofs.healing.heal.Goals as goal

pub returns-in_err-write_at-clause-heals : goal.returns-in_err-write_at-clause-heals
returns-in_err-write_at-clause-heals g c honest =
    let k = g.D.Disk in
    let old = c.args.disk.now in
    let mid = c.write_at.new.self in
    let w = c.write_at.ensures in
    let put = body_written k c.args.root old mid c.other_body.result c.write_body-body.result c.other_body.ensures (omega arith)
    (λ f left. g.met.D.Disk.only_now old f honest left) (w.time honest) (w.others honest) (w.crash honest) in
    record {
      heals = not_healed k c.args.root old mid c.from_residual.result c.from_residual.ensures.0 (w.honest.1 honest) put;
      calls = search rules;
      torn = put.torn;
      elsewhere = put.run;
      cause = search rules;
    }

pub returns-in_err-sync-clause-heals : goal.returns-in_err-sync-clause-heals
returns-in_err-sync-clause-heals g c honest =
    let k = g.D.Disk in
    let old = c.args.disk.now in
    let mid = c.write_at.new.self in
    let new = c.sync.new.self in
    let w = c.write_at.ensures in
    let s = c.sync.ensures in
    let on = w.honest.1 honest in
    let put = body_written k c.args.root old mid c.other_body.result c.write_body-body.result c.other_body.ensures (omega arith)
    (λ f left. g.met.D.Disk.only_now old f honest left) (w.time honest) (w.others honest) (w.crash honest) in
    let kept = body_synced k c.args.root old mid new put (s.time on) (s.seen on) (s.crash on) in
    record {
      heals =
          not_healed k c.args.root old new c.from_residual-in_err-sync.result c.from_residual-in_err-sync.ensures.0
          (s.honest.1 on) kept;
      calls = search rules;
      torn = kept.torn;
      elsewhere = kept.run;
      cause = search rules;
    }

pub returns-clause-heals : goal.returns-clause-heals
returns-clause-heals g c honest =
    let k = g.D.Disk in
    let r = c.args.root in
    let old = c.args.disk.now in
    let mid = c.write_at.new.self in
    let new = c.sync.new.self in
    let w = c.write_at.ensures in
    let s = c.sync.ensures in
    let on = w.honest.1 honest in
    let put = body_written k r old mid c.other_body.result c.write_body-body.result c.other_body.ensures (omega arith)
    (λ f left. g.met.D.Disk.only_now old f honest left) (w.time honest) (w.others honest) (w.crash honest) in
    let kept = body_synced k r old mid new put (s.time on) (s.seen on) (s.crash on) in
    record {
      heals = λ x is all.
          let there = holds_twin x r c.other_body.result c.write_body-body.result is c.other_body.ensures
          c.write_body-body.ensures.spelled (k.seen mid) (c.in_ok-write_at.ensures.written honest) in
          let here = all (k.seen old) (g.met.D.Disk.seen_may_stay old honest) in
          let rest = at_rest x r is c.requires (omega arith) (omega arith) (k.seen old) (k.seen mid) here put.torn there in
          record {
            honest = s.honest.1 on;
            run = kept.stays x is all;
            ok = leaves_synced k new (k.seen mid) (Rest x) (c.in_ok-sync.ensures.durable on) rest;
            twin = leaves_synced k new (k.seen mid) (HoldsTwin x.root) (c.in_ok-sync.ensures.durable on) there;
            err = tt;
          };
      calls = search rules;
      torn = kept.torn;
      elsewhere = kept.run;
      cause = search rules;
    }
