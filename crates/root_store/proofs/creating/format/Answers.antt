use Rattle.std.proofs.Common.{sym, subst, rules}
use Rattle.root_store.specs.Creating.{IsBlank, IsFirstWrite}
use Rattle.root_store.proofs.Blank.{first_put, blank_kept, blank_opened, blank_is_at_rest}
use Rattle.root_store.proofs.CreatingLemmas.{begins, opens, made_in}
use Rattle.commit_plan.proofs.Kept.{gate_written}
use Rattle.root_store.proofs.Steps.{leaves_synced}
use Rattle.root_store.proofs.creating.format.Goals as goal

pub returns-clause-formats : goal.returns-clause-formats
returns-clause-formats g c honest = record {
  made = λ empty.
      let k = g.D.Disk in
      let old = c.args.disk.now in
      let written = c.write_at.new.self in
      let middle = c.sync.new.self in
      let opened = c.write_at-2.new.self in
      let w = c.write_at.ensures in
      let s = c.sync.ensures in
      let o = c.write_at-2.ensures in
      let on1 = w.honest.1 honest in
      let on2 = s.honest.1 on1 in
      let on3 = o.honest.1 on2 in
      let seen = first_put (k.seen old) (k.seen written) c.args.bytes.now empty c.requires (w.others honest)
      (c.in_ok-write_at.ensures.written honest) in
      let first = leaves_synced k middle (k.seen written) IsFirstWrite (c.in_ok-sync.ensures.durable on1) seen in
      let kept : IsBlank (k.seen middle) = subst IsBlank (sym (s.seen on1)) seen.blank in
      let blank = blank_kept (k.seen middle) (k.seen opened) kept (o.others on2) in
      let gate = gate_written (k.seen opened) 0 167 (c.in_ok-write_at-2.ensures.written on2) in
      made_in k old c.sync-2.new.self (k.seen opened) c.sync-2.result (c.sync-2.ensures.durable on3)
      (blank_is_at_rest (k.seen opened) blank gate) (blank_opened (k.seen opened) blank gate)
      (record {
        synced = middle;
        before = begins k old written middle c.args.bytes.now c.requires.blank.size
            (λ f left. g.met.D.Disk.only_now old f honest left) (w.time honest) (w.crash honest) (s.time on1) (s.crash on1);
        first = first;
        after = opens k middle opened c.sync-2.new.self first (λ f left. g.met.D.Disk.only_now middle f on2 left)
            (o.time on2) (o.crash on2) (c.sync-2.ensures.time on3) (c.sync-2.ensures.crash on3);
      });
  cause = search rules;
  calls = search rules;
}
