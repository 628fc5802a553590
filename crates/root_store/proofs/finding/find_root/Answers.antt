use Rattle.std.proofs.Common.{arith, rules}
use Rattle.root_store.proofs.FindingLemmas.{short_root}
use Rattle.root_reading.proofs.Looked.{looked, looks_on}
use Rattle.root_store.proofs.finding.find_root.Goals as goal

pub returns-then-size-lt-SLOTS_END-clause-gives : goal.returns-then-size-lt-SLOTS_END-clause-gives
returns-then-size-lt-SLOTS_END-clause-gives g c honest =
    let size = c.in_ok-size.ensures.length honest in
    short_root (g.D.Disk.seen c.args.disk.now) (omega (arith, size))

pub returns-in_err-first-clause-looks : goal.returns-in_err-first-clause-looks
returns-in_err-first-clause-looks g c = record {
  honest = search rules;
  looks = λ honest.
      let k = g.D.Disk in
      let old = c.args.disk.now in
      let l = c.length.ensures in
      let looks1 = looked k old c.length.new.self honest (λ f left. g.met.D.Disk.only_now old f honest left)
      (l.honest.1 honest) (l.seen honest) (l.crash honest) (l.time honest) in
      looks_on k old c.length.new.self c.read_slot.new.disk looks1 (c.read_slot.ensures.looks.looks looks1.honest);
  cause = search rules;
}

pub returns-in_err-second-clause-looks : goal.returns-in_err-second-clause-looks
returns-in_err-second-clause-looks g c = record {
  honest = search rules;
  looks = λ honest.
      let k = g.D.Disk in
      let old = c.args.disk.now in
      let l = c.length.ensures in
      let looks1 = looked k old c.length.new.self honest (λ f left. g.met.D.Disk.only_now old f honest left)
      (l.honest.1 honest) (l.seen honest) (l.crash honest) (l.time honest) in
      let looks2 = looks_on k old c.length.new.self c.read_slot.new.disk looks1 (c.read_slot.ensures.looks.looks looks1.honest) in
      looks_on k old c.read_slot.new.disk c.read_slot-2.new.disk looks2 (c.read_slot-2.ensures.looks.looks looks2.honest);
  cause = search rules;
}

pub returns-in_err-root-clause-looks : goal.returns-in_err-root-clause-looks
returns-in_err-root-clause-looks g c = record {
  honest = search rules;
  looks = λ honest.
      let k = g.D.Disk in
      let old = c.args.disk.now in
      let l = c.length.ensures in
      let looks1 = looked k old c.length.new.self honest (λ f left. g.met.D.Disk.only_now old f honest left)
      (l.honest.1 honest) (l.seen honest) (l.crash honest) (l.time honest) in
      let looks2 = looks_on k old c.length.new.self c.read_slot.new.disk looks1 (c.read_slot.ensures.looks.looks looks1.honest) in
      looks_on k old c.read_slot.new.disk c.read_slot-2.new.disk looks2 (c.read_slot-2.ensures.looks.looks looks2.honest);
  cause = search rules;
}

pub returns-clause-looks : goal.returns-clause-looks
returns-clause-looks g c = record {
  honest = search rules;
  looks = λ honest.
      let k = g.D.Disk in
      let old = c.args.disk.now in
      let l = c.length.ensures in
      let looks1 = looked k old c.length.new.self honest (λ f left. g.met.D.Disk.only_now old f honest left)
      (l.honest.1 honest) (l.seen honest) (l.crash honest) (l.time honest) in
      let looks2 = looks_on k old c.length.new.self c.read_slot.new.disk looks1 (c.read_slot.ensures.looks.looks looks1.honest) in
      looks_on k old c.read_slot.new.disk c.read_slot-2.new.disk looks2 (c.read_slot-2.ensures.looks.looks looks2.honest);
  cause = search rules;
}

-- found by search alone: it is here so that a wrong body is refused without working out what to write
pub returns-clause-shut_gate : goal.returns-clause-shut_gate
returns-clause-shut_gate g c = search rules
