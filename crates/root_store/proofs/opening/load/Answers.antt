use Rattle.std.proofs.Common.{◌≡◌, ◌+◌, ◌<◌, ◌≤◌, Bool, true, false, inl, inr, Err, refl, sym, ◌∙◌, rules, arith}
use Rattle.store_terms.specs.StandsFor.{reading}
use Rattle.store_terms.specs.Roots.{sequence_max}
use Rattle.commit_plan.specs.declared.loaded.Loaded.{Loaded}
use Rattle.commit_plan.specs.Loaded.{kept_in}
use Rattle.root_store.specs.HonestSteps.{LoadsHonestly}
use Rattle.root_reading.proofs.Looked.{refuses_device}
use Rattle.root_store.proofs.OpeningLemmas.{phases_read, phases_healed, shuts, both_loads, last_loads, healed_loads, failed_loads, unread_loads, body_writes, none_completed, last_completed, twin_completed, none_completes, last_completes, at_err, causes_from}
use Rattle.root_store.proofs.opening.load.Goals as goal

pub returns-in_err-loaded-clause-loads : goal.returns-in_err-loaded-clause-loads
returns-in_err-loaded-clause-loads g c honest =
    let k = g.D.Disk in
    let old = c.args.disk.now in
    let mid = c.read_store.new.disk in
    let fault = c.in_err-loaded.field-0.0 in
    let looks = c.in_err-loaded.ensures.looks in
    let reads = c.in_err-loaded.ensures.reads honest in
    let was = looks.looks honest in
    at_err (LoadsHonestly k old mid) c.from_residual.result fault c.from_residual.ensures.1
    (record {
      loads = unread_loads k old mid fault reads.gives was;
      phases = tt;
      stops = reads.stops;
      writes = inl was.seen;
      completed = tt;
      completes = tt;
      untouched = λ other. record { seen = was.seen; fewer = was.fewer; run = was.run };
      memory = reads.memory;
      cause = causes_from (Loaded × Bool) fault (k.faults old) (k.faults old) (k.faults mid) refl (looks.cause honest);
    })

pub returns-then-not-has_shut_gate-clause-loads : goal.returns-then-not-has_shut_gate-clause-loads
returns-then-not-has_shut_gate-clause-loads g c honest =
    let k = g.D.Disk in
    let old = c.args.disk.now in
    let mid = c.read_store.new.disk in
    let x = c.in_ok-loaded.loaded in
    let reads = c.in_ok-loaded.ensures.reads honest in
    let was = c.in_ok-loaded.ensures.looks.looks honest in
    let both : c.in_ok-loaded.has_shut_gate ≡ false = search rules in
    let none = sym reads.read.shut_gate ∙ both in
    record {
      loads = both_loads k old mid x c.in_ok-loaded.has_shut_gate was reads.read reads.gives both;
      phases = phases_read k old mid reads.settled;
      stops = tt;
      writes = inl was.seen;
      completed = none_completed k mid (k.seen old) x.root reads.read.root none;
      completes = none_completes k old mid none;
      untouched = tt;
      memory = tt;
      cause = c.in_ok-loaded.ensures.looks.cause honest;
    }

pub returns-then-loaded-ge-NUMBER_MAX-clause-loads : goal.returns-then-loaded-ge-NUMBER_MAX-clause-loads
returns-then-loaded-ge-NUMBER_MAX-clause-loads g c honest =
    let k = g.D.Disk in
    let old = c.args.disk.now in
    let mid = c.read_store.new.disk in
    let x = c.in_ok-loaded.loaded in
    let reads = c.in_ok-loaded.ensures.reads honest in
    let was = c.in_ok-loaded.ensures.looks.looks honest in
    let last : sequence_max ≤ x.root.sequence = omega arith in
    record {
      loads = last_loads k old mid x c.in_ok-loaded.has_shut_gate was reads.read reads.gives (search rules) last;
      phases = phases_read k old mid reads.settled;
      stops = tt;
      writes = inl was.seen;
      completed = last_completed k mid (k.seen old) x.root reads.read.root last;
      completes = last_completes k old mid x.root reads.read.root last;
      untouched = tt;
      memory = tt;
      cause = c.in_ok-loaded.ensures.looks.cause honest;
    }

pub returns-in_err-heal-clause-loads : goal.returns-in_err-heal-clause-loads
returns-in_err-heal-clause-loads g c honest =
    let k = g.D.Disk in
    let old = c.args.disk.now in
    let mid = c.read_store.new.disk in
    let new = c.heal.new.disk in
    let x = c.in_ok-loaded.loaded in
    let fault = c.in_err-heal.field-0.0 in
    let reads = c.in_ok-loaded.ensures.reads honest in
    let was = c.in_ok-loaded.ensures.looks.looks honest in
    let now = c.in_err-heal.ensures.heals was.honest in
    let alone : c.in_ok-loaded.has_shut_gate ≡ true = search rules in
    let shut = sym reads.read.shut_gate ∙ alone in
    let below : x.root.sequence < sequence_max = omega arith in
    let heals = now.heals (kept_in x) refl (shuts k old mid x c.in_ok-loaded.has_shut_gate was reads.read reads.gives alone) in
    let device = c.in_err-heal.ensures.err in
    at_err (LoadsHonestly k old new) c.from_residual-in_err-heal.result fault c.from_residual-in_err-heal.ensures.1
    (record {
      loads =
          failed_loads k old mid x c.in_ok-loaded.has_shut_gate was reads.read reads.gives new (Err fault) heals fault
          (refuses_device fault (reading (k.seen old)) device) heals.err;
      phases = tt;
      stops =
          inr (phases_healed k old mid new (kept_in x) reads.gives reads.read.root shut below reads.settled now.calls
          heals.run (now.elsewhere (k.seen old) reads.read.only));
      writes =
          body_writes (k.seen old) (k.seen mid) (k.seen new) x.root reads.read.root shut was.seen below now.torn;
      completed = tt;
      completes = tt;
      untouched = λ other. absurd (other device);
      memory = λ memory. absurd (cc (memory, device));
      cause =
          causes_from (Unit {0}) fault (k.faults old) (k.faults mid) (k.faults new)
          (c.in_ok-loaded.ensures.looks.cause honest) now.cause;
    })

pub returns-clause-loads : goal.returns-clause-loads
returns-clause-loads g c honest =
    let k = g.D.Disk in
    let old = c.args.disk.now in
    let mid = c.read_store.new.disk in
    let new = c.heal.new.disk in
    let x = c.in_ok-loaded.loaded in
    let reads = c.in_ok-loaded.ensures.reads honest in
    let was = c.in_ok-loaded.ensures.looks.looks honest in
    let now = c.in_ok-heal.ensures.heals was.honest in
    let alone : c.in_ok-loaded.has_shut_gate ≡ true = search rules in
    let shut = sym reads.read.shut_gate ∙ alone in
    let below : x.root.sequence < sequence_max = omega arith in
    let heals = now.heals (kept_in x) refl (shuts k old mid x c.in_ok-loaded.has_shut_gate was reads.read reads.gives alone) in
    let few : k.calls new ≤ k.calls mid + 2 = omega (arith, now.calls) in
    record {
      loads = healed_loads k old mid x c.in_ok-loaded.has_shut_gate was reads.read reads.gives new _ heals heals.ok;
      phases =
          phases_healed k old mid new (kept_in x) reads.gives reads.read.root shut below reads.settled few heals.run
          (now.elsewhere (k.seen old) reads.read.only);
      stops = tt;
      writes =
          body_writes (k.seen old) (k.seen mid) (k.seen new) x.root reads.read.root shut was.seen below now.torn;
      completed = twin_completed k new (k.seen old) x.root reads.read.root heals.twin;
      completes = λ to. record { read = mid; settled = reads.settled; two = now.calls };
      untouched = tt;
      memory = tt;
      cause = now.cause ∙ c.in_ok-loaded.ensures.looks.cause honest;
    }
