use Rattle.std.proofs.Common.{inl, inr, rules, ◌≡◌, ◌<◌, ◌^◌, length, List, ℕ, Ok, sym, ◌∙◌, ap, subst}
use Rattle.store_terms.specs.StandsFor.{root_of, reading}
use Rattle.store_terms.specs.Image.{listing_of, held_of}
use Rattle.root_store.specs.Finding.{has_shut_gate}
use Rattle.root_reading.specs.Looking.{Refuses}
use Rattle.root_reading.proofs.Looked.{refuses_bound, refuses_device, looks_on, size_stays}
use Rattle.commit_plan.specs.Loaded.{held_in, kept_in}
use Rattle.root_store.specs.HonestSteps.{ReadsHonestly}
use Rattle.root_store.proofs.OpeningLemmas.{reading_root, only_read, phases_read, at_err}
use Rattle.root_store.proofs.opening.read_store.Goals as goal

pub returns-in_err-settle-clause-reads : goal.returns-in_err-settle-clause-reads
returns-in_err-settle-clause-reads g c honest =
    let k = g.D.Disk in
    let old = c.args.disk.now in
    let fault = c.in_err-settle.field-0.0 in
    at_err (ReadsHonestly k old c.settle.new.disk) c.from_residual.result fault c.from_residual.ensures.1
    (record {
      gives = refuses_device fault (reading (k.seen old)) c.in_err-settle.ensures.err;
      read = tt;
      settled = tt;
      stops = inl (c.in_err-settle.ensures.err, c.in_err-settle.ensures.calls honest, (c.settle.ensures.looks.looks honest).run);
      memory = λ memory. absurd (cc (memory, c.in_err-settle.ensures.err));
    })

pub returns-in_err-root-clause-reads : goal.returns-in_err-root-clause-reads
returns-in_err-root-clause-reads g c honest =
    let k = g.D.Disk in
    let old = c.args.disk.now in
    let new = c.find_root.new.disk in
    let fault = c.in_err-root.field-0.0 in
    let looks1 = c.settle.ensures.looks.looks honest in
    let looks2 = c.find_root.ensures.looks.looks looks1.honest in
    at_err (ReadsHonestly k old new) c.from_residual-in_err-root.result fault c.from_residual-in_err-root.ensures.1
    (record {
      gives =
          refuses_bound fault (root_of (k.seen old)) (λ r. held_of (k.seen old) r)
          (subst (λ (f : List ℕ). Refuses fault (root_of f)) looks1.seen (c.in_err-root.ensures.gives looks1.honest));
      read = tt;
      settled = tt;
      stops =
          inr (phases_read k old new (only_read k old c.settle.new.disk new looks1 (c.in_ok-settle.ensures.calls honest)
          (c.in_ok-settle.ensures.only honest) looks2));
      memory = λ memory. absurd (c.in_err-root.ensures.memory memory);
    })

pub returns-in_err-loaded-clause-reads : goal.returns-in_err-loaded-clause-reads
returns-in_err-loaded-clause-reads g c honest =
    let k = g.D.Disk in
    let old = c.args.disk.now in
    let mid = c.settle.new.disk in
    let new = c.read_root.new.disk in
    let file = k.seen old in
    let fault = c.in_err-loaded.field-0.0 in
    let first = c.in_ok-root.root in
    let looks1 = c.settle.ensures.looks.looks honest in
    let looks2 = c.find_root.ensures.looks.looks looks1.honest in
    let both = looks_on k old mid c.find_root.new.disk looks1 looks2 in
    let root : root_of file ≡ Ok first =
    subst (λ (f : List ℕ). root_of f ≡ Ok first) looks1.seen (c.in_ok-root.ensures.gives looks1.honest) in
    let short : length (k.seen c.find_root.new.disk) < 2 ^ 64 =
    subst (λ (f : List ℕ). length f < 2 ^ 64) (sym looks2.seen) (c.in_ok-root.ensures.small looks1.honest) in
    let refused : Refuses fault (held_of file first) =
    subst (λ (f : List ℕ). Refuses fault (held_of f first)) both.seen (c.in_err-loaded.ensures.gives both.honest short) in
    at_err (ReadsHonestly k old new) c.from_residual-in_err-loaded.result fault c.from_residual-in_err-loaded.ensures.1
    (record {
      gives = subst (Refuses fault) (sym (reading_root file first root)) refused;
      read = tt;
      settled = tt;
      stops =
          inr (phases_read k old new (only_read k old mid new looks1 (c.in_ok-settle.ensures.calls honest)
          (c.in_ok-settle.ensures.only honest)
          (looks_on k mid c.find_root.new.disk new looks2 (c.read_root.ensures.looks both.honest))));
      memory = λ memory. (first, root);
    })

pub returns-clause-reads : goal.returns-clause-reads
returns-clause-reads g c honest =
    let k = g.D.Disk in
    let old = c.args.disk.now in
    let mid = c.settle.new.disk in
    let new = c.read_root.new.disk in
    let file = k.seen old in
    let first = c.in_ok-root.root in
    let x = c.in_ok-loaded.loaded in
    let looks1 = c.settle.ensures.looks.looks honest in
    let looks2 = c.find_root.ensures.looks.looks looks1.honest in
    let both = looks_on k old mid c.find_root.new.disk looks1 looks2 in
    let looks3 = c.read_root.ensures.looks both.honest in
    let root : root_of file ≡ Ok first =
    subst (λ (f : List ℕ). root_of f ≡ Ok first) looks1.seen (c.in_ok-root.ensures.gives looks1.honest) in
    let same : first ≡ x.root = sym c.in_ok-loaded.ensures.root in
    let short : length (k.seen c.find_root.new.disk) < 2 ^ 64 =
    subst (λ (f : List ℕ). length f < 2 ^ 64) (sym looks2.seen) (c.in_ok-root.ensures.small looks1.honest) in
    record {
      gives =
          reading_root file first root
          ∙ subst (λ (f : List ℕ). held_of f first ≡ Ok (held_in x)) both.seen
          (c.in_ok-loaded.ensures.gives both.honest short);
      read = record {
        only = λ f left. c.in_ok-settle.ensures.only honest f (looks2.fewer f (looks3.fewer f left));
        root = root ∙ ap Ok same;
        shut_gate = c.in_ok-root.ensures.shut_gate looks1.honest ∙ ap has_shut_gate looks1.seen;
        listing = subst (λ r. listing_of file r ≡ Ok (kept_in x).listing) same
            (subst (λ (f : List ℕ). listing_of f first ≡ Ok (kept_in x).listing) both.seen
            (c.in_ok-loaded.ensures.listing both.honest));
        room = c.in_ok-loaded.ensures.room both.honest short;
      };
      settled =
          only_read k old mid new looks1 (c.in_ok-settle.ensures.calls honest) (c.in_ok-settle.ensures.only honest)
          (looks_on k mid c.find_root.new.disk new looks2 looks3);
      stops = tt;
      memory = tt;
    }

pub returns-in_err-root-clause-looks : goal.returns-in_err-root-clause-looks
returns-in_err-root-clause-looks g c = record {
  honest = search rules;
  looks = λ honest.
      let looks1 = c.settle.ensures.looks.looks honest in
      looks_on g.D.Disk c.args.disk.now c.settle.new.disk c.find_root.new.disk looks1
      (c.find_root.ensures.looks.looks looks1.honest);
  cause = search rules;
}

pub returns-in_err-loaded-clause-looks : goal.returns-in_err-loaded-clause-looks
returns-in_err-loaded-clause-looks g c = record {
  honest = search rules;
  looks = λ honest.
      let looks1 = c.settle.ensures.looks.looks honest in
      let looks2 = looks_on g.D.Disk c.args.disk.now c.settle.new.disk c.find_root.new.disk looks1
      (c.find_root.ensures.looks.looks looks1.honest) in
      looks_on g.D.Disk c.args.disk.now c.find_root.new.disk c.read_root.new.disk looks2
      (c.read_root.ensures.looks looks2.honest);
  cause = search rules;
}

pub returns-clause-looks : goal.returns-clause-looks
returns-clause-looks g c = record {
  honest = search rules;
  looks = λ honest.
      let looks1 = c.settle.ensures.looks.looks honest in
      let looks2 = looks_on g.D.Disk c.args.disk.now c.settle.new.disk c.find_root.new.disk looks1
      (c.find_root.ensures.looks.looks looks1.honest) in
      looks_on g.D.Disk c.args.disk.now c.find_root.new.disk c.read_root.new.disk looks2
      (c.read_root.ensures.looks looks2.honest);
  cause = search rules;
}

pub read_root-requires : goal.read_root-requires
read_root-requires g c =
    size_stays g.D.Disk c.settle.new.disk c.find_root.new.disk c.in_ok-root.size c.find_root.ensures.looks.honest
    c.find_root.ensures.looks.looks c.in_ok-root.ensures.size
