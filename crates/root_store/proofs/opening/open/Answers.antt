use Rattle.std.proofs.Common.{refl, sym, ◌∙◌, ap, subst, Ok}
use Rattle.store_terms.specs.StandsFor.{reading}
use Rattle.store_terms.specs.Image.{Held}
use Rattle.root_store.proofs.OpeningLemmas.{stops_reported, tells_of, failed_of, memory_of}
use Rattle.std.proofs.lemmas.Grind.{merely}
use Rattle.commit_plan.specs.Kept.{Kept}
use Rattle.root_store.specs.declared.phase.Phase.TheVariants as phases
use Rattle.root_store.specs.Content.{IsAtRest}
use Rattle.root_store.proofs.Known.{content_is}
use Rattle.commit_plan.specs.Loaded.{kept_in}
use Rattle.commit_plan.specs.Fault.{store_fault_of}
use Rattle.root_store.proofs.opening.open.Goals as goal

pub returns-in-Ok-clause-opens : goal.returns-in-Ok-clause-opens
returns-in-Ok-clause-opens g c honest =
    let l = c.in-Ok.ensures.loads honest in
    record {
      gives = l.loads.gives ∙ ap Ok (sym c.of_table-image.ensures.held);
      ok = (
        kept_in c.in-Ok.loaded,
        sym c.of_table-image.ensures.held,
        record {
          honest = l.loads.honest;
          idle = refl;
          root = refl;
          holds = c.in-Ok.ensures.content;
          room = l.loads.ok.0;
          leaves = l.loads.ok.1;
        },
        l.loads.run,
      );
      err = tt;
      phases = l.phases;
      stops = tt;
      writes = l.writes;
      completed = l.completed;
      completes = l.completes;
      untouched = tt;
      memory = tt;
      cause = l.cause;
    }

pub returns-in-Err-clause-opens : goal.returns-in-Err-clause-opens
returns-in-Err-clause-opens g c honest =
    let k = g.D.Disk in
    let l = c.in-Err.ensures.loads honest in
    let fault = c.in-Err.fault in
    let reported = c.store_fault_of.result in
    record {
      gives = tells_of fault reported (reading (k.seen c.args.disk)) c.store_fault_of.ensures l.loads.gives;
      ok = tt;
      err = (l.loads.honest, l.loads.err, l.loads.run);
      phases = tt;
      stops = stops_reported k c.args.disk c.load.new.disk fault reported c.store_fault_of.ensures l.stops;
      writes = l.writes;
      completed = tt;
      completes = tt;
      untouched = λ other. l.untouched (λ is. other (c.store_fault_of.ensures ∙ ap store_fault_of is));
      memory = λ memory. l.memory (memory_of fault (sym c.store_fault_of.ensures ∙ memory));
      cause = failed_of fault reported (k.faults c.args.disk) (k.faults c.load.new.disk) c.store_fault_of.ensures l.cause;
    }

pub returns-in-Ok-clause-number : goal.returns-in-Ok-clause-number
returns-in-Ok-clause-number g c = ap (λ (h : Held). h.number) c.of_table-image.ensures.held

pub invariant_of-commit : goal.invariant_of-commit
invariant_of-commit g c = record {
  keeps = λ honest.
      let k = g.D.Disk in
      let loaded = c.in-Ok.loaded in
      let ok = (c.in-Ok.ensures.loads (c.load.ensures.honest.0 honest)).loads.ok in
      let rests : IsAtRest k c.load.new.disk phases.Idle loaded.root loaded.live (kept_in loaded) = record {
        honest = honest;
        idle = refl;
        root = refl;
        holds = c.in-Ok.ensures.content;
        room = ok.0;
        leaves = ok.1;
      } in
      merely (subst (λ (x : Kept). IsAtRest k c.load.new.disk phases.Idle loaded.root loaded.live x)
      (sym (content_is loaded.root loaded.live (kept_in loaded) refl c.in-Ok.ensures.content refl)) rests);
}
