use Rattle.std.proofs.Common.{inl, refl, sym, subst}
use Rattle.extent_map.specs.Taken.{taken_of}
use Rattle.root_reading.specs.RootRuns.{IsMapOf}
use Rattle.commit_plan.specs.declared.room.Room.{Room}
use Rattle.commit_plan.specs.Kept.{Kept, extents_in}
use Rattle.std.proofs.lemmas.Grind.{merely}
use Rattle.root_store.specs.declared.phase.Phase.TheVariants as phases
use Rattle.root_store.specs.Content.{IsAtRest}
use Rattle.root_store.specs.Creating.{nothing_kept, first_root}
use Rattle.root_store.proofs.Known.{content_is}
use Rattle.root_store.proofs.creating.create.Goals as goal

pub returns-in-Ok-clause-creates : goal.returns-in-Ok-clause-creates
returns-in-Ok-clause-creates g c honest =
    let prepares = c.in-Ok.ensures.prepares honest in
    let made = prepares.made in
    record {
      ok = record {
        honest = c.prepare.ensures.honest.1 honest;
        idle = refl;
        root = refl;
        holds = c.empty.ensures.content;
        room = subst (λ (r : Room). IsMapOf (extents_in nothing_kept) (taken_of r.map)) (sym c.empty.ensures.room) c.in-Ok.ensures.room;
        leaves = λ f left. inl (made.ready f left);
      };
      file = made.file;
      phases = made.phases;
      answer = prepares.answer;
      unchanged = λ refused. tt;
      cause = tt;
      calls = prepares.calls;
    }

pub invariant_of-result : goal.invariant_of-result
invariant_of-result g c = record {
  keeps = λ honest.
      let k = g.D.Disk in
      let rests : IsAtRest k c.prepare.new.disk phases.Idle first_root c.empty.result nothing_kept = record {
        honest = honest;
        idle = refl;
        root = refl;
        holds = c.empty.ensures.content;
        room = subst (λ (r : Room). IsMapOf (extents_in nothing_kept) (taken_of r.map)) (sym c.empty.ensures.room) c.in-Ok.ensures.room;
        leaves = λ f left. inl ((c.in-Ok.ensures.prepares (c.prepare.ensures.honest.0 honest)).made.ready f left);
      } in
      merely (subst (λ (x : Kept). IsAtRest k c.prepare.new.disk phases.Idle first_root c.empty.result x)
      (sym (content_is first_root c.empty.result nothing_kept refl c.empty.ensures.content refl)) rests);
}
