use Rattle.std.proofs.Common.{refl, sym, subst}
use Rattle.std.proofs.lemmas.Option.{slice_get_read}
use Rattle.overlay_engine.specs.Steps.{IsResult}
use Rattle.overlay_engine.proofs.engine.Engine.finish.Goals as goal

pub returns-in-Ok-Kept : goal.returns-in-Ok-Kept
returns-in-Ok-Kept g c = (
  c.index.result.now,
  record {
    index = c.in-Some.index;
    there = sym c.in-Some.ensures.place;
    held = slice_get_read c.args.self.now.jobs.items _ c.in-Some.index c.index.result.now refl c.in-Some.ensures.within c.index.ensures;
    jobs = c.remove.ensures.items;
    next_job = refl;
    flusher = refl;
  },
  subst (λ f. IsResult c.args.self.now.version c.index.result.now f) c.in-Ok-Kept.field-0-is c.in-Ok-Kept.ensures.ok,
)

pub returns-in-Ok-Stale : goal.returns-in-Ok-Stale
returns-in-Ok-Stale g c = (
  c.index.result.now,
  record {
    index = c.in-Some.index;
    there = sym c.in-Some.ensures.place;
    held = slice_get_read c.args.self.now.jobs.items _ c.in-Some.index c.index.result.now refl c.in-Some.ensures.within c.index.ensures;
    jobs = c.remove-in-Ok-Stale.ensures.items;
    next_job = refl;
    flusher = refl;
  },
  subst (λ f. IsResult c.args.self.now.version c.index.result.now f) c.in-Ok-Stale.field-0-is c.in-Ok-Stale.ensures.ok,
  refl,
)
