use Rattle.std.proofs.Common.{◌≡◌, ◌+◌, ◌<◌, ◌++◌, ◌∷◌, [], List, length, take, sym, ap, ◌∙◌, subst, arith}
use Rattle.std.proofs.lemmas.List.{take_more, take_all}
use Rattle.overlay_engine.specs.declared.step.Step.{Step}
use Rattle.overlay_engine.specs.declared.step.Reply.{Reply}
use Rattle.overlay_engine.specs.Runs.{Drives}
use Rattle.overlay_engine.proofs.Running.{not_driven, driven_on}
use Rattle.overlay_engine.proofs.engine.Engine.drive.Goals as goal

pub loop-step-init : goal.loop-step-init
loop-step-init g c = record {
  drives = subst (λ (replies : List Reply). Drives g.D.Disk [] c.args.self.now replies c.args.self.now) (sym c.in_ok-replies.ensures.items) (not_driven g.D.Disk c.args.self.now);
  exact = λ exact. exact;
  blocks = λ limit keeps. keeps;
  count = c.in_ok-replies.ensures.len;
  room = omega (arith, c.in_ok-replies.ensures.exact);
}

pub loop-step-preserved : goal.loop-step-preserved
loop-step-preserved g c =
    let k = g.D.Disk in
    let steps = c.args.steps.now in
    let i = c.loop-step.step-index in
    let old = c.args.self.now in
    let new = c.act-reply.new.self in
    let step = c.step-item.result in
    let was = c.loop-step.invariant in
    let inside : i < length steps = c.loop-step-test.true in
    let more : take i steps ++ step ∷ [] ≡ take (i + 1) steps = ap (λ (s : Step). take i steps ++ s ∷ []) c.step-item.is ∙ sym (take_more steps i step inside) in
    let on = driven_on k (take i steps) old c.loop-step.replies.items c.loop-step.self step c.act-reply.result new was.drives c.act-reply.ensures.acts c.act-reply.ensures.commits c.act-reply.ensures.survives in
    record {
      drives = subst (λ (replies : List Reply). Drives k (take (i + 1) steps) old replies new) (sym c.in-Ok.ensures.items)
          (subst (λ (first : List Step). Drives k first old (c.loop-step.replies.items ++ c.act-reply.result ∷ []) new) more on);
      exact = λ exact. c.act-reply.ensures.exact (was.exact exact);
      blocks = λ limit keeps. c.act-reply.ensures.blocks limit (was.blocks limit keeps);
      count = omega (arith, c.in-Ok.ensures.len, was.count);
      room = omega (arith, was.room, c.push.ensures.capacity);
    }

pub returns-clause-drives : goal.returns-clause-drives
returns-clause-drives g c =
    subst (λ (steps : List Step). Drives g.D.Disk steps c.args.self.now c.loop-step.replies.items c.loop-step.self)
    (take_all c.loop-step.step-index c.args.steps.now c.loop-step-test.false) c.loop-step.invariant.drives
