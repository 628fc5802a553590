use Rattle.std.proofs.Common.{◌+◌, ◌-◌, ◌∙◌, ap, sym, length, drop}
use Rattle.feature_spots.specs.Spots.{steps_from, steps_after, is_on_steps, is_within, IsNear}
use Rattle.feature_spots.proofs.LoopLemmas.{all_at, near_to, turn, turn_none, on_more, below_more}
use Rattle.feature_spots.proofs.StepLemmas.{never}
use Rattle.feature_spots.proofs.rings.look.Goals as goal

pub loop-to-init : goal.loop-to-init
loop-to-init c = record {
  on = ap (λ o. is_on_steps c.args.p.now (steps_after o c.args.ring.now)) c.in-Some.ensures.value;
  below = turn_none (is_within c.args.p.now (steps_from c.in-Some.last.now c.args.ring.now)) ∙ ap (λ o. is_within c.args.p.now (steps_after o c.args.ring.now)) c.in-Some.ensures.value;
  near = all_at IsNear c.args.ring.now (length c.args.ring.now - 1) c.in-Some.last.now (sym c.in-Some.ensures.value);
}

pub loop-to-preserved : goal.loop-to-preserved
loop-to-preserved c =
    let i = c.loop-to.to-index in
    let to = c.to-item.result in
    let ring = c.args.ring.now in
    record {
      on = on_more c.args.p.now ring i c.loop-to.from to c.loop-to-test.true c.to-item.is c.in_ok-seen.seen.on _ c.in_ok-seen.ensures.on c.if-seen.false c.loop-to.invariant.on;
      below = ap (λ o. turn o (is_within c.args.p.now (steps_from to (drop (i + 1) ring)))) c.turned-odd.ensures
          ∙ below_more c.args.p.now ring i c.loop-to.from to c.loop-to-test.true c.to-item.is c.loop-to.odd c.in_ok-seen.seen.below _ (c.in_ok-seen.ensures.below) c.loop-to.invariant.below;
      near = λ h. near_to ring i to c.loop-to-test.true c.to-item.is h;
    }

pub returns-in_err-seen-clause-some : goal.returns-in_err-seen-clause-some
returns-in_err-seen-clause-some c near fine =
    never (c.in_err-seen.ensures.some (c.loop-to.invariant.near near) (near_to c.args.ring.now c.loop-to.to-index c.to-item.result c.loop-to-test.true c.to-item.is near) fine)
