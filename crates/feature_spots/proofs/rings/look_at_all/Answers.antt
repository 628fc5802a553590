use Rattle.std.proofs.Common.{◌+◌, ◌∙◌, ap, drop}
use Rattle.block_reading.specs.Block.{dealt}
use Rattle.feature_spots.specs.Spots.{steps_of, is_within}
use Rattle.feature_spots.proofs.LoopLemmas.{ring_near, turn, ring_on_more, ring_below_more}
use Rattle.feature_spots.proofs.StepLemmas.{never}
use Rattle.feature_spots.proofs.rings.look_at_all.Goals as goal

pub loop-count-preserved : goal.loop-count-preserved
loop-count-preserved c =
    let i = c.loop-count.count-index in
    let counts = c.args.counts.now in
    let ring = c.parted.result.0.now in
    let after = c.parted.result.1.now in
    let rest = c.loop-count.rest.now in
    record {
      on = ring_on_more c.args.p.now counts i rest ring after c.loop-count-test.true c.parted.ensures.first c.parted.ensures.rest c.in_ok-seen.seen.on _ c.in_ok-seen.ensures.on c.if-seen.false c.loop-count.invariant.on;
      below = ap (λ o. turn o (is_within c.args.p.now (steps_of (dealt (drop (i + 1) counts) after)))) c.turned-odd.ensures
          ∙ ring_below_more c.args.p.now counts i rest ring after c.loop-count-test.true c.parted.ensures.first c.parted.ensures.rest c.loop-count.odd c.in_ok-seen.seen.below _ (c.in_ok-seen.ensures.below c.if-seen.false) c.loop-count.invariant.below;
      near = λ h. (ring_near c.args.p.now counts i rest ring after c.loop-count-test.true c.parted.ensures.first c.parted.ensures.rest (c.loop-count.invariant.near h)).1;
    }

pub returns-in_err-seen-clause-some : goal.returns-in_err-seen-clause-some
returns-in_err-seen-clause-some c near fine =
    never
    (c.in_err-seen.ensures.some
    (ring_near c.args.p.now c.args.counts.now c.loop-count.count-index c.loop-count.rest.now c.parted.result.0.now c.parted.result.1.now c.loop-count-test.true c.parted.ensures.first c.parted.ensures.rest (c.loop-count.invariant.near near)).0
    fine)
