use Rattle.std.specs.Prelude.{◌≡◌, None, All}
use Rattle.std.proofs.Common.{rules, arith, subst, ◌∙◌}
use Rattle.std.proofs.lemmas.Grind.{common_steps}
use Rattle.std.proofs.lemmas.List.{take_all}
use Rattle.plane_base.specs.BaseLayer.{PointsInRange, rings_fault}
use Rattle.plane_base.proofs.RingLemmas.{rings_more, are_rings}
use Rattle.plane_base.proofs.base_layer.BaseLayer.new.Goals as goal

pub loop-ring-preserved : goal.loop-ring-preserved
loop-ring-preserved c = record {
  added = grind (arith, common_steps);
  in_range =
      rings_more c.deref-ring-items.result.now c.loop-ring.ring-index c.ring-item.result c.loop-ring-test.true c.ring-item.is (subst PointsInRange c.points.ensures c.in_ok-add_segments.ensures.in_range) c.loop-ring.invariant.in_range;
}

pub invariant_of-result : goal.invariant_of-result
invariant_of-result c =
    let sound : rings_fault c.args.rings.items ≡ None = search rules in
    let all = take_all c.loop-ring.ring-index c.deref-ring-items.result.now c.loop-ring-test.false ∙ c.deref-ring-items.ensures.value in
    (sound, search rules, are_rings c.args.rings.items sound (subst (All PointsInRange) all c.loop-ring.invariant.in_range))

-- found by search alone; written here so that a wrong body is refused without working out what to write
pub returns-then-not-is_within_limit-clause-refused : goal.returns-then-not-is_within_limit-clause-refused
returns-then-not-is_within_limit-clause-refused c = search rules
