use Rattle.std.proofs.Common.{◌∙◌, arith, subst, rules}
use Rattle.std.specs.List.{AllByRecursion}
use Rattle.plane_base.specs.Bounds.{Holds}
use Rattle.plane_base.proofs.BlockLemmas.{after_next, cover_next, cover_all}
use Rattle.plane_base.proofs.blocks.bounds_of.Goals as goal

pub loop-preserved : goal.loop-preserved
loop-preserved c =
    let segs = c.args.segs.now in
    let rest = c.loop.rest.now in
    let i = c.loop.counter in
    record {
      rest = c.next_block.ensures.left ∙ after_next segs rest i c.loop.invariant.rest;
      count = search (arith, rules, c.loop.invariant.count, c.in_ok-push.ensures.items);
      cover = rw c.in_ok-push.ensures.items (cover_next c.loop.bounds.items c.around.result segs rest i c.block_count-end.result c.loop-test.true c.block_count-end.ensures.none_empty c.loop.invariant.count c.loop.invariant.rest c.loop.invariant.cover
          (subst (AllByRecursion (Holds c.around.result)) c.next_block.ensures.block c.around.ensures));
    }

pub returns : goal.returns
returns c = cover_all c.loop.bounds.items c.args.segs.now c.loop.counter c.block_count-end.result c.loop-test.false c.block_count-end.ensures.enough c.loop.invariant.cover
