use Rattle.std.proofs.Common.{ap, sym, subst, pos, get_or, ◌∙◌, ◌*◌, take, arith}
use Rattle.std.specs.List.{AllByRecursion}
use Rattle.overlay_terms.specs.Plane.{is_inside}
use Rattle.overlay_terms.specs.Laws.{is_on_any}
use Rattle.point_looks.specs.Spot.{point_of}
use Rattle.plane_base.specs.declared.bounds.Bounds.{Bounds}
use Rattle.plane_base.specs.Bounds.{Holds}
use Rattle.plane_base.proofs.BlockLemmas.{after_next, up_to_next}
use Rattle.point_looks.proofs.BlockLemmas.{next_ranges, next_cover, all_seen, more_inside, more_edge}
use Rattle.point_looks.proofs.blocks.look.Goals as goal

pub look_at_block-requires : goal.look_at_block-requires
look_at_block-requires c =
    subst (AllByRecursion (Holds (get_or c.args.bounds.now c.loop-b.b-index none))) (sym c.next_block.ensures.block)
    (next_ranges c.args.bounds.now c.loop-b.rest.now c.loop-b.b-index c.loop-b-test.true c.loop-b.invariant.cover none)
  where
    none : Bounds
    none = record { low_x = pos 0; high_x = pos 0; low_y = pos 0; high_y = pos 0 }

pub loop-b-preserved : goal.loop-b-preserved
loop-b-preserved c =
    let q = point_of c.args.spot.now in
    let segs = c.args.segs.now in
    let rest = c.loop-b.rest.now in
    let i = c.loop-b.b-index in
    record {
      rest = c.next_block.ensures.left ∙ after_next segs rest i c.loop-b.invariant.rest;
      cover = rw c.next_block.ensures.left (next_cover c.args.bounds.now rest i c.loop-b-test.true c.loop-b.invariant.cover);
      inside = c.and-seen.ensures.inside ∙ more_inside q (take (32 * i) segs) (take 32 rest) c.loop-b.seen.inside c.look_at_block.result.inside c.loop-b.invariant.inside (c.look_at_block.ensures.inside ∙ ap (λ r. is_inside r q) c.next_block.ensures.block) ∙ ap (λ r. is_inside r q) (up_to_next segs rest i c.loop-b.invariant.rest);
      edge = c.and-seen.ensures.edge ∙ more_edge q (take (32 * i) segs) (take 32 rest) c.loop-b.seen.edge c.look_at_block.result.edge c.loop-b.invariant.edge (c.look_at_block.ensures.edge ∙ ap (λ r. is_on_any r q) c.next_block.ensures.block) ∙ ap (λ r. is_on_any r q) (up_to_next segs rest i c.loop-b.invariant.rest);
    }

pub returns-clause-inside : goal.returns-clause-inside
returns-clause-inside c = c.loop-b.invariant.inside ∙ ap (λ r. is_inside r (point_of c.args.spot.now)) (all_seen c.args.bounds.now c.args.segs.now c.loop-b.rest.now c.loop-b.b-index (omega (arith, c.loop-b-test.false)) c.loop-b.invariant.rest c.loop-b.invariant.cover)

pub returns-clause-edge : goal.returns-clause-edge
returns-clause-edge c = c.loop-b.invariant.edge ∙ ap (λ r. is_on_any r (point_of c.args.spot.now)) (all_seen c.args.bounds.now c.args.segs.now c.loop-b.rest.now c.loop-b.b-index (omega (arith, c.loop-b-test.false)) c.loop-b.invariant.rest c.loop-b.invariant.cover)
