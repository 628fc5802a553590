use Rattle.std.proofs.Common.{◌≡◌, ◌<◌, ◌&&◌, true, false, arith}
use Rattle.overlay_terms.specs.Plane.{is_on}
use Rattle.exact_point.specs.Place.{place}
use Rattle.arrange.proofs.MaskLemmas.{skipped, turned, shifted}
use Rattle.arrange.proofs.masking.mask_over.Goals as goal
use Rattle.arrange.proofs.masking.mask_over.Goals.{then-from_on-to_on, else-from_on-to_on}

pub loop-m-preserved : goal.loop-m-preserved
loop-m-preserved c = λ k h.
    let so_far = c.loop-m.invariant k h in
    elim c.if-from_on-to_on.branch [
      | then-from_on-to_on w ↦
          let both : (is_on c.m-item.result.seg (place c.args.from.now) && is_on c.m-item.result.seg (place c.args.to.now)) ≡ true =
          rw (← c.on-from_on.ensures, ← c.on-to_on.ensures) w.if-from_on-to_on.true in
          let low : c.m-item.result.layer < 32 = rw (← c.m-item.is) at (c.requires c.loop-m.m-index c.m-item.result (omega arith)) in
          rw (w.mask-is, shifted c.m-item.result.layer low) (turned c.args.marked.now (place c.args.from.now) (place c.args.to.now) k c.loop-m.m-index c.m-item.result (omega arith) c.m-item.is c.loop-m.mask so_far both)
      | else-from_on-to_on w ↦
          let off : (is_on c.m-item.result.seg (place c.args.from.now) && is_on c.m-item.result.seg (place c.args.to.now)) ≡ false =
          rw (← c.on-from_on.ensures, ← c.on-to_on.ensures) w.if-from_on-to_on.false in
          rw w.mask-is (skipped c.args.marked.now (place c.args.from.now) (place c.args.to.now) k c.loop-m.m-index c.m-item.result (omega arith) c.m-item.is c.loop-m.mask so_far off)
    ]
