use Rattle.std.proofs.Common.{ap, sym, refl, ◌∙◌, map}
use Rattle.arrange.specs.Marked.{marked_of}
use Rattle.arrange.proofs.KeptLemmas.{kept_more_yes, kept_more_no, proper_more}
use Rattle.arrange.proofs.tile_input.add_segments.Goals as goal
use Rattle.arrange.proofs.tile_input.add_segments.Goals.{then-touches+in_ok-push, else-touches}

pub loop-seg-preserved : goal.loop-seg-preserved
loop-seg-preserved c =
    let proper = proper_more _ _ _ c.loop-seg-test.true c.seg-item.is c.touches.ensures.proper c.loop-seg.invariant.proper in
    elim c.if-touches.branch [
      | then-touches+in_ok-push w ↦
          let added = ap (λ v. v.items) w.marked-is ∙ w.in_ok-push.ensures.items in
          record {
            marked = kept_more_yes c.args.column c.args.layer _ _ _ _ _ _ _ c.loop-seg-test.true c.seg-item.is (sym c.touches.ensures.value ∙ w.if-touches.true) refl added c.loop-seg.invariant.marked;
            proper = proper;
          }
      | else-touches w ↦ record {
        marked = kept_more_no c.args.column c.args.layer _ _ _ _ _ c.loop-seg-test.true c.seg-item.is (sym c.touches.ensures.value ∙ w.if-touches.false) (ap (λ v. map marked_of v.items) w.marked-is ∙ c.loop-seg.invariant.marked);
        proper = proper;
      }
    ]
