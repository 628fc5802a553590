use Rattle.std.proofs.Common.{ap, sym, ◌∙◌, map}
use Rattle.overlay_terms.specs.Layers.{Marked}
use Rattle.arrange.specs.Marked.{marked_of}
use Rattle.arrange.proofs.KeptLemmas.{mark, proper_more}
use Rattle.strip_inputs.specs.Strips.{meets}
use Rattle.strip_inputs.proofs.Gathered.{passing_yes, passing_no, pushed}
use Rattle.strip_inputs.proofs.gathering.add_segments.Goals as goal
use Rattle.strip_inputs.proofs.gathering.add_segments.Goals.{then-meets+in_ok-push, else-meets}

pub loop-seg-preserved : goal.loop-seg-preserved
loop-seg-preserved c =
    let proper = proper_more _ _ _ c.loop-seg-test.true c.seg-item.is c.meets.ensures.proper c.loop-seg.invariant.proper in
    let within = λ (m : Marked). meets c.args.strip m.segment in
    elim c.if-meets.branch [
      | then-meets+in_ok-push w ↦
          let added = ap (λ v. v.items) w.marked-is ∙ w.in_ok-push.ensures.items in
          record {
            marked = passing_yes within (mark c.args.layer) _ _ _ c.loop-seg-test.true c.seg-item.is _ _ _ (sym c.meets.ensures.value ∙ w.if-meets.true) (pushed _ _ _ added) c.loop-seg.invariant.marked;
            proper = proper;
          }
      | else-meets w ↦ record {
        marked = passing_no within (mark c.args.layer) _ _ _ c.loop-seg-test.true c.seg-item.is _ _ (sym c.meets.ensures.value ∙ w.if-meets.false) (ap (λ v. map marked_of v.items) w.marked-is ∙ c.loop-seg.invariant.marked);
        proper = proper;
      }
    ]
