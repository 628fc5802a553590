use Rattle.std.proofs.Common.{◌∙◌, ◌+◌, ℕ, ap, sym, subst, length, List, Bool, arith}
use Rattle.std.proofs.lemmas.List.{length-set}
use Rattle.overlay_terms.specs.Plane.{is_on}
use Rattle.overlay_grid.specs.Rising.{point_at}
use Rattle.overlay_grid.proofs.Marked.{AreMarkedBefore, marked_more, marked_same}
use Rattle.overlay_grid.proofs.marking.mark_upright.Goals as goal
use Rattle.overlay_grid.proofs.marking.mark_upright.Goals.{then-is_between, else-is_between}

pub loop-j-preserved : goal.loop-j-preserved
loop-j-preserved c =
    let test = λ (k : ℕ). is_on c.args.seg.now (point_at c.args.rise k) in
    let was = c.args.edges.now in
    let now = c.loop-j.edges in
    let j = c.loop-j.j in
    elim c.if-is_between.branch [
      | then-is_between w ↦ record {
        len = ap (λ (es : List Bool). length es) w.edges-is ∙ length-set now j _ ∙ c.loop-j.invariant.len;
        marked = subst (λ (es : List Bool). AreMarkedBefore test was es (j + 1)) (sym w.edges-is)
            (marked_more test was now j (omega arith) (sym c.is_between.ensures ∙ w.if-is_between.true) c.loop-j.invariant.marked);
      }
      | else-is_between w ↦ record {
        len = ap (λ (es : List Bool). length es) w.edges-is ∙ c.loop-j.invariant.len;
        marked = subst (λ (es : List Bool). AreMarkedBefore test was es (j + 1)) (sym w.edges-is)
            (marked_same test was now j (sym c.is_between.ensures ∙ w.if-is_between.false) c.loop-j.invariant.marked);
      }
    ]
