use Rattle.std.proofs.Common.{◌≡◌, pos, ap, sym, ◌∙◌}
use Rattle.std.specs.Cmp.{int_cmp_total}
use Rattle.std.specs.Ordering.{int_cmp, ordering_then, ordering_reverse}
use Rattle.std.specs.declared.cmp.Ordering.TheVariants.{Equal}
use Rattle.overlay_terms.specs.Plane.{Segment, whole, height_over, side_of}
use Rattle.exact_point.specs.Crossing.{turn_of}
use Rattle.arrange.proofs.LineLemmas.{equal_from_ne}
use Rattle.arrange.proofs.line_seg.LineSegOrd.cmp.Goals as goal

pub returns : goal.returns
returns c =
    let s : Segment = c.args.self.now.marked.seg in
    let t : Segment = c.args.other.now.marked.seg in
    let level : int_cmp (pos 0) (turn_of s t) ≡ Equal = sym c.direction_cmp-turn.ensures ∙ equal_from_ne c.direction_cmp-turn.result (sym c.is_ne.ensures ∙ c.if-is_ne.false) in
    c.reverse.ensures
    ∙ ap ordering_reverse c.side.ensures
    ∙ ap (λ p. ordering_reverse (side_of s p)) (c.of.ensures ∙ ap whole c.left.ensures.value)
    ∙ sym (int_cmp_total.antisymm (pos 0) (height_over s (whole t.left)))
    ∙ sym (ap (λ o. ordering_then o (int_cmp (pos 0) (height_over s (whole t.left)))) level)
