use Rattle.std.proofs.Common.{◌≡◌, ◌≤◌, List, map, length, ap, sym, subst, ◌∙◌}
use Rattle.std.specs.Prelude.{IfOk}
use Rattle.overlay_terms.specs.Tiles.{Input}
use Rattle.overlay_terms.specs.TileLaws.{IsInput}
use Rattle.arrange.specs.Marked.{marked_of, segments_max}
use Rattle.arrange.specs.declared.marked_seg.MarkedSeg.{MarkedSeg}
use Rattle.crossing_sweep.specs.StripInput.{IsStripInput}
use Rattle.strip_inputs.proofs.Valid.{held_part, part_is_input}
use Rattle.strip_inputs.proofs.input.StripInput.column_input.Goals as goal

pub of_marked-requires-clause-valid : goal.of_marked-requires-clause-valid
of_marked-requires-clause-valid c =
    let held = c.self.inside.marked.value.items in
    let lent = c.deref-2.ensures.value ∙ ap (λ v. v.items) c.deref.ensures in
    let is = (λ i. record { strip = c.self.inside.strip; marked = map marked_of held; steps = c.deref-3.ensures i }) ∙ c.self.view_is in
    subst IsInput (sym (held_part c.args.self.now c.args.column c.self.inside.strip c.deref-2.result.now held c.deref-3.result.now lent is))
    (part_is_input c.args.self.now c.args.column (subst IsStripInput c.self.view_is c.self.invariant.0) c.requires.0 c.requires.1)

pub of_marked-requires-clause-few : goal.of_marked-requires-clause-few
of_marked-requires-clause-few c =
    let lent = c.deref-2.ensures.value ∙ ap (λ v. v.items) c.deref.ensures in
    subst (λ (ms : List MarkedSeg). length (map marked_of ms) ≤ segments_max) (sym lent) c.self.invariant.1

pub returns : goal.returns
returns c =
    let held = c.self.inside.marked.value.items in
    let lent = c.deref-2.ensures.value ∙ ap (λ v. v.items) c.deref.ensures in
    let is = (λ i. record { strip = c.self.inside.strip; marked = map marked_of held; steps = c.deref-3.ensures i }) ∙ c.self.view_is in
    subst (λ (i : Input). IfOk c.of_marked.result (λ input. input ≡ i))
    (held_part c.args.self.now c.args.column c.self.inside.strip c.deref-2.result.now held c.deref-3.result.now lent is) c.of_marked.ensures
