use Rattle.std.proofs.Common.{◌≡◌, Bool, ◌&&◌, map, take, IsTrue, option_copied, refl, sym, ap, subst, ◌∙◌}
use Rattle.std.specs.Prelude.{◌↔◌}
use Rattle.std.specs.Cmp.Lexicographic.{pointwise}
use Rattle.overlay_terms.specs.Layers.{layers_in_reach}
use Rattle.overlay_terms.specs.SameInput.{same_marked, same_steps}
use Rattle.overlay_terms.specs.Tiles.{input_of}
use Rattle.overlay_terms.proofs.KeptDerived.{derived_stands}
use Rattle.layer_expr.specs.StepList.{reached, numbered_steps}
use Rattle.arrange.specs.Marked.{marked_of}
use Rattle.layer_book.specs.Having.{part_in}
use Rattle.layer_book.specs.Touching.{marked_in}
use Rattle.layer_book.proofs.MarkedLayers.{rings_of}
use Rattle.layer_book.proofs.InputReach.{few_marked, steps_marked}
use Rattle.layer_book.proofs.HavingLemmas.{present_told}
use Rattle.layer_book.proofs.layers.Layers.has_part.Goals as goal

pub reach-wanted-requires : goal.reach-wanted-requires
reach-wanted-requires c = derived_stands c.args.self.now c.args.name.now c.requires

pub is_of-requires : goal.is_of-requires
is_of-requires c =
    few_marked (λ layer. (layer.0.now, option_copied layer.1)) c.args.self.now c.args.name.now c.reach-wanted.result (take c.wanted_layers-count.result.1 c.wanted_layers-count.result.0)
    (record { book = c.reach-wanted.ensures.valid; standing = derived_stands c.args.self.now c.args.name.now c.requires; exactly = c.reach-wanted.ensures.exactly })
    c.wanted_layers-count.ensures.layers

pub returns-then-is_of : goal.returns-then-is_of
returns-then-is_of c =
    let layers = c.args.self.now in
    let name = c.args.name.now in
    let input = part_in c.args.column (map marked_of c.args.marked.now) c.args.steps.now in
    let lent = reached (take c.wanted_layers-count.result.1 c.wanted_layers-count.result.0) in
    let present = steps_marked layers name c.reach-wanted.result lent (numbered_steps lent)
    (record { book = c.reach-wanted.ensures.valid; standing = derived_stands layers name c.requires; exactly = c.reach-wanted.ensures.exactly })
    c.wanted_layers-count.ensures.layers refl in
    let steps = c.is_of.ensures ∙ ap (same_steps input.steps) present in
    let marks = c.has_marked.ensures ∙ ap (λ ls. pointwise same_marked input.marked (marked_in input.column (rings_of ls))) c.reach-wanted.ensures.exactly in
    subst (λ b. IsTrue b ↔ (input ≡ input_of layers name input.column)) (ap (λ b. b && c.has_marked.result) c.if-is_of.true)
    (present_told layers name input c.is_of.result c.has_marked.result steps marks)

pub returns-else-is_of : goal.returns-else-is_of
returns-else-is_of c =
    let layers = c.args.self.now in
    let name = c.args.name.now in
    let input = part_in c.args.column (map marked_of c.args.marked.now) c.args.steps.now in
    let lent = reached (take c.wanted_layers-count.result.1 c.wanted_layers-count.result.0) in
    let present = steps_marked layers name c.reach-wanted.result lent (numbered_steps lent)
    (record { book = c.reach-wanted.ensures.valid; standing = derived_stands layers name c.requires; exactly = c.reach-wanted.ensures.exactly })
    c.wanted_layers-count.ensures.layers refl in
    let steps = c.is_of.ensures ∙ ap (same_steps input.steps) present in
    let marks : Bool = pointwise same_marked input.marked (marked_in input.column (rings_of (layers_in_reach layers name))) in
    subst (λ b. IsTrue b ↔ (input ≡ input_of layers name input.column)) (ap (λ b. b && marks) c.if-is_of.false ∙ sym c.if-is_of.false)
    (present_told layers name input c.is_of.result marks steps refl)
