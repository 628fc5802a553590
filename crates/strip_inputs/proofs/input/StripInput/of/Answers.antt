use Rattle.std.proofs.Common.{◌≡◌, ◌<◌, ◌≤◌, length, map, ap, subst, ◌∙◌, arith}
use Rattle.overlay_terms.specs.Column.{column_count}
use Rattle.overlay_terms.specs.Layers.{marked_segments}
use Rattle.strip_inputs.proofs.Parts.{part_of_strip}
use Rattle.strip_inputs.proofs.Gathered.{made_more, made_whole, made_input, made_few}
use Rattle.strip_inputs.proofs.input.StripInput.of.Goals as goal

pub loop-layer-preserved : goal.loop-layer-preserved
loop-layer-preserved c =
    let within : c.loop-layer.layer < length c.args.bases.now = omega arith in
    let same : c.from.result ≡ c.loop-layer.layer = omega arith in
    made_more c.args.strip c.loop-layer.layer c.from.result c.args.bases.now c.index-bases-from.result _ _ within same c.index-bases-from.is c.loop-layer.invariant c.in_ok-add_segments.ensures.marked c.in_ok-add_segments.ensures.proper c.in_ok-add_segments.ensures.valid

pub by-requires : goal.by-requires
by-requires c =
    let full : length c.args.bases.now ≤ c.loop-layer.layer = omega arith in
    let few : c.args.steps.bases ≤ 32 = omega arith in
    let in_order : c.args.strip.first ≤ c.args.strip.last = c.last.ensures.in_order in
    let known : c.args.strip.last < column_count = subst (λ k. k < column_count) (c.number.ensures.value ∙ c.last.ensures.value) c.number.ensures.small in
    let made = made_whole c.args.strip c.loop-layer.layer c.args.bases.now _ full c.loop-layer.invariant in
    (made_input c.args.strip c.args.bases.now _ c.args.steps in_order known few c.requires made, made_few c.args.strip c.args.bases.now _ c.args.steps.bases few c.requires made)

pub returns-clause-ok : goal.returns-clause-ok
returns-clause-ok c =
    let full : length c.args.bases.now ≤ c.loop-layer.layer = omega arith in
    let made = made_whole c.args.strip c.loop-layer.layer c.args.bases.now _ full c.loop-layer.invariant in
    c.in_ok-input.ensures ∙ ap (λ ms. record { strip = c.args.strip; marked = ms; steps = c.args.steps }) made.kept

pub returns-clause-part : goal.returns-clause-part
returns-clause-part c =
    let full : length c.args.bases.now ≤ c.loop-layer.layer = omega arith in
    let made = made_whole c.args.strip c.loop-layer.layer c.args.bases.now _ full c.loop-layer.invariant in
    part_of_strip c.args.strip (marked_segments (map (λ b. b.now) c.args.bases.now)) c.args.steps _
    (c.in_ok-input.ensures ∙ ap (λ ms. record { strip = c.args.strip; marked = ms; steps = c.args.steps }) made.kept)
