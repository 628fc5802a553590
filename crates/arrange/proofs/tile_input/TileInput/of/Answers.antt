use Rattle.std.proofs.Common.{◌≡◌, ◌<◌, ◌≤◌, length, ap, arith}
use Rattle.overlay_terms.specs.Column.{column_count}
use Rattle.arrange.proofs.BaseLemmas.{made_more, made_whole, made_input, made_few}
use Rattle.arrange.proofs.tile_input.TileInput.of.Goals as goal

pub loop-layer-preserved : goal.loop-layer-preserved
loop-layer-preserved c =
    let within : c.loop-layer.layer < length c.args.bases.now = omega arith in
    let same : c.from.result ≡ c.loop-layer.layer = omega arith in
    made_more c.args.column c.loop-layer.layer c.from.result c.args.bases.now c.index-bases-from.result _ _ within same c.index-bases-from.is c.loop-layer.invariant c.in_ok-add_segments.ensures.marked c.in_ok-add_segments.ensures.proper c.in_ok-add_segments.ensures.valid

pub invariant_of-result : goal.invariant_of-result
invariant_of-result c =
    let full : length c.args.bases.now ≤ c.loop-layer.layer = omega arith in
    let small : c.args.column < column_count = omega arith in
    let few : c.args.steps.bases ≤ 32 = omega arith in
    let made = made_whole c.args.column c.loop-layer.layer c.args.bases.now _ full c.loop-layer.invariant in
    (made_input c.args.column c.args.bases.now _ c.args.steps small few c.requires made, made_few c.args.column c.args.bases.now _ c.args.steps.bases few c.requires made)

pub returns : goal.returns
returns c =
    let full : length c.args.bases.now ≤ c.loop-layer.layer = omega arith in
    let made = made_whole c.args.column c.loop-layer.layer c.args.bases.now _ full c.loop-layer.invariant in
    ap (λ ms. record { column = c.args.column; marked = ms; steps = c.args.steps }) made.kept
