use Rattle.std.proofs.Common.{◌≡◌, ◌<◌, length, ap, sym, ◌∙◌, arith}
use Rattle.layer_tiles.specs.Table.{count_missing}
use Rattle.layer_tiles.proofs.LateLemmas.{missing_fewer, missing_some, missing_there}
use Rattle.layer_tiles.proofs.tiles.TileRow.missing_with.Goals as goal

pub overflow_sub-result : goal.overflow_sub-result
overflow_sub-result c =
    let row = c.args.self.now in
    let told : c.self.inside.missing ≡ count_missing row = c.self.invariant.told ∙ ap count_missing c.self.view_is in
    let whole = sym (ap length c.self.view_is) ∙ c.self.invariant.whole in
    let there : c.args.column < length row = omega (arith, whole, c.number.ensures.value, c.number.ensures.small) in
    omega (arith, told, missing_some row c.args.column there (sym c.has.ensures ∙ c.if-has.false))

pub returns-then-has : goal.returns-then-has
returns-then-has c = λ tile.
    let row = c.args.self.now in
    let told : c.self.inside.missing ≡ count_missing row = c.self.invariant.told ∙ ap count_missing c.self.view_is in
    told ∙ missing_there row c.args.column tile (sym c.has.ensures ∙ c.if-has.true)

pub returns-else-has : goal.returns-else-has
returns-else-has c = λ tile.
    let row = c.args.self.now in
    let told : c.self.inside.missing ≡ count_missing row = c.self.invariant.told ∙ ap count_missing c.self.view_is in
    let whole = sym (ap length c.self.view_is) ∙ c.self.invariant.whole in
    let there : c.args.column < length row = omega (arith, whole, c.number.ensures.value, c.number.ensures.small) in
    omega (arith, told, missing_fewer row c.args.column tile there (sym c.has.ensures ∙ c.if-has.false))
