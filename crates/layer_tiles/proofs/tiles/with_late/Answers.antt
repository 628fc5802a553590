use Rattle.std.proofs.Common.{◌<◌, length, refl, ap, arith}
use Rattle.tile_build.specs.Tile.{named_pieces}
use Rattle.layer_tiles.proofs.LateLemmas.{below_more}
use Rattle.layer_tiles.proofs.tiles.with_late.Goals as goal

pub loop-one-preserved : goal.loop-one-preserved
loop-one-preserved c =
    let there : c.loop-one.one-index < length c.args.late.now = omega (arith, c.loop-one-test.true) in
    let one = c.one-item.result in
    below_more c.loop-one.with.items c.push-in-loop-one.new.self.items c.args.late.now c.loop-one.one-index c.args.column (named_pieces c.args.tile.value) one (record { column = one.column; tile = c.in_ok-clone.field-0 })
    there c.one-item.is refl (ap (λ t. named_pieces t) c.in_ok-clone.ensures.cases) c.loop-one.invariant c.in_ok-push-2.ensures.items
