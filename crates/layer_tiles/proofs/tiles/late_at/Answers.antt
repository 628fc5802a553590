use Rattle.std.proofs.Common.{◌<◌, length, arith}
use Rattle.layer_tiles.proofs.LateLemmas.{late_there}
use Rattle.layer_tiles.proofs.tiles.late_at.Goals as goal

pub returns-then-from-number-clause-some : goal.returns-then-from-number-clause-some
returns-then-from-number-clause-some c = λ row whole.
    let one = c.one-item.result in
    let there : c.loop-one.one-index < length c.args.late.now = omega (arith, c.loop-one-test.true) in
    late_there c.args.late.now c.loop-one.one-index one c.args.number row there c.one-item.is (omega (arith, c.if-from-number.true, c.from.ensures, c.number.ensures.value)) (omega (arith, c.if-from-number.true, c.from.ensures, c.number.ensures.value, c.number.ensures.small)) whole (c.loop-one.invariant row)
