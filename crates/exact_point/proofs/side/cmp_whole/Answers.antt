use Rattle.std.proofs.Common.{◌≡◌, ◌*ℤ◌, pos, ℤ, arith}
use Rattle.std.proofs.lemmas.Int.{ints}
use Rattle.exact_point.proofs.Comparing.{by_products, first_decides, second_decides}
use Rattle.exact_point.proofs.PointBounds.{scaled_is, w_read, w_read_low}
use Rattle.exact_point.proofs.Readings.{whole_read}
use Rattle.exact_point.proofs.side.cmp_whole.Goals as goal

once : (z : ℤ) → z ≡ z *ℤ pos 1
once z = omega (arith, ints)

pub scaled-requires-clause-x_small : goal.scaled-requires-clause-x_small
scaled-requires-clause-x_small c = whole_read _ c.x.ensures.in_range

pub scaled-requires-clause-w_low : goal.scaled-requires-clause-w_low
scaled-requires-clause-w_low c = w_read_low c.args.p.now

pub scaled-requires-clause-w_small : goal.scaled-requires-clause-w_small
scaled-requires-clause-w_small c = w_read c.args.p.now

pub returns-then-is_ne : goal.returns-then-is_ne
returns-then-is_ne c =
    let p = c.args.p.now in
    let x = by_products _ _ _ _ _ c.cmp-x.ensures (once p.x) (scaled_is c.args.p.now c.scaled.ensures.small c.scaled.ensures.value c.x.ensures.in_range c.x.ensures.value) in
    first_decides c.cmp-x.result _ _ c.is_ne.result x c.is_ne.ensures c.if-is_ne.true

pub scaled-requires-2-clause-x_small : goal.scaled-requires-2-clause-x_small
scaled-requires-2-clause-x_small c = whole_read _ c.y.ensures.in_range

pub scaled-requires-2-clause-w_low : goal.scaled-requires-2-clause-w_low
scaled-requires-2-clause-w_low c = w_read_low c.args.p.now

pub scaled-requires-2-clause-w_small : goal.scaled-requires-2-clause-w_small
scaled-requires-2-clause-w_small c = w_read c.args.p.now

pub returns : goal.returns
returns c =
    let p = c.args.p.now in
    let x = by_products _ _ _ _ _ c.cmp-x.ensures (once p.x) (scaled_is c.args.p.now c.scaled.ensures.small c.scaled.ensures.value c.x.ensures.in_range c.x.ensures.value) in
    let y = by_products _ _ _ _ _ c.cmp.ensures (once p.y) (scaled_is c.args.p.now c.scaled-2.ensures.small c.scaled-2.ensures.value c.y.ensures.in_range c.y.ensures.value) in
    second_decides c.cmp-x.result _ _ c.cmp.result c.is_ne.result x c.is_ne.ensures c.if-is_ne.false y
