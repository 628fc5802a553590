use Rattle.std.proofs.Common.{◌<◌, arith}
use Rattle.exact_point.proofs.FactorTwo.{IsGcd-put_back_whole, odd_rest}
use Rattle.exact_point.proofs.reducing.gcd.Goals as goal

pub odd_gcd-requires : goal.odd_gcd-requires
odd_gcd-requires c =
    let more : 0 < c.args.b = omega (arith, c.if-b-eq0.false) in
    record { odd = odd_rest c.args.a c.requires.positive c.ranges.a.fits; other_odd = odd_rest c.args.b more c.ranges.b.fits }

pub returns : goal.returns
returns c =
    let more : 0 < c.args.b = omega (arith, c.if-b-eq0.false) in
    IsGcd-put_back_whole c.args.a c.args.b c.odd_gcd.result c.min.result c.requires.positive c.ranges.a.fits more c.ranges.b.fits c.min.ensures c.odd_gcd.ensures
