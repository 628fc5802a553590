use Rattle.std.proofs.Common.{◌≡◌, ◌<◌, arith, subst}
use Rattle.std.specs.Int.{IsGcd}
use Rattle.std.proofs.Math.Nat.{dvd_refl}
use Rattle.exact_point.proofs.FactorTwo.{IsGcd-from_next, least_is_odd, odd_rest}
use Rattle.exact_point.proofs.reducing.odd_gcd.Goals as goal

pub loop-x-preserved : goal.loop-x-preserved
loop-x-preserved c =
    let x = c.loop-x.x in
    let y = c.loop-x.y in
    let least = c.min-x.result in
    let apart = c.abs_diff-apart.result in
    let fits = c.abs_diff-apart.type_inv in
    let odd = least_is_odd x y least c.loop-x.invariant.0 c.loop-x.invariant.1 c.min-x.ensures in
    let more : 0 < apart = omega (arith, c.abs_diff-apart.ensures, c.loop-x-test.true) in
    (odd, odd_rest apart more fits, λ g h. c.loop-x.invariant.2 g (IsGcd-from_next x y least apart g odd fits c.min-x.ensures c.abs_diff-apart.ensures h))

pub returns : goal.returns
returns c =
    let x = c.loop-x.x in
    c.loop-x.invariant.2 x (subst (λ n. IsGcd x n x) c.loop-x-test.false (dvd_refl x, dvd_refl x, λ d h k. h))
