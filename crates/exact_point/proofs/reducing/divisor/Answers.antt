use Rattle.std.proofs.Common.{rules, arith, ◌≡◌, ℕ, ◌%◌, ◌<◌, unsigned_abs, subst}
use Rattle.std.proofs.lemmas.Int.{to_z-of_z}
use Rattle.std.specs.Int.{IsGcd}
use Rattle.exact_point.specs.Place.{place}
use Rattle.exact_point.specs.Reduced.{IsDivisorOf}
use Rattle.exact_point.proofs.ReducedLemmas.{divisor_of, divisor_positive, divisor_positive_by, size_positive}
use Rattle.exact_point.proofs.reducing.divisor.Goals as goal

pub rest_of-requires-clause-positive : goal.rest_of-requires-clause-positive
rest_of-requires-clause-positive c =
    let w : c.unsigned_abs-w.result ≡ unsigned_abs c.args.p.now.w = search (rules, to_z-of_z, c.unsigned_abs-w.ensures.value) in
    omega (arith, size_positive c.args.p.now.w c.args.p.now.w_low)

pub rest_of-requires-2-clause-positive : goal.rest_of-requires-2-clause-positive
rest_of-requires-2-clause-positive c =
    let w : c.unsigned_abs-w.result ≡ unsigned_abs c.args.p.now.w = search (rules, to_z-of_z, c.unsigned_abs-w.ensures.value) in
    let more : 0 < c.unsigned_abs-w.result = omega (arith, size_positive c.args.p.now.w c.args.p.now.w_low) in
    divisor_positive_by c.gcd-of_x.result c.unsigned_abs-w.result more c.gcd-of_x.ensures.0

value : (c : goal.After-gcd) → IsDivisorOf (place c.args.p.now) c.gcd.result
value c =
    let p = c.args.p.now in
    let w : ℕ = c.unsigned_abs-w.result in
    let ew : w ≡ unsigned_abs p.w = search (rules, to_z-of_z, c.unsigned_abs-w.ensures.value) in
    let x : c.rest_of.result ≡ unsigned_abs p.x % w = search (rules, to_z-of_z, c.rest_of.ensures) in
    let y : c.rest_of-2.result ≡ unsigned_abs p.y % c.gcd-of_x.result = search (rules, to_z-of_z, c.rest_of-2.ensures) in
    divisor_of (place p) w _ _ ew (subst (λ m. IsGcd w m c.gcd-of_x.result) x c.gcd-of_x.ensures) (subst (λ m. IsGcd c.gcd-of_x.result m c.gcd.result) y c.gcd.ensures)

pub returns-clause-value : goal.returns-clause-value
returns-clause-value c = value c

pub returns-clause-positive : goal.returns-clause-positive
returns-clause-positive c = divisor_positive (place c.args.p.now) _ c.args.p.now.w_low (value c)
