use Rattle.std.proofs.Common.{rules, ◌≡◌, ◌%◌, arith, unsigned_abs, subst, to_z-of_z}
use Rattle.std.specs.Int.{IsGcd}
use Rattle.std.proofs.lemmas.Nat.Gcd.{IsGcd-from_mod, IsGcd-swap, le_of_dvd}
use Rattle.exact_point.proofs.ReducedLemmas.{divisor_positive_by, size_positive}
use Rattle.exact_point.proofs.reducing.common_divisor.Goals as goal

value : (c : goal.After-gcd) → IsGcd (unsigned_abs c.args.w) (unsigned_abs c.args.y) c.gcd.result
value c =
    let g = c.gcd.result in
    let w : c.unsigned_abs-size.result ≡ unsigned_abs c.args.w = search (rules, to_z-of_z, c.unsigned_abs-size.ensures.value) in
    let y : c.unsigned_abs.result ≡ unsigned_abs c.args.y = search (rules, to_z-of_z, c.unsigned_abs.ensures.value) in
    IsGcd-swap _ _ _ (IsGcd-from_mod _ _ _ (subst (λ m. IsGcd (unsigned_abs c.args.w) (m % unsigned_abs c.args.w) g) y (subst (λ n. IsGcd n (c.unsigned_abs.result % n) g) w c.gcd.ensures)))

pub overflow_cast-result : goal.overflow_cast-result
overflow_cast-result c =
    let least = le_of_dvd (size_positive c.args.w c.requires.w_low) (value c).0 in
    omega (arith, c.requires.narrow)

pub returns-clause-value : goal.returns-clause-value
returns-clause-value c = value c

pub returns-clause-positive : goal.returns-clause-positive
returns-clause-positive c = divisor_positive_by _ _ (size_positive c.args.w c.requires.w_low) (value c).0
