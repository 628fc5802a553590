use Rattle.std.proofs.Common.{◌≡◌, ◌+◌, ◌-◌, ◌≤◌, ◌^◌, ℕ, ℤ, ◌++◌, length, drop, unsigned_abs, ap, arith, rules, to_z-of_z}
use Rattle.std.specs.Fmt.{decimal}
use Rattle.std.proofs.lemmas.Fmt.{length-decimal-le}
use Rattle.std.proofs.lemmas.List.{drop-set}
use Rattle.itoa.proofs.Decimal.{minus_first}
use Rattle.version_core.proofs.place_text.put_wide.Goals as goal

-- the digits of the size of a number
digits : (n : ℤ) (size : ℕ) → unsigned_abs n ≤ 2 ^ 63 → size ≡ unsigned_abs n → length (decimal size) ≤ 19
digits n size h e = length-decimal-le 19 size (omega arith) (omega arith) (omega arith)

pub write_digits-start-requires : goal.write_digits-start-requires
write_digits-start-requires c =
    let size : c.unsigned_abs.result ≡ unsigned_abs c.args.n = search (rules, to_z-of_z, c.unsigned_abs.ensures.value) in
    (omega (arith, digits c.args.n c.unsigned_abs.result c.requires.small size), search rules)

pub returns-then-n-ge0-clause-short : goal.returns-then-n-ge0-clause-short
returns-then-n-ge0-clause-short c =
    let size : c.unsigned_abs.result ≡ unsigned_abs c.args.n = search (rules, to_z-of_z, c.unsigned_abs.ensures.value) in
    omega (arith, digits c.args.n c.unsigned_abs.result c.requires.small size)

pub overflow_sub-bytes : goal.overflow_sub-bytes
overflow_sub-bytes c =
    let size : c.unsigned_abs.result ≡ unsigned_abs c.args.n = search (rules, to_z-of_z, c.unsigned_abs.ensures.value) in
    omega (arith, digits c.args.n c.unsigned_abs.result c.requires.small size)

pub overflow_sub-result : goal.overflow_sub-result
overflow_sub-result c =
    let size : c.unsigned_abs.result ≡ unsigned_abs c.args.n = search (rules, to_z-of_z, c.unsigned_abs.ensures.value) in
    omega (arith, digits c.args.n c.unsigned_abs.result c.requires.small size)

pub returns-clause-short : goal.returns-clause-short
returns-clause-short c =
    let size : c.unsigned_abs.result ≡ unsigned_abs c.args.n = search (rules, to_z-of_z, c.unsigned_abs.ensures.value) in
    omega (arith, digits c.args.n c.unsigned_abs.result c.requires.small size)

pub returns-clause-written : goal.returns-clause-written
returns-clause-written c =
    let w = c.write_digits-start in
    let size : c.unsigned_abs.result ≡ unsigned_abs c.args.n = search (rules, to_z-of_z, c.unsigned_abs.ensures.value) in
    let long = digits c.args.n c.unsigned_abs.result c.requires.small size in
    let e : w.result - 1 + 1 ≡ w.result = omega arith in
    let back = to_z-of_z c.ranges.n in
    rw (drop-set w.new.buf (w.result - 1) 45 (omega arith), e, w.ensures.written, c.unsigned_abs.ensures.value, back)
    (ap (λ t. t ++ drop c.args.end c.args.bytes.now) (minus_first c.args.n (rw back at c.if-n-ge0.false)))
