use Rattle.std.proofs.Common.{◌≡◌, ◌<◌, length, get_or, true, ◌∙◌, arith, rules}
use Rattle.std.specs.Char.{is_ascii_alphabetic}
use Rattle.layer_expr.proofs.TokenLemmas.{name_at, name_within}
use Rattle.layer_expr.proofs.lexeme.next_lexeme.Goals as goal

pub returns-then-is_ascii_alphabetic-clause-some :
    goal.returns-then-is_ascii_alphabetic-clause-some
returns-then-is_ascii_alphabetic-clause-some c =
    let at = c.skip_blanks-at.result in
    let xs = c.args.bytes.now in
    let inside : at < length xs = omega arith in
    let letter : is_ascii_alphabetic (get_or xs at 0) ≡ true = search rules in
    c.skip_blanks-at.ensures.same ∙ name_at xs at c.name_end-end.result inside letter c.name_end-end.ensures

pub returns-then-is_ascii_alphabetic-clause-within :
    goal.returns-then-is_ascii_alphabetic-clause-within
returns-then-is_ascii_alphabetic-clause-within c =
    let at = c.skip_blanks-at.result in
    let xs = c.args.bytes.now in
    let inside : at < length xs = omega arith in
    let letter : is_ascii_alphabetic (get_or xs at 0) ≡ true = search rules in
    let within = name_within xs at c.name_end-end.result inside letter c.name_end-end.ensures in
    (within.0, omega (arith, within.0), within.1)
