use Rattle.std.proofs.Common.{◌≡◌, ◌+◌, min, length, ap, ◌∙◌, sym, true, false, arith, rules}
use Rattle.overlay_terms.specs.Bytes.{digits_value}
use Rattle.wkt_form.specs.Number.{is_whole, unsigned, before_point}
use Rattle.wkt_form.proofs.FirstDigits.{front_digits, fraction_is_whole}
use Rattle.wkt_form.proofs.number.number_of.Goals as goal

pub returns-then-not-are_zeros : goal.returns-then-not-are_zeros
returns-then-not-are_zeros c =
    let run = c.args.run.now in
    let digits = c.unsigned-digits.result.now in
    let count = c.leading_digits-size.result.1 in
    let place : c.min.result ≡ min (length digits) (count + 1) = omega (arith, c.min.ensures) in
    let whole = fraction_is_whole run digits count c.min.result (search rules) c.unsigned-digits.ensures c.leading_digits-size.ensures.count place in
    let fraction : is_whole run ≡ false = sym whole ∙ search rules in
    search rules

pub returns : goal.returns
returns c =
    let run = c.args.run.now in
    let digits = c.unsigned-digits.result.now in
    let count = c.leading_digits-size.result.1 in
    let place : c.min.result ≡ min (length digits) (count + 1) = omega (arith, c.min.ensures) in
    let whole = fraction_is_whole run digits count c.min.result (search rules) c.unsigned-digits.ensures c.leading_digits-size.ensures.count place in
    let is : is_whole run ≡ true = sym whole ∙ search rules in
    let front = front_digits run digits count (search rules) c.unsigned-digits.ensures c.leading_digits-size.ensures.count in
    let size : c.leading_digits-size.result.0 ≡ min 2097152 (digits_value (before_point (unsigned run))) =
    c.leading_digits-size.ensures.size ∙ ap (λ ds. min 2097152 (digits_value ds)) front in
    let worth = c.whole_worth.ensures _ size in
    search rules
