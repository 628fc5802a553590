use Rattle.std.proofs.Common.{◌≡◌, ◌<◌, false, drop, refl, arith}
use Rattle.std.proofs.lemmas.List.{take_rest}
use Rattle.overlay_terms.specs.Bytes.{begins}
use Rattle.wkt_form.specs.Token.{is_run_byte}
use Rattle.wkt_form.proofs.PlainNumbers.{plain_run}
use Rattle.wkt_form.proofs.number.plain_number.Goals as goal

pub returns : goal.returns
returns c =
    let digits = c.unsigned-digits.result.now in
    let count = c.leading_digits-size.result.1 in
    let some : 0 < count = grind arith in
    let ends : begins is_run_byte (drop count digits) ≡ false = grind (arith, take_rest digits count) in
    let worth = c.whole_worth.ensures _ c.leading_digits-size.ensures.size in
    plain_run c.args.bytes.now digits _ count _ c.unsigned-digits.ensures c.leading_digits-size.ensures.count some ends worth refl
