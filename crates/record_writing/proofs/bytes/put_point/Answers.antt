use Rattle.std.proofs.Common.{◌≡◌, ◌++◌, List, ℕ, ap, ◌∙◌, append_assoc, arith}
use Rattle.std.specs.Int.{w64, cast_signed, cast_unsigned}
use Rattle.std.proofs.lemmas.Int.{ints, to_z-of_z, fits_signed_from_abs}
use Rattle.std.proofs.lemmas.Result.{on_ok_weaker}
use Rattle.store_terms.specs.BaseRecord.{coordinate}
use Rattle.record_writing.proofs.bytes.put_point.Goals as goal

pub returns-clause-spelled : goal.returns-clause-spelled
returns-clause-spelled c =
    let old = c.args.out.now.items in
    let x = cast_signed w64 (cast_unsigned w64 c.x.result) in
    let y = cast_signed w64 (cast_unsigned w64 c.y.result) in
    let x_is : x ≡ c.args.point.x = to_z-of_z w64 c.x.result (fits_signed_from_abs w64 c.x.result (grind (arith, ints, c.x.ensures.in_range))) ∙ c.x.ensures.value in
    let y_is : y ≡ c.args.point.y = to_z-of_z w64 c.y.result (fits_signed_from_abs w64 c.y.result (grind (arith, ints, c.y.ensures.in_range))) ∙ c.y.ensures.value in
    on_ok_weaker c.put_coordinate-2.result
    (λ is. is ∙ ap (λ (l : List ℕ). l ++ coordinate.text y) c.in_ok-put_coordinate.ensures.spelled
    ∙ append_assoc old (coordinate.text x) (coordinate.text y)
    ∙ (λ i. old ++ (coordinate.text (x_is i) ++ coordinate.text (y_is i))))
    c.put_coordinate-2.ensures.spelled
