use Rattle.std.proofs.Common.{◌∙◌, sym}
use Rattle.std.proofs.lemmas.Bool.{not-true, not-false}
use Rattle.std.proofs.lemmas.Result.{err_from_is_err_and}
use Rattle.record_reading.proofs.DefinitionLemmas.{refused_fails, same_text, another_text}
use Rattle.record_reading.proofs.definition_record.definition_in.Goals as goal

pub returns-in_err-expression : goal.returns-in_err-expression
returns-in_err-expression c =
    let p = err_from_is_err_and c.from_residual.result c.from_residual.ensures.1 in
    rw (p.1, p.2) (refused_fails c.args.bytes.now c.in_err-expression.field-0.0 c.in_err-expression.ensures.refused)

pub returns-then-ne : goal.returns-then-ne
returns-then-ne c =
    another_text c.as_slice.result.now c.args.bytes.now c.in_ok-expression.expression c.in_ok-expression.ensures.ok
    (c.as_slice.ensures.value ∙ c.in_ok-text.ensures)
    (not-true _ (sym c.ne.ensures ∙ c.if-ne.true))

pub returns : goal.returns
returns c =
    same_text c.as_slice.result.now c.args.bytes.now c.in_ok-expression.expression c.in_ok-expression.ensures.ok
    (c.as_slice.ensures.value ∙ c.in_ok-text.ensures)
    (not-false _ (sym c.ne.ensures ∙ c.if-ne.false))
