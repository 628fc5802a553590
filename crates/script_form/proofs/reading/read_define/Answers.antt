use Rattle.std.proofs.Common.{inl, refl}
use Rattle.std.proofs.lemmas.Result.{err_from_is_err_and}
use Rattle.script_form.proofs.ReadLemmas.{define_text_refused}
use Rattle.script_form.proofs.reading.read_define.Goals as goal

pub returns-in_err-expression-clause-refused : goal.returns-in_err-expression-clause-refused
returns-in_err-expression-clause-refused c =
    let p = err_from_is_err_and c.from_residual-in_err-expression.result c.from_residual-in_err-expression.ensures.1 in
    rw (p.1, p.2) (define_text_refused c.args.name.now c.args.text.now _ c.in_ok-defined.ensures.ok.1 c.in_err-expression.ensures.refused)

pub returns-in_err-definition-clause-refused : goal.returns-in_err-definition-clause-refused
returns-in_err-definition-clause-refused c =
    let p = err_from_is_err_and c.from_residual-in_err-definition.result c.from_residual-in_err-definition.ensures.1 in
    rw (p.1, p.2) (inl (c.in_ok-defined.ensures.ok.1, refl, refl))
