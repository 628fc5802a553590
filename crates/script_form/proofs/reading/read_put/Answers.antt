use Rattle.std.proofs.Common.{inl, refl}
use Rattle.std.proofs.lemmas.Result.{err_from_is_err_and}
use Rattle.script_form.proofs.ReadLemmas.{put_text_refused}
use Rattle.script_form.proofs.reading.read_put.Goals as goal

pub returns-in_err-layer-clause-refused : goal.returns-in_err-layer-clause-refused
returns-in_err-layer-clause-refused c =
    let p = err_from_is_err_and c.from_residual-in_err-layer.result c.from_residual-in_err-layer.ensures.1 in
    rw (p.1, p.2) (put_text_refused c.args.name.now c.args.text.now _ c.in_ok-name.ensures.ok.1 c.in_err-layer.ensures.refused)

pub returns-in_err-rings-clause-refused : goal.returns-in_err-rings-clause-refused
returns-in_err-rings-clause-refused c =
    let p = err_from_is_err_and c.from_residual-in_err-rings.result c.from_residual-in_err-rings.ensures.1 in
    rw (p.1, p.2) (inl (c.in_ok-name.ensures.ok.1, refl, refl))
