use Rattle.std.proofs.Common.{ap, ◌∙◌, w64}
use Rattle.std.proofs.lemmas.Int.{to_z-of_z}
use Rattle.std.proofs.lemmas.Result.{err_from_is_err_and}
use Rattle.script_form.specs.Transcript.{asked_column}
use Rattle.server_session.specs.Stores.{no_store}
use Rattle.server_session.proofs.TileAnswers.{verify_unnamed, verify_gone, verify_refused, verify_reported}
use Rattle.server_session.proofs.answering.answer_verify.Goals as goal

pub returns-in_err-name : goal.returns-in_err-name
returns-in_err-name c =
    let p = err_from_is_err_and c.from_residual.result c.from_residual.ensures.1 in
    rw (p.1, p.2) (verify_unnamed no_store c.args.me.now c.args.name.now c.args.number _ c.in_err-name.ensures.refused)

pub returns-in_err-version : goal.returns-in_err-version
returns-in_err-version c =
    let p = err_from_is_err_and c.from_residual-in_err-version.result c.from_residual-in_err-version.ensures.1 in
    let e = c.look.ensures in
    rw (p.1, p.2) (verify_gone c.args.me.now c.look.new.me e.stays e.made no_store c.args.name.now c.args.number _ c.in_ok-name.ensures.ok.1 c.in_err-version.ensures.err)

pub returns-in_err-verdict : goal.returns-in_err-verdict
returns-in_err-verdict c =
    let p = err_from_is_err_and c.from_residual-in_err-verdict.result c.from_residual-in_err-verdict.ensures.1 in
    let named = c.in_ok-name.ensures.ok in
    let column = c.asked_column.ensures ∙ ap asked_column (to_z-of_z w64 c.args.number c.ranges.number) in
    let e = c.look.ensures in
    rw (p.1, p.2) (verify_refused c.args.me.now c.look.new.me e.stays e.made no_store c.args.name.now _ c.args.number _ _ _ (c.deref.ensures ∙ c.in_ok-version.ensures.newest) named.0 column named.1 c.in_err-verdict.ensures.refused)

pub returns : goal.returns
returns c =
    let named = c.in_ok-name.ensures.ok in
    let column = c.asked_column.ensures ∙ ap asked_column (to_z-of_z w64 c.args.number c.ranges.number) in
    let e = c.look.ensures in
    verify_reported c.args.me.now c.look.new.me e.stays e.made no_store c.args.name.now _ c.args.number _ _ _ (c.deref.ensures ∙ c.in_ok-version.ensures.newest) named.0 column named.1 c.in_ok-verdict.ensures.accepted c.in_ok-verdict.ensures.same
