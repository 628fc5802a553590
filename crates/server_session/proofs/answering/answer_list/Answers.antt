use Rattle.std.proofs.Common.{◌∙◌, ap}
use Rattle.std.proofs.lemmas.Result.{err_from_is_err_and}
use Rattle.layer_book.specs.Listing.{layers_text}
use Rattle.server_session.specs.Stores.{no_store}
use Rattle.server_session.proofs.AnswerLemmas.{list_gone, list_no_memory, list_reported}
use Rattle.server_session.proofs.answering.answer_list.Goals as goal

pub returns-in_err-version : goal.returns-in_err-version
returns-in_err-version c =
    let p = err_from_is_err_and c.from_residual.result c.from_residual.ensures.1 in
    let e = c.look.ensures in
    rw (p.1, p.2) (list_gone c.args.me.now c.look.new.me e.stays e.made no_store _ c.in_err-version.ensures.err)

pub returns-in_err-list : goal.returns-in_err-list
returns-in_err-list c =
    let p = err_from_is_err_and c.from_residual-in_err-list.result c.from_residual-in_err-list.ensures.1 in
    let e = c.look.ensures in
    rw (p.1, p.2) (list_no_memory c.args.me.now c.look.new.me e.stays e.made no_store)

pub returns : goal.returns
returns c =
    let e = c.look.ensures in
    list_reported c.args.me.now c.look.new.me e.stays e.made no_store _ _ (c.deref.ensures ∙ c.in_ok-version.ensures.newest) (c.in_ok-list.ensures ∙ ap layers_text c.layers.ensures.value)
