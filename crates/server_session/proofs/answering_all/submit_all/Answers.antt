use Rattle.std.proofs.Common.{subst, sym, ap, ◌∙◌}
use Rattle.overlay_terms.specs.Histories.{newest}
use Rattle.book_history.specs.Known.{seen}
use Rattle.layer_book.specs.BatchFault.{code_of}
use Rattle.layer_book.specs.declared.batch_fault.BatchFault.{BatchFault}
use Rattle.script_form.specs.Replies.{error_line, refused_line}
use Rattle.server_session.specs.Fault.{IsBatchNumber}
use Rattle.server_session.proofs.BatchFaults.{batch_fault_text, batch_number, is_numbered}
use Rattle.server_session.proofs.AnswerLemmas.{submits_all_accepted, submits_all_refused}
use Rattle.server_session.proofs.answering_all.submit_all.Goals as goal

pub returns-in-Ok : goal.returns-in-Ok
returns-in-Ok g c =
    let e = c.submit_all.ensures in
    let done = c.in-Ok.ensures in
    submits_all_accepted c.args.me.now c.submit_all.new.me _ c.in-Ok.number e.goes_on e.same done.ok done.made

pub numbered-requires : goal.numbered-requires
numbered-requires g c = subst (λ (f : BatchFault). IsBatchNumber (code_of f)) c.in-Err-At.field-0-is (batch_number (newest (seen c.submit_all.new.me)) c.args.batch.now _ c.in-Err-At.ensures.refused)

pub numbered-requires-in-Err-Whole : goal.numbered-requires-in-Err-Whole
numbered-requires-in-Err-Whole g c = subst (λ (f : BatchFault). IsBatchNumber (code_of f)) c.in-Err-Whole.field-0-is (batch_number (newest (seen c.submit_all.new.me)) c.args.batch.now _ c.in-Err-Whole.ensures.refused)

pub returns-in-Err-At : goal.returns-in-Err-At
returns-in-Err-At g c =
    let e = c.submit_all.ensures in
    let refused = c.in-Err-At.ensures in
    submits_all_refused c.args.me.now c.submit_all.new.me _ _ e.goes_on e.same refused.err refused.refused _ (ap (refused_line c.in-Err-At.place) (is_numbered _ _ c.numbered.ensures) ∙ ap batch_fault_text (sym c.in-Err-At.field-0-is))

pub returns-in-Err-Whole : goal.returns-in-Err-Whole
returns-in-Err-Whole g c =
    let e = c.submit_all.ensures in
    let refused = c.in-Err-Whole.ensures in
    submits_all_refused c.args.me.now c.submit_all.new.me _ _ e.goes_on e.same refused.err refused.refused _ (ap error_line (is_numbered _ _ c.numbered-in-Err-Whole.ensures) ∙ ap batch_fault_text (sym c.in-Err-Whole.field-0-is))
