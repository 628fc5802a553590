use Rattle.std.proofs.Common.{◌≡◌, ◌∙◌, None, Some, MatchOption, ap, subst, sym}
use Rattle.book_history.specs.BookLogs.{BookLog}
use Rattle.overlay_server.specs.Answering.{answer_in}
use Rattle.overlay_server.proofs.Refusals.{may_answer, refused_at_once}
use Rattle.overlay_server.proofs.StoreParts.{stopped_at_once}
use Rattle.overlay_server.proofs.hosting.host.Goals as goal

pub returns-in-Err-clause-refused : goal.returns-in-Err-clause-refused
returns-in-Err-clause-refused g c =
    let opened = c.open_book-begun in
    λ all. refused_at_once g.D.Disk c.args.version c.args.store.flusher all c.refused.result opened.result.1
    (record { code = c.refused.ensures.code; same = c.refused.ensures.answer; may = may_answer opened.result.0 (answer_in opened.result.1) opened.ensures.answer opened.ensures.err })
    (ap (λ (l : BookLog). l.log) (c.refused.ensures.seen_log ∙ c.again-first.ensures) ∙ c.requires.begun) c.refused.ensures.notes c.refused.ensures.sessions
    (stopped_at_once g.D.Disk c.args.version c.args.store.flusher c.refused.result.disk c.only_now.ensures
    (subst (λ o. MatchOption c.args.store.flusher (o ≡ None) (λ f. o ≡ Some f.commit.disk)) (sym c.refused.ensures.disk) c.into_disk.ensures))
