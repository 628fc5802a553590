use Rattle.std.proofs.Common.{All, subst}
use Rattle.book_history.specs.Logs.{history_of}
use Rattle.book_history.proofs.Chains.{begins_with, is_history}
use Rattle.book_lock.specs.Steps.{HasAllOf}
use Rattle.store_flushing.specs.ReportNote.{notes_in}
use Rattle.store_flushing.proofs.Closings.{exactly_left, files_left, reported_left, notes_left}
use Rattle.store_flushing.proofs.closed.close.Goals as goal

pub returns-clause-sessions : goal.returns-clause-sessions
returns-clause-sessions g c = subst (λ xs. All (λ session. HasAllOf c.end_book-book.result.seen_log.log session) xs) c.deref.ensures.value c.end_book-book.ensures.sessions

pub returns-clause-reported : goal.returns-clause-reported
returns-clause-reported g c =
    let left = c.end_book-book.result in
    let ended = c.end_book-book.ensures in
    reported_left c.args.store c.left_of-stored.result.stored c.left_of-stored.result.disk c.left_of-stored.ensures.some c.args.reporter left.seen_log.log ended.reporter ended.durable

pub returns-clause-files : goal.returns-clause-files
returns-clause-files g c =
    let was = c.args.reporter.log in
    let left = c.end_book-book.result in
    let ended = c.end_book-book.ensures in
    files_left g.D.Disk (history_of was) (history_of left.seen_log.log) (begins_with was left.seen_log.log ended.begun ended.reporter.longer) c.args.store c.left_of-stored.result.stored c.left_of-stored.result.disk c.left_of-stored.ensures.some

pub returns-clause-exactly : goal.returns-clause-exactly
returns-clause-exactly g c =
    let was = c.args.reporter.log in
    let left = c.end_book-book.result in
    let ended = c.end_book-book.ensures in
    exactly_left g.D.Disk (history_of was) (history_of left.seen_log.log) (begins_with was left.seen_log.log ended.begun ended.reporter.longer) c.args.store c.left_of-stored.result.stored c.left_of-stored.result.disk c.left_of-stored.ensures.some

pub returns-clause-notes_stay : goal.returns-clause-notes_stay
returns-clause-notes_stay g c =
    let was = c.args.reporter.log in
    let left = c.end_book-book.result in
    let now = left.seen_log.log in
    let ended = c.end_book-book.ensures in
    notes_left g.D.Disk (history_of was) (history_of now) (begins_with was now ended.begun ended.reporter.longer)
    (is_history now ended.log.1) ended.reporter.durable (notes_in c.args.notes) c.args.store c.left_of-stored.result.stored c.left_of-stored.result.disk c.left_of-stored.ensures.some
