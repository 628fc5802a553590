use Rattle.std.proofs.Common.{ap, subst, sym, ◌∙◌}
use Rattle.book_history.specs.Logs.{history_of, newest_in}
use Rattle.book_lock.specs.Heard.{Heard}
use Rattle.kept_store.specs.Storing.{Flushes}
use Rattle.store_flushing.specs.declared.keeper.Keeper.{Keeper}
use Rattle.store_flushing.specs.ReportNote.{KeepsNotes}
use Rattle.overlay_terms.specs.Histories.{Version}
use Rattle.kept_store.specs.Failing.{FailsToWrite}
use Rattle.kept_store.specs.ReportedFaults.{reported_fault_of}
use Rattle.kept_store.proofs.FailLemmas.{err_is, failed_on, refused_fails}
use Rattle.kept_store.proofs.Following.{by_call, handed_on}
use Rattle.kept_store.proofs.Storage.{kept_on, then}
use Rattle.store_flushing.proofs.ReportedLemmas.{reporting_then}
use Rattle.store_flushing.proofs.flusher_loop.commit.Goals as goal

pub returns-in-Ok-clause-flushes : goal.returns-in-Ok-clause-flushes
returns-in-Ok-clause-flushes g c is =
    let d = g.D.Disk in
    let old = c.args.keeper.now in
    let mid = c.begin.new.self in
    let new = c.end_commit.new.keeper in
    let h = history_of old.reporter.log in
    let m = history_of mid.reporter.log in
    let e = c.begin.ensures in
    let began = kept_on d h m old.held.flusher mid.held.flusher (e.keeps is) (ap (λ (r : Heard). (newest_in r.log).durable) e.reporter) e.stored in
    then d h m (history_of new.reporter.log) old.held.flusher mid.held.flusher new.held.flusher began (c.end_commit.ensures.flushes began.store)

pub returns-in-Err-clause-flushes : goal.returns-in-Err-clause-flushes
returns-in-Err-clause-flushes g c is =
    let d = g.D.Disk in
    let old = c.args.keeper.now in
    let mid = c.begin.new.self in
    let h = history_of old.reporter.log in
    let m = history_of mid.reporter.log in
    let e = c.begin.ensures in
    let refused = kept_on d h m old.held.flusher mid.held.flusher (e.keeps is) (ap (λ (r : Heard). (newest_in r.log).durable) e.reporter) e.stored in
    subst (λ (k : Keeper g.row.D.Denot g.D.Disk). Flushes d h old.held.flusher (history_of k.reporter.log) k.held.flusher) (sym c.report_fault.ensures.nothing) refused

pub returns-in-Ok-clause-notes_stay : goal.returns-in-Ok-clause-notes_stay
returns-in-Ok-clause-notes_stay g c =
    reporting_then g.D.Disk c.args.keeper.now c.begin.new.self c.end_commit.new.keeper c.begin.ensures.notes_stay (λ is. (c.begin.ensures.keeps is).store) c.end_commit.ensures.notes_stay

pub returns-in-Err-clause-notes_stay : goal.returns-in-Err-clause-notes_stay
returns-in-Err-clause-notes_stay g c =
    subst (λ (k : Keeper g.row.D.Denot g.D.Disk). KeepsNotes g.D.Disk c.args.keeper.now k) (sym c.report_fault.ensures.nothing) c.begin.ensures.notes_stay

pub end_commit-requires-clause-stored : goal.end_commit-requires-clause-stored
end_commit-requires-clause-stored g c =
    let d = g.D.Disk in
    let old = c.args.keeper.now in
    let mid = c.begin.new.self in
    let h = history_of old.reporter.log in
    let m = history_of mid.reporter.log in
    handed_on d g.J.BookName.stored h m old.held.flusher mid.held.flusher (λ is. by_call d h m old.held.flusher mid.held.flusher c.begin.ensures.name (c.begin.ensures.keeps is)) c.requires.stored

pub end_commit-requires-clause-failed : goal.end_commit-requires-clause-failed
end_commit-requires-clause-failed g c =
    let d = g.D.Disk in
    let old = c.args.keeper.now in
    let mid = c.begin.new.self in
    let h = history_of old.reporter.log in
    let m = history_of mid.reporter.log in
    failed_on d g.J.BookName.failed h m old.held.flusher mid.held.flusher
    (λ is. let kept = c.begin.ensures.keeps is in (by_call d h m old.held.flusher mid.held.flusher c.begin.ensures.name kept, kept.by_device, kept.blocks)) c.requires.failed

pub report_fault-requires-clause-failed : goal.report_fault-requires-clause-failed
report_fault-requires-clause-failed g c =
    let d = g.D.Disk in
    let old = c.args.keeper.now in
    let mid = c.begin.new.self in
    let h = history_of old.reporter.log in
    let m = history_of mid.reporter.log in
    let fault = reported_fault_of c.in-Err.fault in
    let newest = c.requires.newest ∙ sym (ap (λ (r : Heard). newest_in r.log) c.begin.ensures.reporter) in
    let refused : FailsToWrite old.held.flusher old.held.flusher c.args.version.now fault =
    refused_fails d old.held.flusher c.args.version.now c.in-Err.fault c.requires.idle (λ at. err_is c.begin.result _ _ c.in-Err.is (c.begin.ensures.failed at)) c.in-Err.ensures.errors in
    c.requires.failed mid.reporter.log fault (λ is.
    let kept = c.begin.ensures.keeps is in
    record {
      store = mid.held.flusher;
      followed = by_call d h m old.held.flusher mid.held.flusher c.begin.ensures.name kept;
      by_device = kept.by_device;
      blocks = kept.blocks;
      fails = subst (λ (v : Version). FailsToWrite old.held.flusher mid.held.flusher v fault) newest (subst (λ (k : Keeper g.row.D.Denot g.D.Disk). FailsToWrite old.held.flusher k.held.flusher c.args.version.now fault) (sym c.in-Err.ensures.err) refused);
    })
