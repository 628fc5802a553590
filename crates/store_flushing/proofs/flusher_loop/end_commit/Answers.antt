use Rattle.disk_model.specs.Disk as device
use Rattle.commit_plan.specs.declared.fault.StoreFault.TheVariants as faults
use Rattle.std.proofs.Common.{◌≡◌, ◌⊎◌, Ok, refl, ap, sym, ◌∙◌, subst}
use Rattle.book_history.specs.Logs.{history_of, newest_in}
use Rattle.book_lock.specs.Heard.{Heard}
use Rattle.flush_core.specs.Stored.{stored_after}
use Rattle.kept_store.specs.Storing.{Flushes}
use Rattle.store_flushing.specs.ReportNote.{KeepsNotes}
use Rattle.store_flushing.specs.declared.keeper.Keeper.{Keeper}
use Rattle.kept_store.specs.ReportedFaults.{reported_fault_of}
use Rattle.kept_store.proofs.FailLemmas.{failed_then, on_err, step_fails}
use Rattle.kept_store.proofs.Following.{by_call, by_run, further}
use Rattle.kept_store.proofs.Storage.{begun, kept_on, then, reported_all}
use Rattle.store_flushing.proofs.ReportedLemmas.{reporting_self, reporting_then}
use Rattle.store_flushing.proofs.flusher_loop.end_commit.Goals as goal

pub calls-init : goal.calls-init
calls-init g c =
    let s = c.args.keeper.now.held.flusher in (
      refl,
      λ is. begun g.D.Disk (history_of c.args.keeper.now.reporter.log) s (λ f left. g.met.D.Disk.only_now s.commit.disk f is.honest left) is,
      reporting_self g.D.Disk c.args.keeper.now,
      refl,
    )

pub calls-preserved : goal.calls-preserved
calls-preserved g c = (
  ap (λ (r : Heard). r.book) c.step.ensures.reporter ∙ c.calls.invariant.0,
  λ is.
      let d = g.D.Disk in
      let first = c.args.keeper.now in
      let mid = c.calls.keeper in
      let new = c.step.new.self in
      let was = c.calls.invariant.1 is in
      let e = c.step.ensures in
      let m = history_of mid.reporter.log in
      let n = history_of new.reporter.log in
      let same = ap (λ (r : Heard). (newest_in r.log).durable) e.reporter in
      let stored = e.stored ∙ ap (λ r. stored_after r mid.held.flusher.commit.root.version) (c.in-Ok-Going.is ∙ ap Ok c.in-Ok-Going.field-0-is) in
      then d (history_of first.reporter.log) m n first.held.flusher mid.held.flusher new.held.flusher was
      (kept_on d m n mid.held.flusher new.held.flusher (e.keeps was.store) same stored),
  reporting_then g.D.Disk c.args.keeper.now c.calls.keeper c.step.new.self c.calls.invariant.2 (λ is. (c.calls.invariant.1 is).store) c.step.ensures.notes_stay,
  c.step.ensures.name ∙ c.calls.invariant.3,
)

pub returns-in-Ok-Idle-clause-flushes : goal.returns-in-Ok-Idle-clause-flushes
returns-in-Ok-Idle-clause-flushes g c is =
    let d = g.D.Disk in
    let first = c.args.keeper.now in
    let mid = c.calls.keeper in
    let new = c.step.new.self in
    let was = c.calls.invariant.1 is in
    let e = c.step.ensures in
    let m = history_of mid.reporter.log in
    let n = history_of new.reporter.log in
    let same = ap (λ (r : Heard). (newest_in r.log).durable) e.reporter in
    let stored = e.stored ∙ ap (λ r. stored_after r mid.held.flusher.commit.root.version) (c.in-Ok-Idle.is ∙ ap Ok c.in-Ok-Idle.field-0-is) in
    then d (history_of first.reporter.log) m n first.held.flusher mid.held.flusher new.held.flusher was
    (kept_on d m n mid.held.flusher new.held.flusher (e.keeps was.store) same stored)

pub returns-in-Ok-Done-clause-flushes : goal.returns-in-Ok-Done-clause-flushes
returns-in-Ok-Done-clause-flushes g c is =
    let d = g.D.Disk in
    let first = c.args.keeper.now in
    let mid = c.calls.keeper in
    let done = c.step.new.self in
    let reported = c.report.new.self in
    let was = c.calls.invariant.1 is in
    let m = history_of mid.reporter.log in
    let k = history_of done.reporter.log in
    let n = history_of reported.reporter.log in
    let one = c.step.ensures.keeps was.store in
    then d (history_of first.reporter.log) m n first.held.flusher mid.held.flusher reported.held.flusher was
    (reported_all d m k n mid.held.flusher done.held.flusher reported.held.flusher one (c.report.ensures.keeps one.store) (c.report.ensures.reported one.store))

pub returns-in-Err-clause-flushes : goal.returns-in-Err-clause-flushes
returns-in-Err-clause-flushes g c is =
    let d = g.D.Disk in
    let first = c.args.keeper.now in
    let mid = c.calls.keeper in
    let new = c.step.new.self in
    let was = c.calls.invariant.1 is in
    let e = c.step.ensures in
    let m = history_of mid.reporter.log in
    let n = history_of new.reporter.log in
    let same = ap (λ (r : Heard). (newest_in r.log).durable) e.reporter in
    let stored = e.stored ∙ ap (λ r. stored_after r mid.held.flusher.commit.root.version) c.in-Err.is in
    subst (λ (k : Keeper g.row.D.Denot g.D.Disk). Flushes d (history_of first.reporter.log) first.held.flusher (history_of k.reporter.log) k.held.flusher) (sym c.report_fault.ensures.nothing)
    (then d (history_of first.reporter.log) m n first.held.flusher mid.held.flusher new.held.flusher was
    (kept_on d m n mid.held.flusher new.held.flusher (e.keeps was.store) same stored))

pub returns-in-Ok-Idle-clause-notes_stay : goal.returns-in-Ok-Idle-clause-notes_stay
returns-in-Ok-Idle-clause-notes_stay g c =
    reporting_then g.D.Disk c.args.keeper.now c.calls.keeper c.step.new.self c.calls.invariant.2 (λ is. (c.calls.invariant.1 is).store) c.step.ensures.notes_stay

pub returns-in-Ok-Done-clause-notes_stay : goal.returns-in-Ok-Done-clause-notes_stay
returns-in-Ok-Done-clause-notes_stay g c =
    let first = c.args.keeper.now in
    let mid = c.calls.keeper in
    let done = c.step.new.self in
    reporting_then g.D.Disk first mid c.report.new.self c.calls.invariant.2 (λ is. (c.calls.invariant.1 is).store)
    (reporting_then g.D.Disk mid done c.report.new.self c.step.ensures.notes_stay (λ is. (c.step.ensures.keeps is).store) c.report.ensures.notes_stay)

pub returns-in-Err-clause-notes_stay : goal.returns-in-Err-clause-notes_stay
returns-in-Err-clause-notes_stay g c =
    subst (λ (k : Keeper g.row.D.Denot g.D.Disk). KeepsNotes g.D.Disk c.args.keeper.now k) (sym c.report_fault.ensures.nothing)
    (reporting_then g.D.Disk c.args.keeper.now c.calls.keeper c.step.new.self c.calls.invariant.2 (λ is. (c.calls.invariant.1 is).store) c.step.ensures.notes_stay)

pub report-requires-clause-stored : goal.report-requires-clause-stored
report-requires-clause-stored g c =
    let d = g.D.Disk in
    let first = c.args.keeper.now in
    let mid = c.calls.keeper in
    let done = c.step.new.self in
    let h = history_of first.reporter.log in
    let m = history_of mid.reporter.log in
    let n = history_of done.reporter.log in
    c.requires.stored done.reporter.log done.held.flusher
    (λ is.
    let was = c.calls.invariant.1 is in
    further d h m n first.held.flusher mid.held.flusher done.held.flusher (by_run d h m first.held.flusher mid.held.flusher c.calls.invariant.3 was)
    (by_call d m n mid.held.flusher done.held.flusher c.step.ensures.name (c.step.ensures.keeps was.store)))

pub report_fault-requires-clause-failed : goal.report_fault-requires-clause-failed
report_fault-requires-clause-failed g c =
    let d = g.D.Disk in
    let first = c.args.keeper.now in
    let mid = c.calls.keeper in
    let new = c.step.new.self in
    let h = history_of first.reporter.log in
    let m = history_of mid.reporter.log in
    let n = history_of new.reporter.log in
    let fault = reported_fault_of c.in-Err.fault in
    c.requires.failed new.reporter.log fault (λ is.
    let run = c.calls.invariant.1 is in
    let kept = c.step.ensures.keeps run.store in
    failed_then d h m first.held.flusher mid.held.flusher new.reporter.log fault (by_run d h m first.held.flusher mid.held.flusher c.calls.invariant.3 run, run.by_device, run.blocks) (record {
      store = new.held.flusher;
      followed = by_call d m n mid.held.flusher new.held.flusher c.step.ensures.name kept;
      by_device = kept.by_device;
      blocks = kept.blocks;
      fails = step_fails d mid.held.flusher new.held.flusher (newest_in new.reporter.log) c.in-Err.fault c.in-Err.ensures.failed
          (on_err (λ f. (f ≡ faults.Failed) ⊎ ((f ≡ faults.Device) × device.Failed (d.faults mid.held.flusher.commit.disk) (d.faults new.held.flusher.commit.disk))) c.step.result c.in-Err.fault c.in-Err.is
          (c.step.ensures.cause run.store.honest));
    }))
