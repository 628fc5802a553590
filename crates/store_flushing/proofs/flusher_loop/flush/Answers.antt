use Rattle.std.proofs.Common.{refl, ◌∙◌}
use Rattle.book_history.specs.Logs.{history_of}
use Rattle.kept_store.proofs.FailLemmas.{failed_on}
use Rattle.kept_store.proofs.Following.{by_run, handed_on}
use Rattle.kept_store.proofs.Storage.{begun, then}
use Rattle.store_flushing.proofs.ReportedLemmas.{reporting_self, reporting_then}
use Rattle.store_flushing.proofs.flusher_loop.flush.Goals as goal

pub rounds-init : goal.rounds-init
rounds-init g c =
    let s = c.args.keeper.now.held.flusher in (
      refl,
      λ is. begun g.D.Disk (history_of c.args.keeper.now.reporter.log) s (λ f left. g.met.D.Disk.only_now s.commit.disk f is.honest left) is,
      reporting_self g.D.Disk c.args.keeper.now,
      refl,
    )

pub rounds-preserved : goal.rounds-preserved
rounds-preserved g c = (
  c.round.ensures.same ∙ c.rounds.invariant.0,
  λ is.
      let was = c.rounds.invariant.1 is in
      let first = c.args.keeper.now in
      let mid = c.rounds.keeper in
      let new = c.round.new.keeper in
      then g.D.Disk (history_of first.reporter.log) (history_of mid.reporter.log) (history_of new.reporter.log) first.held.flusher mid.held.flusher new.held.flusher was
      (c.round.ensures.flushes was.store),
  reporting_then g.D.Disk c.args.keeper.now c.rounds.keeper c.round.new.keeper c.rounds.invariant.2 (λ is. (c.rounds.invariant.1 is).store) c.round.ensures.notes_stay,
  c.round.ensures.name ∙ c.rounds.invariant.3,
)

pub returns-then-not-round-clause-flushes : goal.returns-then-not-round-clause-flushes
returns-then-not-round-clause-flushes g c is =
    let was = c.rounds.invariant.1 is in
    let first = c.args.keeper.now in
    let mid = c.rounds.keeper in
    let new = c.round.new.keeper in
    then g.D.Disk (history_of first.reporter.log) (history_of mid.reporter.log) (history_of new.reporter.log) first.held.flusher mid.held.flusher new.held.flusher was
    (c.round.ensures.flushes was.store)

pub returns-then-not-round-clause-notes_stay : goal.returns-then-not-round-clause-notes_stay
returns-then-not-round-clause-notes_stay g c =
    reporting_then g.D.Disk c.args.keeper.now c.rounds.keeper c.round.new.keeper c.rounds.invariant.2 (λ is. (c.rounds.invariant.1 is).store) c.round.ensures.notes_stay

pub round-requires-clause-stored : goal.round-requires-clause-stored
round-requires-clause-stored g c =
    let d = g.D.Disk in
    let first = c.args.keeper.now in
    let mid = c.rounds.keeper in
    let h = history_of first.reporter.log in
    let m = history_of mid.reporter.log in
    handed_on d g.J.BookName.stored h m first.held.flusher mid.held.flusher (λ is. by_run d h m first.held.flusher mid.held.flusher c.rounds.invariant.3 (c.rounds.invariant.1 is)) c.requires.stored

pub round-requires-clause-failed : goal.round-requires-clause-failed
round-requires-clause-failed g c =
    let d = g.D.Disk in
    let first = c.args.keeper.now in
    let mid = c.rounds.keeper in
    let h = history_of first.reporter.log in
    let m = history_of mid.reporter.log in
    failed_on d g.J.BookName.failed h m first.held.flusher mid.held.flusher
    (λ is. let run = c.rounds.invariant.1 is in (by_run d h m first.held.flusher mid.held.flusher c.rounds.invariant.3 run, run.by_device, run.blocks)) c.requires.failed
