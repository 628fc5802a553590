use Rattle.std.proofs.Common.{sym, ◌∙◌}
use Rattle.book_history.specs.Logs.{history_of}
use Rattle.kept_store.proofs.Remembered.{same_store}
use Rattle.kept_store.proofs.Storage.{begin_kept}
use Rattle.kept_store.proofs.held_store.HeldStore.begin.Goals as goal

pub returns-in-Ok-clause-keeps : goal.returns-in-Ok-clause-keeps
returns-in-Ok-clause-keeps g c is =
    let s = c.args.self.now.flusher in
    let e = c.begin_known.ensures in
    begin_kept g.D.Disk (history_of c.args.reporter.now.log) s c.begin_known.new.self c.args.version.now c.begin_known.result (λ k left. g.met.D.Disk.only_now s.commit.disk k is.honest left)
    c.requires.idle c.requires.history c.requires.newest e.failed e.begun e.stored e.begins e.disk e.blocks e.err is

pub returns-in-Err-clause-keeps : goal.returns-in-Err-clause-keeps
returns-in-Err-clause-keeps g c is =
    let s = c.args.self.now.flusher in
    let e = c.begin_known.ensures in
    begin_kept g.D.Disk (history_of c.args.reporter.now.log) s c.begin_known.new.self c.args.version.now c.begin_known.result (λ k left. g.met.D.Disk.only_now s.commit.disk k is.honest left)
    c.requires.idle c.requires.history c.requires.newest e.failed e.begun e.stored e.begins e.disk e.blocks e.err is

pub returns-in-Err-clause-err : goal.returns-in-Err-clause-err
returns-in-Err-clause-err g c = same_store c.args.self.now c.begin_known.new.self c.in-Err.ensures.err _ _

pub returns-in-Ok-clause-failed : goal.returns-in-Ok-clause-failed
returns-in-Ok-clause-failed g c at = sym c.in-Ok.is ∙ c.begin_known.ensures.failed at

pub returns-in-Err-clause-failed : goal.returns-in-Err-clause-failed
returns-in-Err-clause-failed g c at = sym c.in-Err.is ∙ c.begin_known.ensures.failed at
