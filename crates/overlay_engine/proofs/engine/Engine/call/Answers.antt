use Rattle.std.proofs.Common.{◌∙◌, Ok, ap}
use Rattle.overlay_engine.proofs.DeviceCalls.{called, ended}
use Rattle.overlay_engine.proofs.Committed.{carried, commits_on, committed}
use Rattle.overlay_engine.proofs.engine.Engine.call.Goals as goal

pub returns-in-Ok-Done-clause-done : goal.returns-in-Ok-Done-clause-done
returns-in-Ok-Done-clause-done g c start batches covers =
    let e = c.args.self.now in
    ended g.D.Disk start e.flusher c.step.new.self e.version batches c.step.result c.in-Ok-Done.number c.requires (c.in-Ok-Done.is ∙ ap Ok c.in-Ok-Done.field-0-is) c.step.ensures.moves covers

pub returns-in-Ok-Done-clause-moves : goal.returns-in-Ok-Done-clause-moves
returns-in-Ok-Done-clause-moves g c start batches covers =
    let e = c.args.self.now in
    called g.D.Disk start e.flusher c.step.new.self e.version batches c.step.result c.requires c.step.ensures.stored c.step.ensures.honest.1 c.step.ensures.moves covers

pub returns-in-Ok-Going-clause-moves : goal.returns-in-Ok-Going-clause-moves
returns-in-Ok-Going-clause-moves g c start batches covers =
    let e = c.args.self.now in
    called g.D.Disk start e.flusher c.step.new.self e.version batches c.step.result c.requires c.step.ensures.stored c.step.ensures.honest.1 c.step.ensures.moves covers

pub returns-in-Err-clause-moves : goal.returns-in-Err-clause-moves
returns-in-Err-clause-moves g c start batches covers =
    let e = c.args.self.now in
    called g.D.Disk start e.flusher c.step.new.self e.version batches c.step.result c.requires c.step.ensures.stored c.step.ensures.honest.1 c.step.ensures.moves covers

pub returns-in-Ok-Done-clause-commits : goal.returns-in-Ok-Done-clause-commits
returns-in-Ok-Done-clause-commits g c x version commits =
    let e = c.args.self.now in
    committed g.D.Disk e.flusher c.step.new.self x version c.step.result c.in-Ok-Done.number (c.in-Ok-Done.is ∙ ap Ok c.in-Ok-Done.field-0-is) c.step.ensures.moves commits

pub returns-in-Ok-Going-clause-commits : goal.returns-in-Ok-Going-clause-commits
returns-in-Ok-Going-clause-commits g c x version commits =
    let e = c.args.self.now in
    commits_on g.D.Disk e.flusher c.step.new.self x version c.step.result (c.in-Ok-Going.is ∙ ap Ok c.in-Ok-Going.field-0-is) c.step.ensures.moves commits

pub returns-in-Err-clause-commits : goal.returns-in-Err-clause-commits
returns-in-Err-clause-commits g c x version commits =
    let e = c.args.self.now in
    (carried g.D.Disk e.flusher c.step.new.self x version c.step.result c.step.ensures.moves commits, tt)
