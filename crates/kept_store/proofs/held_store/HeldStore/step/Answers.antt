use Rattle.kept_store.proofs.FailLemmas.{step_cause}
use Rattle.kept_store.proofs.Storage.{step_kept, steps}
use Rattle.kept_store.proofs.held_store.HeldStore.step.Goals as goal

pub returns-then-matches-clause-keeps : goal.returns-then-matches-clause-keeps
returns-then-matches-clause-keeps g c h valid is =
    let d = g.D.Disk in
    let s = c.args.self.now.flusher in
    let u = c.step-stepped.new.self in
    let e = c.step-stepped.ensures in
    step_kept d h s u valid is (steps d h s u c.step-stepped.result (λ k left. g.met.D.Disk.only_now s.commit.disk k is.honest left) e.moves e.stored e.honest.1 e.idle e.stuck is) (e.by_device is.honest) e.blocks

pub returns-else-matches-clause-keeps : goal.returns-else-matches-clause-keeps
returns-else-matches-clause-keeps g c h valid is =
    let d = g.D.Disk in
    let s = c.args.self.now.flusher in
    let u = c.step-stepped.new.self in
    let e = c.step-stepped.ensures in
    step_kept d h s u valid is (steps d h s u c.step-stepped.result (λ k left. g.met.D.Disk.only_now s.commit.disk k is.honest left) e.moves e.stored e.honest.1 e.idle e.stuck is) (e.by_device is.honest) e.blocks

pub returns-then-matches-clause-cause : goal.returns-then-matches-clause-cause
returns-then-matches-clause-cause g c honest =
    let e = c.step-stepped.ensures in
    step_cause g.D.Disk c.args.self.now.flusher c.step-stepped.new.self c.step-stepped.result e.errors (e.cause honest)

pub returns-else-matches-clause-cause : goal.returns-else-matches-clause-cause
returns-else-matches-clause-cause g c honest =
    let e = c.step-stepped.ensures in
    step_cause g.D.Disk c.args.self.now.flusher c.step-stepped.new.self c.step-stepped.result e.errors (e.cause honest)
