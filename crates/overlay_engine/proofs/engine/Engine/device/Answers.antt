use Rattle.std.proofs.Common.{inl, inr, refl, sym, ◌∙◌, subst}
use Rattle.overlay_engine.proofs.DeviceSteps.{never_both, resting, begun_moves, stays}
use Rattle.overlay_engine.proofs.Committed.{busy_commits, begun_carries, nothing_moves, is_honest_store}
use Rattle.overlay_engine.proofs.engine.Engine.device.Goals as goal

pub returns-in-Ok-clause-device : goal.returns-in-Ok-clause-device
returns-in-Ok-clause-device g c =
    let e = c.args.self.now in
    inr (inl (
      sym c.busy.ensures ∙ c.if-busy.false,
      record e { flusher = c.begin.new.self },
      record { idle = c.in-Ok.ensures.idle; below = c.in-Ok.ensures.below; began = c.in-Ok.ensures.begins; number = c.in-Ok.ensures.number; room = c.in-Ok.ensures.room; calls = c.in-Ok.ensures.calls; stored = c.begin.ensures.stored; disk = c.begin.ensures.disk; rest = refl },
      c.call-in-Ok.ensures.calls,
    ))

pub returns-in-Ok-clause-moves : goal.returns-in-Ok-clause-moves
returns-in-Ok-clause-moves g c start batches covers =
    let e = c.args.self.now in
    let mid = c.begin.new.self in
    let idle = resting e.flusher.commit.phase (sym c.busy.ensures ∙ c.if-busy.false) (λ failed. never_both c.begin.result _ _ c.in-Ok.is (c.begin.ensures.failed failed)) in
    begun_moves g.D.Disk start e.flusher mid c.call-in-Ok.new.self.flusher e.version batches idle c.begin.ensures.disk
    (record { began = c.in-Ok.ensures.begins; honest = λ honest. subst g.D.Disk.is_honest (sym c.begin.ensures.disk) honest; runs = c.in-Ok.ensures.begun; stored = c.begin.ensures.stored })
    (c.call-in-Ok.ensures.moves start batches) covers

pub returns-in-Err-clause-moves : goal.returns-in-Err-clause-moves
returns-in-Err-clause-moves g c start batches covers =
    let e = c.args.self.now in
    stays g.D.Disk start e.flusher c.begin.new.self e.version batches c.in-Err.ensures.err (λ f left. g.met.D.Disk.only_now e.flusher.commit.disk f covers.honest left) covers

pub returns-in-Ok-clause-commits : goal.returns-in-Ok-clause-commits
returns-in-Ok-clause-commits g c =
    let e = c.args.self.now in
    let idle = resting e.flusher.commit.phase (sym c.busy.ensures ∙ c.if-busy.false) (λ failed. never_both c.begin.result _ _ c.in-Ok.is (c.begin.ensures.failed failed)) in
    begun_carries g.D.Disk e c.begin.new.self c.call-in-Ok.new.self.flusher c.call-in-Ok.result idle c.begin.ensures.disk c.in-Ok.ensures.begun c.call-in-Ok.ensures.commits

pub returns-in-Err-clause-commits : goal.returns-in-Err-clause-commits
returns-in-Err-clause-commits g c x version is =
    let e = c.args.self.now in
    (nothing_moves g.D.Disk e c.begin.new.self x version c.in-Err.ensures.err (λ f left. g.met.D.Disk.only_now e.flusher.commit.disk f (is_honest_store g.D.Disk e x version is) left) is, tt)

pub returns-then-busy-clause-commits : goal.returns-then-busy-clause-commits
returns-then-busy-clause-commits g c x version is =
    c.call.ensures.commits x version (busy_commits g.D.Disk c.args.self.now x version (sym c.busy.ensures ∙ c.if-busy.true) is)

pub returns-in-Ok-clause-blocks : goal.returns-in-Ok-clause-blocks
returns-in-Ok-clause-blocks g c limit keeps = c.call-in-Ok.ensures.blocks limit (c.begin.ensures.blocks limit keeps)

pub returns-in-Err-clause-blocks : goal.returns-in-Err-clause-blocks
returns-in-Err-clause-blocks g c limit keeps = c.begin.ensures.blocks limit keeps
