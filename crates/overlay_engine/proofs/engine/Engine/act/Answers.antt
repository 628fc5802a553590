use Rattle.std.proofs.Common.{refl, sym, subst}
use Rattle.overlay_engine.specs.declared.step.Step.{Step}
use Rattle.overlay_engine.specs.declared.step.Step.TheVariants.{Submit, SubmitAll, Take, Finish, Device, Report}
use Rattle.overlay_engine.specs.Acts.{Survives}
use Rattle.overlay_engine.proofs.Committed.{none_commits}
use Rattle.overlay_engine.proofs.Following.{acts_exact, acts_keep}
use Rattle.overlay_engine.proofs.Surviving.{moved, submitted, submitted_all, taken, finished, reported}
use Rattle.overlay_engine.proofs.engine.Engine.act.Goals as goal

pub returns-in-Submit-clause-survives : goal.returns-in-Submit-clause-survives
returns-in-Submit-clause-survives g c start batches covers =
    let e = c.args.self.now in
    subst (λ (step : Step). Survives g.D.Disk start batches step e c.submit.result c.submit.new.self) (sym c.in-Submit.is)
    (submitted g.D.Disk start batches e covers (λ f left. g.met.D.Disk.only_now e.flusher.commit.disk f covers.honest left)
    c.in-Submit.change c.submit.result c.submit.new.self c.submit.ensures)

pub returns-in-SubmitAll-clause-survives : goal.returns-in-SubmitAll-clause-survives
returns-in-SubmitAll-clause-survives g c start batches covers =
    let e = c.args.self.now in
    subst (λ (step : Step). Survives g.D.Disk start batches step e c.submit_all.result c.submit_all.new.self) (sym c.in-SubmitAll.is)
    (submitted_all g.D.Disk start batches e covers (λ f left. g.met.D.Disk.only_now e.flusher.commit.disk f covers.honest left)
    c.in-SubmitAll.batch c.submit_all.result c.submit_all.new.self c.submit_all.ensures)

pub returns-in-Take-clause-survives : goal.returns-in-Take-clause-survives
returns-in-Take-clause-survives g c start batches covers =
    let e = c.args.self.now in
    subst (λ (step : Step). Survives g.D.Disk start batches step e c.take.result c.take.new.self) (sym c.in-Take.is)
    (taken g.D.Disk start batches e covers (λ f left. g.met.D.Disk.only_now e.flusher.commit.disk f covers.honest left)
    c.in-Take.name c.in-Take.column c.take.result c.take.new.self c.take.ensures)

pub returns-in-Finish-clause-survives : goal.returns-in-Finish-clause-survives
returns-in-Finish-clause-survives g c start batches covers =
    let e = c.args.self.now in
    subst (λ (step : Step). Survives g.D.Disk start batches step e c.finish.result c.finish.new.self) (sym c.in-Finish.is)
    (finished g.D.Disk start batches e covers (λ f left. g.met.D.Disk.only_now e.flusher.commit.disk f covers.honest left)
    c.in-Finish.number c.finish.result c.finish.new.self c.finish.ensures)

pub returns-in-Device-clause-survives : goal.returns-in-Device-clause-survives
returns-in-Device-clause-survives g c start batches covers =
    let e = c.args.self.now in
    subst (λ (step : Step). Survives g.D.Disk start batches step e c.device.result c.device.new.self) (sym c.in-Device.is)
    (moved g.D.Disk start batches e covers c.device.result c.device.new.self c.device.ensures.device (c.device.ensures.moves start batches covers))

pub returns-in-Report-clause-survives : goal.returns-in-Report-clause-survives
returns-in-Report-clause-survives g c start batches covers =
    let e = c.args.self.now in
    subst (λ (step : Step). Survives g.D.Disk start batches step e c.report.result c.report.new.self) (sym c.in-Report.is)
    (reported g.D.Disk start batches e covers (λ f left. g.met.D.Disk.only_now e.flusher.commit.disk f covers.honest left)
    c.report.result c.report.new.self c.report.ensures)

pub returns-in-Submit-clause-exact : goal.returns-in-Submit-clause-exact
returns-in-Submit-clause-exact g c exact = acts_exact g.D.Disk (Submit c.in-Submit.change) c.args.self.now c.submit.result c.submit.new.self c.submit.ensures exact

pub returns-in-SubmitAll-clause-exact : goal.returns-in-SubmitAll-clause-exact
returns-in-SubmitAll-clause-exact g c exact = acts_exact g.D.Disk (SubmitAll c.in-SubmitAll.batch) c.args.self.now c.submit_all.result c.submit_all.new.self c.submit_all.ensures exact

pub returns-in-Take-clause-exact : goal.returns-in-Take-clause-exact
returns-in-Take-clause-exact g c exact = acts_exact g.D.Disk (Take c.in-Take.name c.in-Take.column) c.args.self.now c.take.result c.take.new.self c.take.ensures exact

pub returns-in-Finish-clause-exact : goal.returns-in-Finish-clause-exact
returns-in-Finish-clause-exact g c exact = acts_exact g.D.Disk (Finish c.in-Finish.number) c.args.self.now c.finish.result c.finish.new.self c.finish.ensures exact

pub returns-in-Device-clause-exact : goal.returns-in-Device-clause-exact
returns-in-Device-clause-exact g c exact = acts_exact g.D.Disk Device c.args.self.now c.device.result c.device.new.self c.device.ensures.device exact

pub returns-in-Report-clause-exact : goal.returns-in-Report-clause-exact
returns-in-Report-clause-exact g c exact = acts_exact g.D.Disk Report c.args.self.now c.report.result c.report.new.self c.report.ensures exact

pub returns-in-Submit-clause-blocks : goal.returns-in-Submit-clause-blocks
returns-in-Submit-clause-blocks g c limit keeps = acts_keep g.D.Disk (Submit c.in-Submit.change) c.args.self.now c.submit.result c.submit.new.self c.submit.ensures refl limit keeps

pub returns-in-SubmitAll-clause-blocks : goal.returns-in-SubmitAll-clause-blocks
returns-in-SubmitAll-clause-blocks g c limit keeps = acts_keep g.D.Disk (SubmitAll c.in-SubmitAll.batch) c.args.self.now c.submit_all.result c.submit_all.new.self c.submit_all.ensures refl limit keeps

pub returns-in-Take-clause-blocks : goal.returns-in-Take-clause-blocks
returns-in-Take-clause-blocks g c limit keeps = acts_keep g.D.Disk (Take c.in-Take.name c.in-Take.column) c.args.self.now c.take.result c.take.new.self c.take.ensures refl limit keeps

pub returns-in-Finish-clause-blocks : goal.returns-in-Finish-clause-blocks
returns-in-Finish-clause-blocks g c limit keeps = acts_keep g.D.Disk (Finish c.in-Finish.number) c.args.self.now c.finish.result c.finish.new.self c.finish.ensures refl limit keeps

pub returns-in-Report-clause-blocks : goal.returns-in-Report-clause-blocks
returns-in-Report-clause-blocks g c limit keeps = acts_keep g.D.Disk Report c.args.self.now c.report.result c.report.new.self c.report.ensures refl limit keeps

pub returns-in-Submit-clause-commits : goal.returns-in-Submit-clause-commits
returns-in-Submit-clause-commits g c = none_commits g.D.Disk (Submit c.in-Submit.change) c.args.self.now c.submit.result c.submit.new.self c.submit.ensures refl (λ honest f left. g.met.D.Disk.only_now c.args.self.now.flusher.commit.disk f honest left)

pub returns-in-SubmitAll-clause-commits : goal.returns-in-SubmitAll-clause-commits
returns-in-SubmitAll-clause-commits g c = none_commits g.D.Disk (SubmitAll c.in-SubmitAll.batch) c.args.self.now c.submit_all.result c.submit_all.new.self c.submit_all.ensures refl (λ honest f left. g.met.D.Disk.only_now c.args.self.now.flusher.commit.disk f honest left)

pub returns-in-Take-clause-commits : goal.returns-in-Take-clause-commits
returns-in-Take-clause-commits g c = none_commits g.D.Disk (Take c.in-Take.name c.in-Take.column) c.args.self.now c.take.result c.take.new.self c.take.ensures refl (λ honest f left. g.met.D.Disk.only_now c.args.self.now.flusher.commit.disk f honest left)

pub returns-in-Finish-clause-commits : goal.returns-in-Finish-clause-commits
returns-in-Finish-clause-commits g c = none_commits g.D.Disk (Finish c.in-Finish.number) c.args.self.now c.finish.result c.finish.new.self c.finish.ensures refl (λ honest f left. g.met.D.Disk.only_now c.args.self.now.flusher.commit.disk f honest left)

pub returns-in-Report-clause-commits : goal.returns-in-Report-clause-commits
returns-in-Report-clause-commits g c = none_commits g.D.Disk Report c.args.self.now c.report.result c.report.new.self c.report.ensures refl (λ honest f left. g.met.D.Disk.only_now c.args.self.now.flusher.commit.disk f honest left)
