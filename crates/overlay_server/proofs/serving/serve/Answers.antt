use Rattle.std.proofs.Common.{IfErr, IfOk, ◌∙◌, ap, is_some, subst}
use Rattle.std.proofs.lemmas.Result.{IfOk-weaker}
use Rattle.overlay_server.specs.Given.{bytes_of, given_by}
use Rattle.overlay_server.specs.Refusing.{IsRefusedFrom}
use Rattle.overlay_server.specs.Serving.{IsLeftFrom}
use Rattle.kept_store.specs.Beginning.{flusher_of}
use Rattle.overlay_server.proofs.Disks.{disk_left}
use Rattle.overlay_server.proofs.Reporting.{has_engine}
use Rattle.overlay_server.proofs.serving.serve.Goals as goal

pub returns-clause-left : goal.returns-clause-left
returns-clause-left g c =
    let engine = c.args.begun.engine in
    let opened = c.opened-head in
    let all = given_by g.R.Read.remaining c.args.readers.items in
    subst (λ v. IfOk c.listen_in.result (IsLeftFrom bytes_of g.D.Disk v (flusher_of engine) all)) opened.ensures.version
    (subst (λ f. IfOk c.listen_in.result (IsLeftFrom bytes_of g.D.Disk opened.result.2 f all)) opened.ensures.flusher c.listen_in.ensures.left)

pub returns-clause-disk : goal.returns-clause-disk
returns-clause-disk g c =
    let opened = c.opened-head in
    IfOk-weaker c.listen_in.result _ _
    (λ served is. disk_left g.D.Disk opened.result.2 opened.result.3.flusher served.closed is.kept ∙ ap is_some opened.ensures.flusher ∙ has_engine c.args.begun.engine)
    c.listen_in.ensures.left

pub returns-clause-refused : goal.returns-clause-refused
returns-clause-refused g c =
    let engine = c.args.begun.engine in
    let opened = c.opened-head in
    let all = given_by g.R.Read.remaining c.args.readers.items in
    subst (λ v. IfErr c.listen_in.result (IsRefusedFrom g.D.Disk v (flusher_of engine) all)) opened.ensures.version
    (subst (λ f. IfErr c.listen_in.result (IsRefusedFrom g.D.Disk opened.result.2 f all)) opened.ensures.flusher c.listen_in.ensures.refused)
