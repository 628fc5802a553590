use Rattle.std.proofs.Common.{IfErr, IfOk, ◌∙◌, Bool, ap, is_some, length, refl, subst, sym}
use Rattle.std.proofs.lemmas.Result.{IfOk-weaker}
use Rattle.std.specs.List.{AllZip}
use Rattle.book_lock.specs.Steps.{beginners}
use Rattle.session_threads.specs.Fuse.{until_end}
use Rattle.overlay_terms.specs.Histories.{History}
use Rattle.script_form.specs.Transcript.{StoreReport}
use Rattle.overlay_server.specs.Given.{given_to}
use Rattle.overlay_server.specs.Refusing.{IsRefusedOf}
use Rattle.overlay_server.specs.Serving.{IsLeftFrom, ServerReports}
use Rattle.kept_store.specs.Beginning.{flusher_of, start_of}
use Rattle.overlay_server.proofs.Disks.{disk_left}
use Rattle.overlay_server.proofs.Reporting.{has_engine, with_beginners}
use Rattle.overlay_server.proofs.serving.serve_ports.Goals as goal

pub serve_in-requires-clause-reported : goal.serve_in-requires-clause-reported
serve_in-requires-clause-reported g c κs within =
    let engine = c.args.begun.engine in
    let opened = c.opened-head in
    let may = g.W.ReplyWriter.may_report in
    subst (λ v. (history : History) (report : StoreReport) → ServerReports g.D.Disk v opened.result.3.flusher history report → may history report) (sym opened.ensures.version)
    (subst (λ f. (history : History) (report : StoreReport) → ServerReports g.D.Disk (start_of engine) f history report → may history report) (sym opened.ensures.flusher) c.requires.reported)

pub serve_in-requires-clause-from : goal.serve_in-requires-clause-from
serve_in-requires-clause-from g c κs within =
    let ports = c.args.ports.items in
    let log = c.opened-head.result.1 in
    let opened = c.opened-head in
    let there = ap is_some opened.ensures.flusher ∙ has_engine c.args.begun.engine in
    subst (λ (b : Bool). AllZip (λ port me. g.W.ReplyWriter.from port.writer b me) ports (beginners log (length ports))) (sym there)
    (with_beginners (λ port me. g.W.ReplyWriter.from port.writer (is_some c.args.begun.engine) me) ports log (length ports) refl c.requires.from)

pub returns-clause-left : goal.returns-clause-left
returns-clause-left g c =
    let engine = c.args.begun.engine in
    let opened = c.opened-head in
    let contents = g.W.ReplyWriter.contents in
    let all = given_to (until_end g.R.Read.remaining) contents c.args.ports.items in
    subst (λ v. IfOk c.serve_in.result (IsLeftFrom contents g.D.Disk v (flusher_of engine) all)) opened.ensures.version
    (subst (λ f. IfOk c.serve_in.result (IsLeftFrom contents g.D.Disk opened.result.2 f all)) opened.ensures.flusher c.serve_in.ensures.left)

pub returns-clause-disk : goal.returns-clause-disk
returns-clause-disk g c =
    let opened = c.opened-head in
    IfOk-weaker c.serve_in.result _ _
    (λ left is. disk_left g.D.Disk opened.result.2 opened.result.3.flusher left.closed is.kept ∙ ap is_some opened.ensures.flusher ∙ has_engine c.args.begun.engine)
    c.serve_in.ensures.left

pub returns-clause-refused : goal.returns-clause-refused
returns-clause-refused g c =
    let engine = c.args.begun.engine in
    let opened = c.opened-head in
    let remaining = until_end g.R.Read.remaining in
    let contents = g.W.ReplyWriter.contents in
    let all = given_to remaining contents c.args.ports.items in
    subst (λ v. IfErr c.serve_in.result (IsRefusedOf remaining contents g.D.Disk v (flusher_of engine) all)) opened.ensures.version
    (subst (λ f. IfErr c.serve_in.result (IsRefusedOf remaining contents g.D.Disk opened.result.2 f all)) opened.ensures.flusher c.serve_in.ensures.refused)
