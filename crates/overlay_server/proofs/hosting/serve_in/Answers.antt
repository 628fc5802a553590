use Rattle.std.proofs.Common.{rules, ◌≡◌, ◌∙◌, ap, refl, Bool, List, IfErr, IfOk, is_some, length, subst, sym}
use Rattle.std.specs.List.{AllZip}
use Rattle.book_history.specs.Known.{Known}
use Rattle.book_lock.specs.Steps.{beginners}
use Rattle.overlay_terms.specs.Histories.{History}
use Rattle.script_form.specs.Transcript.{StoreReport}
use Rattle.kept_store.specs.Beginning.{name_in}
use Rattle.store_flushing.specs.Stores.{flusher_in}
use Rattle.overlay_server.specs.Given.{given_to}
use Rattle.overlay_server.specs.Hosting.{IsHosted}
use Rattle.overlay_server.specs.Refusing.{IsRefusedOf}
use Rattle.overlay_server.specs.Serving.{IsLeftFrom, ServerReports, first_log}
use Rattle.overlay_server.proofs.Reporting.{log_is}
use Rattle.overlay_server.proofs.StoreParts.{CountsAs, FailsAs}
use Rattle.overlay_server.proofs.hosting.serve_in.Goals as goal

pub run-requires-clause-hosted : goal.run-requires-clause-hosted
run-requires-clause-hosted g c κs within =
    let count : c.len.result ≡ length c.args.ports.items = search rules in
    subst (λ n. IsHosted g.J.BookName.book n c.in-Ok.hosted) count c.in-Ok.ensures.hosted

pub run-requires-clause-mine : goal.run-requires-clause-mine
run-requires-clause-mine g c κs within = c.requires.mine ∙ ap name_in (sym c.in-Ok.ensures.flusher)

pub run-requires-clause-meant : goal.run-requires-clause-meant
run-requires-clause-meant g c κs within =
    let hosted = c.in-Ok in
    subst (λ v. CountsAs g.D.Disk g.J.BookName.stored v (flusher_in hosted.hosted.store)) (sym hosted.ensures.version)
    (subst (CountsAs g.D.Disk g.J.BookName.stored c.args.version) (sym hosted.ensures.flusher) c.requires.stored)

pub run-requires-clause-failed : goal.run-requires-clause-failed
run-requires-clause-failed g c κs within =
    let hosted = c.in-Ok in
    subst (λ v. FailsAs g.D.Disk g.J.BookName.failed v (flusher_in hosted.hosted.store)) (sym hosted.ensures.version)
    (subst (FailsAs g.D.Disk g.J.BookName.failed c.args.version) (sym hosted.ensures.flusher) c.requires.failed)

pub run-requires-clause-reported : goal.run-requires-clause-reported
run-requires-clause-reported g c κs within =
    let hosted = c.in-Ok in
    let may = g.W.ReplyWriter.may_report in
    subst (λ v. (history : History) (report : StoreReport) → ServerReports g.D.Disk v (flusher_in hosted.hosted.store) history report → may history report) (sym hosted.ensures.version)
    (subst (λ f. (history : History) (report : StoreReport) → ServerReports g.D.Disk c.args.version f history report → may history report) (sym hosted.ensures.flusher) c.requires.reported)

pub run-requires-clause-from : goal.run-requires-clause-from
run-requires-clause-from g c κs within =
    let flusher = c.args.store.flusher in
    let ports = c.args.ports.items in
    let hosted = c.in-Ok.hosted in
    let given = c.in-Ok.ensures.hosted in
    let count : c.len.result ≡ length ports = search rules in
    let goes : Bool → List Known → Type 0 = λ there ks. AllZip (λ port me. g.W.ReplyWriter.from port.writer there me) ports ks in
    let opened : c.args.opened.1 ≡ record { book = g.J.BookName.book; log = first_log hosted.version.value } =
    log_is c.args.opened.1 g.J.BookName.book (first_log hosted.version.value) c.requires.book (c.requires.begun ∙ ap first_log (sym c.in-Ok.ensures.version)) in
    subst (λ there. goes there hosted.sessions.items) (sym (given.stored ∙ ap is_some c.in-Ok.ensures.flusher))
    (subst (goes (is_some flusher)) (sym (given.sessions ∙ ap (λ l. beginners l c.len.result) (sym opened) ∙ ap (beginners c.args.opened.1) count)) c.requires.from)

pub returns-in-Err-clause-refused : goal.returns-in-Err-clause-refused
returns-in-Err-clause-refused g c =
    let all = given_to g.R.Read.remaining g.W.ReplyWriter.contents c.args.ports.items in
    record { fault = c.in-Err.ensures.refused all; ports = (refl, c.in-Err.ensures.sessions) }

pub returns-in-Ok-clause-left : goal.returns-in-Ok-clause-left
returns-in-Ok-clause-left g c =
    let version = c.args.version in
    let flusher = c.args.store.flusher in
    let hosted = c.in-Ok in
    let all = given_to g.R.Read.remaining g.W.ReplyWriter.contents c.args.ports.items in
    subst (λ v. IfOk c.run.result (IsLeftFrom g.W.ReplyWriter.contents g.D.Disk v flusher all)) hosted.ensures.version
    (subst (λ f. IfOk c.run.result (IsLeftFrom g.W.ReplyWriter.contents g.D.Disk hosted.hosted.version.value f all)) hosted.ensures.flusher c.run.ensures.left)

pub returns-in-Ok-clause-refused : goal.returns-in-Ok-clause-refused
returns-in-Ok-clause-refused g c =
    let version = c.args.version in
    let flusher = c.args.store.flusher in
    let hosted = c.in-Ok in
    let remaining = g.R.Read.remaining in
    let contents = g.W.ReplyWriter.contents in
    let all = given_to remaining contents c.args.ports.items in
    subst (λ v. IfErr c.run.result (IsRefusedOf remaining contents g.D.Disk v flusher all)) hosted.ensures.version
    (subst (λ f. IfErr c.run.result (IsRefusedOf remaining contents g.D.Disk hosted.hosted.version.value f all)) hosted.ensures.flusher c.run.ensures.refused)
