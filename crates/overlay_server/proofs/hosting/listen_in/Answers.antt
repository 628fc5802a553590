use Rattle.std.proofs.Common.{rules, ◌≡◌, ◌∙◌, ap, length, subst, sym}
use Rattle.book_lock.proofs.Beginning.{count_of}
use Rattle.session_threads.specs.Fuse.{until_end}
use Rattle.kept_store.specs.Beginning.{name_in}
use Rattle.store_flushing.specs.Stores.{flusher_in}
use Rattle.overlay_server.specs.Asking.{IsAsked}
use Rattle.overlay_server.specs.Given.{bytes_of, given_by, given_to}
use Rattle.overlay_server.specs.Hosting.{IsHosted}
use Rattle.overlay_server.specs.Refusing.{IsRefusedFrom}
use Rattle.overlay_server.specs.Serving.{IsLeftFrom}
use Rattle.overlay_server.proofs.Refusals.{passed_on}
use Rattle.overlay_server.proofs.Reporting.{beside_any}
use Rattle.overlay_server.proofs.StoreParts.{CountsAs, FailsAs}
use Rattle.overlay_server.proofs.hosting.listen_in.Goals as goal

pub returns-in_err-hosted-clause-refused : goal.returns-in_err-hosted-clause-refused
returns-in_err-hosted-clause-refused g c =
    let all = given_by g.R.Read.remaining c.args.readers.items in
    passed_on (IsRefusedFrom g.D.Disk c.args.version c.args.store.flusher all) c.from_residual.result c.in_err-hosted.field-0.0 c.from_residual.ensures.1
    (c.in_err-hosted.ensures.refused all)

pub run-requires-clause-hosted : goal.run-requires-clause-hosted
run-requires-clause-hosted g c κs within =
    let count : c.len.result ≡ length c.args.readers.items = search rules in
    subst (λ n. IsHosted g.J.BookName.book n c.in_ok-hosted.hosted) (count ∙ sym c.in-Some.ensures.count) c.in_ok-hosted.ensures.hosted

-- lists of bytes go on from anywhere
pub run-requires-clause-from : goal.run-requires-clause-from
run-requires-clause-from g c κs within =
    let ports = c.in-Some.ports.items in
    let count : c.len.result ≡ length c.args.readers.items = search rules in
    let sessions = c.in_ok-hosted.ensures.hosted.sessions in
    beside_any ports c.in_ok-hosted.hosted.sessions.items (λ port me. tt) (c.in-Some.ensures.count ∙ sym count ∙ sym (ap length sessions ∙ count_of _ c.len.result))

pub run-requires-clause-mine : goal.run-requires-clause-mine
run-requires-clause-mine g c κs within = c.requires.mine ∙ ap name_in (sym c.in_ok-hosted.ensures.flusher)

pub run-requires-clause-meant : goal.run-requires-clause-meant
run-requires-clause-meant g c κs within =
    let hosted = c.in_ok-hosted in
    subst (λ v. CountsAs g.D.Disk g.J.BookName.stored v (flusher_in hosted.hosted.store)) (sym hosted.ensures.version)
    (subst (CountsAs g.D.Disk g.J.BookName.stored c.args.version) (sym hosted.ensures.flusher) c.requires.stored)

pub run-requires-clause-failed : goal.run-requires-clause-failed
run-requires-clause-failed g c κs within =
    let hosted = c.in_ok-hosted in
    subst (λ v. FailsAs g.D.Disk g.J.BookName.failed v (flusher_in hosted.hosted.store)) (sym hosted.ensures.version)
    (subst (FailsAs g.D.Disk g.J.BookName.failed c.args.version) (sym hosted.ensures.flusher) c.requires.failed)

pub run-requires-clause-asked : goal.run-requires-clause-asked
run-requires-clause-asked g c κs within = subst (IsAsked g.J.BookName.asked) (sym c.in-Some.ensures.given) c.requires.asked

pub returns-in-Ok-clause-left : goal.returns-in-Ok-clause-left
returns-in-Ok-clause-left g c =
    let version = c.args.version in
    let flusher = c.args.store.flusher in
    let hosted = c.in_ok-hosted in
    let left = c.in-Ok.left in
    let all = given_to (until_end g.R.Read.remaining) bytes_of c.in-Some.ports.items in
    subst (λ given. IsLeftFrom bytes_of g.D.Disk version flusher given left) c.in-Some.ensures.given
    (subst (λ v. IsLeftFrom bytes_of g.D.Disk v flusher all left) hosted.ensures.version
    (subst (λ f. IsLeftFrom bytes_of g.D.Disk hosted.hosted.version.value f all left) hosted.ensures.flusher c.in-Ok.ensures.left))

pub returns-in-Err-clause-refused : goal.returns-in-Err-clause-refused
returns-in-Err-clause-refused g c =
    let version = c.args.version in
    let flusher = c.args.store.flusher in
    let hosted = c.in_ok-hosted in
    let fault = c.in-Err.refused.fault in
    let all = given_to (until_end g.R.Read.remaining) bytes_of c.in-Some.ports.items in
    subst (λ given. IsRefusedFrom g.D.Disk version flusher given fault) c.in-Some.ensures.given
    (subst (λ v. IsRefusedFrom g.D.Disk v flusher all fault) hosted.ensures.version
    (subst (λ f. IsRefusedFrom g.D.Disk hosted.hosted.version.value f all fault) hosted.ensures.flusher c.in-Err.ensures.refused.fault))

pub returns-in_default-clause-refused : goal.returns-in_default-clause-refused
returns-in_default-clause-refused g c =
    let version = c.args.version in
    let flusher = c.args.store.flusher in
    let hosted = c.in_ok-hosted in
    let all = given_by g.R.Read.remaining c.args.readers.items in
    subst (λ v. IsRefusedFrom g.D.Disk v flusher all c.unserved.result) hosted.ensures.version
    (subst (λ f. IsRefusedFrom g.D.Disk hosted.hosted.version.value f all c.unserved.result) hosted.ensures.flusher (c.unserved.ensures all))
