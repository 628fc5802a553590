use Rattle.std.proofs.Common.{◌≡◌, ◌≤◌, ◌⊎◌, subst, sym}
use Rattle.overlay_terms.specs.Histories.{BeginsWith}
use Rattle.book_history.specs.Logs.{history_of, newest_in}
use Rattle.book_history.proofs.Chains.{is_history}
use Rattle.book_lock.specs.Heard.{Heard}
use Rattle.store_flushing.proofs.ReportLemmas.{reported_durable}
use Rattle.store_flushing.proofs.reports.report.Goals as goal

pub report-requires-clause-stored : goal.report-requires-clause-stored
report-requires-clause-stored g c =
    subst (λ (h : Heard). g.J.BookName.stored h.log c.args.receipt.now.number) (sym c.tries.invariant) c.requires.stored

pub returns-in-Ok-clause-goes_on : goal.returns-in-Ok-clause-goes_on
returns-in-Ok-clause-goes_on g c =
    subst (λ (h : Heard). BeginsWith (history_of c.report.new.me.log) (history_of h.log)) c.tries.invariant c.report.ensures.goes_on

pub returns-in-Ok-clause-history : goal.returns-in-Ok-clause-history
returns-in-Ok-clause-history g c = is_history c.args.me.now.log c.given.ensures.valid

pub returns-in-Ok-clause-reached : goal.returns-in-Ok-clause-reached
returns-in-Ok-clause-reached g c level =
    let there = subst (λ (h : Heard). c.args.receipt.now.number ≤ (newest_in h.log).number) (sym c.tries.invariant) level in
    subst (λ m. c.args.receipt.now.number ≤ m) (sym c.in-Ok.ensures.ok) (c.in-Ok.ensures.reached there)

pub returns-in-Ok-clause-reported : goal.returns-in-Ok-clause-reported
returns-in-Ok-clause-reported g c =
    let now = (newest_in c.report.new.me.log).durable in
    subst (λ (h : Heard). (now ≡ c.args.receipt.now.number) ⊎ (now ≡ (newest_in h.log).durable)) c.tries.invariant
    (reported_durable c.tries.me c.args.receipt.now.number c.report.new.me.log c.in-Ok.ensures.reported)
