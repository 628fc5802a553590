use Rattle.std.proofs.Common.{ℕ, ◌≡◌, ◌≤◌, ◌⊎◌, ◌++◌, subst, sym}
use Rattle.logbook.specs.Pages.{Book}
use Rattle.book_history.specs.Logs.{history_of, newest_in}
use Rattle.book_history.proofs.Chains.{is_history}
use Rattle.book_lock.specs.Heard.{Heard}
use Rattle.store_flushing.specs.ReportNote.{news_in, notes_at, notes_in}
use Rattle.kept_store.proofs.Storage.{all_reported, report_kept, stored_level}
use Rattle.store_flushing.proofs.ReportedLemmas.{news_reported}
use Rattle.store_flushing.proofs.keeper.Keeper.report.Goals as goal

pub report-requires-clause-stored : goal.report-requires-clause-stored
report-requires-clause-stored g c = subst (g.J.BookName.stored c.args.self.now.reporter.log) (sym c.receipt.ensures.number) c.requires.stored

pub returns-clause-history : goal.returns-clause-history
returns-clause-history g c = is_history c.report.new.me.log c.given.ensures.valid

pub returns-clause-keeps : goal.returns-clause-keeps
returns-clause-keeps g c is =
    let d = g.D.Disk in
    let h = history_of c.args.self.now.reporter.log in
    let n = history_of c.report.new.me.log in
    let s = c.args.self.now.held.flusher in
    let e = c.report.ensures in
    let reported = subst (λ (k : ℕ). ((newest_in c.report.new.me.log).durable ≡ k) ⊎ ((newest_in c.report.new.me.log).durable ≡ (newest_in c.args.self.now.reporter.log).durable)) c.receipt.ensures.number e.reported in
    report_kept d h n s (λ k left. g.met.D.Disk.only_now s.commit.disk k is.honest left) e.goes_on reported is (returns-clause-history g c)

pub returns-clause-reported : goal.returns-clause-reported
returns-clause-reported g c is =
    let d = g.D.Disk in
    let h = history_of c.args.self.now.reporter.log in
    let n = history_of c.report.new.me.log in
    let s = c.args.self.now.held.flusher in
    let e = c.report.ensures in
    let reported = subst (λ (k : ℕ). ((newest_in c.report.new.me.log).durable ≡ k) ⊎ ((newest_in c.report.new.me.log).durable ≡ (newest_in c.args.self.now.reporter.log).durable)) c.receipt.ensures.number e.reported in
    let reached = subst (λ (k : ℕ). k ≤ (newest_in c.args.self.now.reporter.log).number → k ≤ (newest_in c.report.new.me.log).durable) c.receipt.ensures.number e.reached in
    all_reported d h n s (λ k left. g.met.D.Disk.only_now s.commit.disk k is.honest left) e.goes_on reported is reached (stored_level d g.met.D.Disk.seen_may_stay h s e.history is)

pub returns-clause-notes_stay : goal.returns-clause-notes_stay
returns-clause-notes_stay g c is =
    let s = c.args.self.now.held.flusher in
    let log = c.report.new.me.log in
    news_reported g.D.Disk (history_of c.args.self.now.reporter.log) (history_of log) s (notes_in c.args.self.now.notes) (notes_in c.write.new.self)
    (λ k left. g.met.D.Disk.only_now s.commit.disk k is.honest left) (returns-clause-keeps g c is)
    (subst (λ (r : Heard). notes_in c.write.new.self ≡ notes_in c.args.self.now.notes ++ notes_at (g.D.Disk.moment s.commit.disk) (news_in (history_of r.log) (history_of log)))
    c.of-was.ensures c.write.ensures)

pub invariant_of-self : goal.invariant_of-self
invariant_of-self g c =
    let k = c.args.self.now in
    record { same_book = subst (λ (b : Book). ∥ k.held.seen_log.book ≡ b ∥₁) (sym c.report.ensures.same) k.same_book }
