use Rattle.std.proofs.Common.{◌≡◌, refl, subst, sym}
use Rattle.book_history.specs.BookLogs.{BookLog}
use Rattle.book_history.specs.Logs.{history_of}
use Rattle.book_history.proofs.Chains.{is_history}
use Rattle.store_flushing.specs.ReportNote.{notes_in}
use Rattle.store_flushing.proofs.ReportedLemmas.{none_reported}
use Rattle.store_flushing.proofs.keeper.Keeper.step.Goals as goal

pub returns-clause-keeps : goal.returns-clause-keeps
returns-clause-keeps g c is =
    let log = c.args.self.now.reporter.log in
    c.step.ensures.keeps (history_of log) (is_history log c.given.ensures.valid) is

pub returns-clause-notes_stay : goal.returns-clause-notes_stay
returns-clause-notes_stay g c is =
    let k = c.args.self.now in
    let h = history_of k.reporter.log in
    none_reported g.D.Disk h h k.held.flusher c.step.new.self.flusher (notes_in k.notes) (returns-clause-keeps g c is) refl

pub invariant_of-self : goal.invariant_of-self
invariant_of-self g c =
    let k = c.args.self.now in
    record { same_book = subst (λ (l : BookLog). ∥ l.book ≡ k.reporter.book ∥₁) (sym c.step.ensures.same) k.same_book }
