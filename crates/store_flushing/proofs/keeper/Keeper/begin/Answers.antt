use Rattle.std.proofs.Common.{◌≡◌, refl, subst, sym}
use Rattle.book_history.specs.BookLogs.{BookLog}
use Rattle.book_history.specs.Logs.{history_of}
use Rattle.store_flushing.specs.ReportNote.{notes_in}
use Rattle.store_flushing.proofs.Remembered.{of_book, refused_so, same_keeper}
use Rattle.store_flushing.proofs.ReportedLemmas.{none_reported}
use Rattle.store_flushing.proofs.keeper.Keeper.begin.Goals as goal

pub begin-requires-clause-book : goal.begin-requires-clause-book
begin-requires-clause-book g c = of_book c.args.self.now

pub returns-clause-notes_stay : goal.returns-clause-notes_stay
returns-clause-notes_stay g c is =
    let k = c.args.self.now in
    let h = history_of k.reporter.log in
    none_reported g.D.Disk h h k.held.flusher c.begin.new.self.flusher (notes_in k.notes) (c.begin.ensures.keeps is) refl

pub returns-clause-err : goal.returns-clause-err
returns-clause-err g c =
    let k = c.args.self.now in
    refused_so c.begin.result (λ is. same_keeper k k.reporter c.begin.new.self refl is _) c.begin.ensures.err

pub invariant_of-self : goal.invariant_of-self
invariant_of-self g c =
    let k = c.args.self.now in
    record { same_book = subst (λ (l : BookLog). ∥ l.book ≡ k.reporter.book ∥₁) (sym c.begin.ensures.same) k.same_book }
