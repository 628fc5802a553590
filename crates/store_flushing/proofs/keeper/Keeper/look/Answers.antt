use Rattle.std.proofs.Common.{◌≡◌, refl, subst, sym, arith}
use Rattle.logbook.specs.Pages.{Book}
use Rattle.book_history.specs.Logs.{history_of}
use Rattle.book_history.proofs.Chains.{is_history}
use Rattle.store_flushing.specs.ReportNote.{notes_in}
use Rattle.store_flushing.proofs.Remembered.{none_so, same_keeper}
use Rattle.kept_store.proofs.Storage.{kept, longer}
use Rattle.store_flushing.proofs.ReportedLemmas.{none_reported}
use Rattle.store_flushing.proofs.keeper.Keeper.look.Goals as goal

pub returns-clause-history : goal.returns-clause-history
returns-clause-history g c = is_history c.next_version-looked.new.me.log c.given.ensures.valid

pub returns-clause-keeps : goal.returns-clause-keeps
returns-clause-keeps g c is =
    let d = g.D.Disk in
    let h = history_of c.args.self.now.reporter.log in
    let s = c.args.self.now.held.flusher in
    let m = history_of c.next_version-looked.new.me.log in
    let e = c.next_version-looked.ensures in
    kept d h m s s (longer d h m s (λ k left. g.met.D.Disk.only_now s.commit.disk k is.honest left) e.goes_on e.durable is)
    (returns-clause-history g c) (omega (arith, e.durable, is.reported))

pub returns-clause-notes_stay : goal.returns-clause-notes_stay
returns-clause-notes_stay g c is =
    let s = c.args.self.now.held.flusher in
    let log = c.next_version-looked.new.me.log in
    none_reported g.D.Disk (history_of c.args.self.now.reporter.log) (history_of log) s s (notes_in c.args.self.now.notes) (returns-clause-keeps g c is)
    c.next_version-looked.ensures.durable

pub invariant_of-self : goal.invariant_of-self
invariant_of-self g c =
    let k = c.args.self.now in
    record { same_book = subst (λ (b : Book). ∥ k.held.seen_log.book ≡ b ∥₁) (sym c.next_version-looked.ensures.same) k.same_book }

pub returns-clause-none : goal.returns-clause-none
returns-clause-none g c =
    let k = c.args.self.now in
    none_so c.next_version-looked.result (λ is. same_keeper k c.next_version-looked.new.me k.held is refl _) c.next_version-looked.ensures.none
