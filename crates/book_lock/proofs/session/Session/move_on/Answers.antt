use Rattle.std.proofs.Common.{◌<◌, length, sym, ap, ◌∙◌, subst, IfSome, arith}
use mathlib.Core.List.{IsPrefix}
use Rattle.left_right.specs.Sides.{view}
use Rattle.book_history.specs.Logs.{newest_in}
use Rattle.book_history.specs.BookLogs.{BookLog, Begins}
use Rattle.book_history.proofs.Fronts.{prefix_length}
use Rattle.book_history.proofs.Owned.{own_longer, take_same}
use Rattle.book_lock.proofs.session.Session.move_on.Goals as goal

pub invariant_of-self : goal.invariant_of-self
invariant_of-self c =
    let was = c.self.inside.seen_log in
    let grown = subst (λ l. IsPrefix l c.args.to.now.log) (sym (ap (λ k. k.log) c.self.view_is)) c.requires.longer in
    let grown' : IsPrefix was.log c.again.result.log = subst (λ (t : BookLog). IsPrefix was.log t.log) (sym c.again.ensures) grown in
    let le = prefix_length was.log c.again.result.log grown' in
    let some_there : 0 < length was.log = c.self.invariant.1 in
    (own_longer c.self.inside.number c.self.inside.count was.log c.again.result.log grown' c.self.invariant.0, omega arith, subst (λ (t : BookLog). IfSome c.moved.result (λ r. Begins t (view r.place))) (sym c.again.ensures) c.moved.ensures, ap (λ (t : BookLog). (newest_in t.log).number) c.again.ensures ∙ c.requires.newest)

pub returns : goal.returns
returns c =
    let was = c.self.inside.seen_log in
    let grown = subst (λ l. IsPrefix l c.args.to.now.log) (sym (ap (λ k. k.log) c.self.view_is)) c.requires.longer in
    let same = c.again.ensures in
    let grown' : IsPrefix was.log c.again.result.log = subst (λ (t : BookLog). IsPrefix was.log t.log) (sym same) grown in
    let book = ap (λ (t : BookLog). t.book) same ∙ c.requires.book in
    let by = ap (λ k. k.session) c.self.view_is in
    let seen = ap (λ (t : BookLog). t.log) same in
    let made = take_same c.self.inside.number c.self.inside.count was.log c.again.result.log grown' c.self.invariant.0 ∙ ap (λ k. k.made) c.self.view_is in
    λ i. record { book = book i; session = by i; log = seen i; made = made i }
