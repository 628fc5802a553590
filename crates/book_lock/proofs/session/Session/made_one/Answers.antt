use Rattle.std.proofs.Common.{◌≡◌, ◌+◌, ◌≤◌, ◌∷◌, [], length, IfSome, ap, sym, ◌∙◌, subst, arith, length-append}
use Rattle.std.proofs.lemmas.List.{length-take-le, take_all}
use Rattle.std.proofs.lemmas.Option.{IfSome_then}
use Rattle.left_right.specs.Sides.{view}
use Rattle.overlay_terms.specs.Histories.{commands_of}
use Rattle.book_history.specs.Logs.{newest_in}
use Rattle.book_history.specs.BookLogs.{BookLog, Begins, IsOf}
use Rattle.book_history.proofs.Fronts.{prefix_length}
use Rattle.book_history.proofs.BookLogLemmas.{is_of_begins}
use Rattle.book_lock.proofs.session.Session.made_one.Goals as goal

pub moved-requires : goal.moved-requires
moved-requires c =
    let was = c.self.inside.seen_log in
    let book : was.book ≡ c.args.to.now.book = ap (λ k. k.book) c.self.view_is ∙ sym c.requires.book in
    let seen = subst (λ o. IfSome o (λ r. Begins was (view r.place))) (sym c.take-place.ensures.value) c.self.invariant.2 in
    IfSome_then c.take-place.result seen (λ r begins. subst (λ b. IsOf b (view r.place)) book (is_of_begins was (view r.place) begins))

pub invariant_of-self : goal.invariant_of-self
invariant_of-self c =
    let by = ap (λ k. k.session) c.self.view_is in
    let logs = ap (λ k. length k.log) c.self.view_is in
    let same = c.again.ensures in
    let longer = prefix_length c.args.self.now.log c.args.to.now.log c.requires.longer in
    let own = (λ i. length (commands_of (by i) (same i).log)) ∙ ap length c.requires.own.1 in
    let made = ap (λ k. length k.made) (sym c.self.view_is) ∙ length-take-le c.self.inside.count _ c.self.invariant.0 in (
      omega (arith, own, made, length-append c.args.self.now.made (c.requires.own.0 ∷ [])),
      omega (arith, c.self.invariant.1, logs, longer, ap (λ (t : BookLog). length t.log) same),
      subst (λ (t : BookLog). IfSome c.moved.result (λ r. Begins t (view r.place))) (sym same) c.moved.ensures,
      ap (λ (t : BookLog). (newest_in t.log).number) same ∙ c.requires.newest,
    )

pub returns : goal.returns
returns c =
    let book = ap (λ (t : BookLog). t.book) c.again.ensures ∙ c.requires.book in
    let by = ap (λ k. k.session) c.self.view_is in
    let seen = ap (λ (t : BookLog). t.log) c.again.ensures in
    let made = ap (λ k. length k.made) (sym c.self.view_is) ∙ length-take-le c.self.inside.count _ c.self.invariant.0 in
    let own : commands_of c.self.inside.number c.again.result.log ≡ commands_of c.args.self.now.session c.args.to.now.log = λ i. commands_of (by i) (seen i) in
    let all : length (commands_of c.self.inside.number c.again.result.log) ≤ c.self.inside.count + 1 = omega (arith, ap length (own ∙ c.requires.own.1), made, length-append c.args.self.now.made (c.requires.own.0 ∷ [])) in
    let taken = take_all (c.self.inside.count + 1) (commands_of c.self.inside.number c.again.result.log) all ∙ own in
    λ i. record { book = book i; session = by i; log = seen i; made = taken i }
