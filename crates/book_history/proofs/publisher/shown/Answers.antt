use Rattle.std.proofs.Common.{◌≡◌, ◌∙◌, refl, sym, ap, fold}
use Rattle.std.proofs.lemmas.Bool.{false≢true}
use Rattle.book_history.proofs.Publishing.{at_good, at_bad}
use Rattle.book_history.proofs.BookLogLemmas.{may_show}
use Rattle.book_history.proofs.publisher.shown.Goals as goal

pub show-init : goal.show-init
show-init g c =
    (refl, c.requires.pending, may_show (λ p. p.seen_log) _ _ c.args.publisher.desk.shown.value _ c.args.next.value _ c.requires.longer refl c.requires.pending)

pub returns-then-is_ok : goal.returns-then-is_ok
returns-then-is_ok g c =
    let p = c.publish_as-after in
    let good = sym c.is_ok.ensures.value ∙ c.if-is_ok.true in
    let values = at_good _ _ p.result.1 good p.ensures.values in
    let shown : p.result.0.desk.shown.value.seen_log ≡ c.args.next.value.seen_log = values.0 ∙ ap (λ l. fold (λ t q. q.seen_log) c.show.publisher.desk.shown.value.seen_log l) c.show.invariant.1 in
    record { shown = shown; known = (at_good _ _ p.result.1 good p.ensures.rule).1 ∙ shown; pending = values.1 }

pub show-preserved : goal.show-preserved
show-preserved g c =
    let p = c.publish_as-after in
    let values = at_bad _ _ p.result.1 (sym c.is_ok.ensures.value ∙ c.if-is_ok.false) p.ensures.values in
    let shown = values.0 ∙ c.show.invariant.0 in
    let waits = values.1 ∙ c.show.invariant.1 in
    (shown, waits, may_show (λ p. p.seen_log) _ _ _ _ _ _ c.requires.longer shown waits)

pub unreachable-requires : goal.unreachable-requires
unreachable-requires g c = false≢true c.in-None.ensures.steps
