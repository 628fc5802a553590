use Rattle.std.proofs.Common.{◌<◌, ◌++◌, ◌∷◌, [], length, ap, sym, ◌∙◌, subst}
use Rattle.book_history.specs.BookLogs.{BookLog}
use Rattle.book_history.proofs.BookLogLemmas.{begins_same}
use Rattle.book_history.proofs.publisher.first_publisher.Goals as goal

pub returns-in_default : goal.returns-in_default
returns-in_default g c = tt

pub returns-in_default-new : goal.returns-in_default-new
returns-in_default-new g c = tt

pub shown-requires : goal.shown-requires
shown-requires g c =
    let first = c.in-Ok.ensures.0 in
    let known = c.of-known.ensures in
    let written = c.in-Ok-append.ensures in
    let shown = ap (λ d. d.shown.value.seen_log) written.desk ∙ ap (λ p. p.seen_log) first in
    let next = ap (λ p. p.seen_log) known ∙ c.in-Ok-Ok.ensures'.0 in record {
      pending = written.pending ∙ ap (λ l. l ++ c.in-Ok-Ok.next ∷ []) c.in-Ok.ensures.1 ∙ ap (λ n. n ∷ []) (sym known);
      longer = begins_same _ _ (shown ∙ sym next) (subst (λ (t : BookLog). 0 < length t.log) (sym shown) c.requires.begun);
    }

pub returns-in-Ok-append : goal.returns-in-Ok-append
returns-in-Ok-append g c =
    let put = c.shown.ensures in
    let next = ap (λ p. p.seen_log) c.of-known.ensures ∙ c.in-Ok-Ok.ensures'.0 in
    (put.shown ∙ next, put.pending, put.known ∙ next)
