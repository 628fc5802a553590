use Rattle.std.proofs.Common.{◌≡◌, drop, [], ◌∷◌}
use Rattle.left_right.specs.Sides.{view}
use Rattle.book_history.proofs.BookLogLemmas.{MayShow}
use Rattle.book_history.proofs.publisher.shown.Given as goal

abbrev pub invariant-show : goal.invariant-show
invariant-show g l =
    let waiting = drop l.publisher.behind l.publisher.log.items in
    (l.publisher.desk.shown.value ≡ l.fn.publisher.desk.shown.value) × (waiting ≡ l.fn.next.value ∷ [])
    × MayShow (λ p. p.seen_log) l.publisher.desk.place.id (view l.publisher.desk.place) l.publisher.desk.shown.value waiting
