use Rattle.std.proofs.Common.{◌≡◌}
use Rattle.left_right.specs.Sides.{view}
use Rattle.book_lock.specs.Steps.{beginners}
use Rattle.book_lock.proofs.locked_log.beginners.Given as goal

abbrev pub invariant-loop-number : goal.invariant-loop-number
invariant-loop-number l =
    (l.publisher.desk.shown ≡ l.fn.publisher.desk.shown) × (l.publisher.log ≡ l.fn.publisher.log) × (l.publisher.behind ≡ l.fn.publisher.behind)
    × (view l.publisher.desk.place ≡ view l.fn.publisher.desk.place) × (l.list.items ≡ beginners l.first l.number)
