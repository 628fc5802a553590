use Rattle.std.proofs.Common.{◌≡◌, drop, []}
use Rattle.book_history.proofs.publisher.write_down.Given as goal

abbrev pub invariant-write : goal.invariant-write
invariant-write g l = (l.publisher.desk ≡ l.fn.publisher.desk) × (drop l.publisher.behind l.publisher.log.items ≡ []) × (l.next ≡ l.fn.next)
