use Rattle.std.specs.Prelude.{ℕ, ◌≤◌}
use Rattle.version_book.specs.Free.{IsFree}
use Rattle.version_book.proofs.strips.last_free.Given as goal

-- the tiles of the columns so far can be handed out
abbrev pub invariant-columns : goal.invariant-columns
invariant-columns l = record {
  from : l.fn.first ≤ l.last;
  free : (k : ℕ) → l.fn.first ≤ k → k ≤ l.last → IsFree l.version l.held.list.items l.name k;
}
