use Rattle.std.specs.Prelude.{◌≡◌, ◌<◌, ◌≤◌, ◌+◌, ℕ, true, None}
use Rattle.overlay_terms.specs.Column.{column_count}
use Rattle.overlay_terms.specs.Histories.{tile_at}
use Rattle.version_book.specs.HeldTiles.{is_held}
use Rattle.version_book.proofs.pending.free_at.Given as goal

-- the tiles of the columns so far are finished or held: from the first one on, and from 0 on after the last
abbrev pub invariant-loop-step : goal.invariant-loop-step
invariant-loop-step l = record {
  ahead : (k : ℕ) → k < l.first + l.step → l.first ≤ k → k < column_count → tile_at l.version.tiles l.name k ≡ None → is_held l.name k l.held.list.items ≡ true;
  behind : (n : ℕ) → n < l.first + l.step → (k : ℕ) → k + column_count ≡ n → tile_at l.version.tiles l.name k ≡ None → is_held l.name k l.held.list.items ≡ true;
}
