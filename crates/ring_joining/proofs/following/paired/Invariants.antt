use Rattle.std.proofs.Common.{◌≡◌, ℕ, ◌<◌, length}
use Rattle.ring_joining.specs.Following.{next_of, piece_in}
use Rattle.ring_joining.proofs.following.paired.Given as goal

abbrev pub invariant-loop-k : goal.invariant-loop-k
invariant-loop-k l = record {
  count : length l.nexts.items ≡ length l.ends;
  pairs : (j : ℕ) → j < l.k → next_of l.nexts.items (piece_in l.ends j) ≡ piece_in l.starts j;
}
