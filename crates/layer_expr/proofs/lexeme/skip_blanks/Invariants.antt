use Rattle.std.proofs.Common.{length, ◌-◌, ◌≡◌, ◌≤◌, drop, false}
use Rattle.layer_expr.specs.Token.{tokens_after}
use Rattle.layer_expr.proofs.lexeme.skip_blanks.Given as goal

-- what was passed over holds no token
abbrev pub invariant-loop-at : goal.invariant-loop-at
invariant-loop-at l = record {
  low : l.from ≤ l.at;
  high : l.at ≤ length l.bytes;
  same : tokens_after false l.from (drop l.from l.bytes) ≡ tokens_after false l.at (drop l.at l.bytes);
}

abbrev pub decreases-loop-at : goal.decreases-loop-at
decreases-loop-at l = length l.bytes - l.at
