use Rattle.std.proofs.Common.{length, ◌-◌, ◌+◌, ◌≡◌, ◌≤◌, drop}
use Rattle.layer_expr.proofs.TokenLemmas.{name_front}
use Rattle.layer_expr.proofs.lexeme.name_end.Given as goal

-- what was passed over and what goes on are the name
abbrev pub invariant-loop-end : goal.invariant-loop-end
invariant-loop-end l = record {
  high : l.end ≤ length l.bytes;
  total : l.end + length (name_front (drop l.end l.bytes)) ≡ l.from + length (name_front (drop l.from l.bytes));
}

abbrev pub decreases-loop-end : goal.decreases-loop-end
decreases-loop-end l = length l.bytes - l.end
