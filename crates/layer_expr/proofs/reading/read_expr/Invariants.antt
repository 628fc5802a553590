use Rattle.std.proofs.Common.{◌-◌, ◌≤◌, length, drop, false}
use Rattle.layer_expr.specs.Token.{tokens_after}
use Rattle.layer_expr.specs.Reader.{state_of}
use Rattle.layer_expr.proofs.ReadingLemmas.{IsAt}
use Rattle.layer_expr.proofs.reading.read_expr.Given as goal

-- the tokens so far can stand there, and the reader is after them
abbrev pub invariant-loop-lexeme : goal.invariant-loop-lexeme
invariant-loop-lexeme l = record {
  within : l.at ≤ length l.bytes;
  read : IsAt l.bytes l.count (tokens_after false l.at (drop l.at l.bytes)) (state_of l.reader);
}

abbrev pub decreases-loop-lexeme : goal.decreases-loop-lexeme
decreases-loop-lexeme l = length l.bytes - l.at
